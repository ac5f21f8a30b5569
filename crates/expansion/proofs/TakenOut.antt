-- An input taken out of the terms that hold it: they stay in order.
use Rattle.std.proofs.Common.{◌≡◌, ◌≤◌, ◌<◌, ◌+◌, ◌^◌, ◌∙◌, ℕ, zero, suc, Bool, true, false, cond, inl, inr, List, [], ◌∷◌, length, get_or, map, refl, sym, ap, ap₂, arith, lt_of_lt_of_le, pow_mono, Less}
use Rattle.std.specs.Prelude.{All, Option, Some, None, filter}
use Rattle.std.specs.Ordering.{is_lt}
use Rattle.std.proofs.lemmas.Bool.{and_parts, cases_Bool, cases_eq, cases_order, false≢true}
use Rattle.std.proofs.lemmas.List.{get_or-map, length-map}
use Rattle.std.proofs.lemmas.List.Elements.{All-filter, All-map, All-weaker, filter_passes}
use Rattle.std.proofs.lemmas.List.Kept.{AllPairs-filter}
use Rattle.ae_base.specs.Mask.{Set, differ, has, first, inside, xor, without, members_from, members, len, least, cmp_terms}
use Rattle.ae_base.specs.Terms.{IsInOrder}
use Rattle.ae_base.proofs.Members.{below_own_power, members_enough, cmp_fewer, cmp_more, cmp_by_least, cmp_nowhere, least-is}
use Rattle.ae_base.proofs.Points.{put-same, put-other}
use Rattle.ae_base.proofs.Sets.{same_set, has-xor, has-without, inside-has, has-inside}

-- ---- the members of a term without an input

same_past : (n i j : ℕ) (s : Set) → j < i → members_from n i (without s j) ≡ members_from n i s
same_past zero i j s l = refl
same_past (suc n) i j s l = ap₂ (λ b ms. cond b (i ∷ ms) ms) (put-other j i false s (λ e. absurd (omega (arith, e, l)))) (same_past n (suc i) j s (omega (arith, l)))

one_fewer : (n i j : ℕ) (s : Set) → has s j ≡ true → i ≤ j → j < i + n → suc (length (members_from n i (without s j))) ≡ length (members_from n i s)
one_fewer zero i j s m low high = absurd (omega (arith, low, high))
one_fewer (suc n) i j s m low high =
    elim (cases_eq i j) [
      | inl e ↦
          let out : has (without s j) i ≡ false = ap (has (without s j)) e ∙ put-same j false s in
          let there : has s i ≡ true = ap (has s) e ∙ m in
          rw (out, there) (ap suc (ap length (same_past n (suc i) j s (omega (arith, e)))))
      | inr ne ↦
          let rest = one_fewer n (suc i) j s m (omega (arith, low, ne)) (omega (arith, high)) in
          rw (put-other j i false s ne) (elim (cases_Bool (has s i)) [ inl h ↦ rw h (ap suc rest) | inr h ↦ rw h rest ])
    ]

wide : (s n : ℕ) → s ≤ n → s < 2 ^ n
wide s n l = lt_of_lt_of_le (below_own_power s) (pow_mono l)

len-without : (s : Set) (j : ℕ) → has s j ≡ true → suc (len (without s j)) ≡ len s
unfolding len
len-without s j m =
    let n = suc (s + without s j + j) in
    let e : members s ≡ members_from n 0 s = members_enough n s (wide s n (omega arith)) in
    let f : members (without s j) ≡ members_from n 0 (without s j) = members_enough n (without s j) (wide (without s j) n (omega arith)) in
    rw (e, f) (one_fewer n 0 j s m (omega arith) (omega arith))

-- ---- their order

xor-without : (s t : Set) (j : ℕ) → has s j ≡ true → has t j ≡ true → xor (without s j) (without t j) ≡ xor s t
xor-without s t j in_s in_t =
    same_set _ _ (λ k. has-xor (without s j) (without t j) k ∙ elim (cases_eq k j) [
      | inl e ↦ rw e (ap₂ differ (put-same j false s) (put-same j false t) ∙ sym (ap₂ differ in_s in_t))
      | inr ne ↦ ap₂ differ (put-other j k false s ne) (put-other j k false t ne)
    ] ∙ sym (has-xor s t k))

less-without : (s t : Set) (j : ℕ) → has s j ≡ true → has t j ≡ true → cmp_terms s t ≡ Less → cmp_terms (without s j) (without t j) ≡ Less
less-without s t j in_s in_t less =
    elim (cases_order (len s) (len t)) [
      | inl l ↦ by_least l (least (xor s t)) refl
      | inr (inl l) ↦ cmp_fewer (without s j) (without t j) (omega (arith, len-without s j in_s, len-without t j in_t, l))
      | inr (inr l) ↦ absurd (false≢true (sym (ap is_lt (cmp_more s t l)) ∙ ap is_lt less))
    ]
  where
    by_least : len s ≡ len t → (o : Option ℕ) → least (xor s t) ≡ o → cmp_terms (without s j) (without t j) ≡ Less
    by_least l None e = absurd (false≢true (sym (ap is_lt (cmp_nowhere s t e)) ∙ ap is_lt less))
    by_least l (Some d) e =
        let apart = λ (f : d ≡ j). false≢true (sym (has-xor s t d ∙ ap (λ k. differ (has s k) (has t k)) f ∙ ap₂ differ in_s in_t) ∙ (least-is (xor s t) d e).0) in
        cmp_by_least (without s j) (without t j) d (ap least (xor-without s t j in_s in_t) ∙ e) (omega (arith, len-without s j in_s, len-without t j in_t, l)) (has s d) (put-other j d false s apart)
        ∙ sym (cmp_by_least s t d e l (has s d) refl) ∙ less

-- ---- the terms that hold an input, without it

abbrev pub taken : ℕ → List Set → List Set
taken j ts = map (λ t. without t j) (filter (λ t. has t j) ts)

pub order-taken : (j : ℕ) (ts : List Set) → IsInOrder ts → IsInOrder (taken j ts)
order-taken j ts order i k d l m =
    let kept = filter (λ t. has t j) ts in
    let within : k < length (filter (λ t. has t j) ts) = omega (arith, m, length-map kept (λ t. without t j)) in
    rw (get_or-map (λ t. without t j) kept i d d (omega (arith, l, within)), get_or-map (λ t. without t j) kept k d d within)
    (less-without (get_or kept i d) (get_or kept k d) j (filter_passes (λ t. has t j) ts i d (omega (arith, l, within))) (filter_passes (λ t. has t j) ts k d within)
    (AllPairs-filter (λ s t. cmp_terms s t ≡ Less) (λ t. has t j) ts order i k d l within))

inside-without : (n j : ℕ) (t : Set) → inside t (first n) ≡ true → inside (without t j) (first n) ≡ true
inside-without n j t h = has-inside (without t j) (first n) (λ k m. inside-has t (first n) h k (and_parts _ _ (sym (has-without t j k) ∙ m)).1)

pub inside-taken : (n j : ℕ) (ts : List Set) → All (λ t. inside t (first n) ≡ true) ts → All (λ t. inside t (first n) ≡ true) (taken j ts)
inside-taken n j ts all = All-map (λ t. inside t (first n) ≡ true) (λ t. without t j) _ (All-weaker _ _ (λ t h. inside-without n j t h) _ (All-filter (λ t. has t j) (λ t. inside t (first n) ≡ true) ts all))

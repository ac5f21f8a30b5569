-- Laws of the order of terms: a subset comes first.
use Rattle.std.proofs.Common.{Bool, Less, List, ap, arith, cond, false, inl, inr, length, lt_of_lt_of_le, pow_mono, refl, sym, true, zero, suc, ℕ, ◌+◌, ◌<◌, ◌^◌, ◌∙◌, ◌∷◌, ◌≡◌, ◌≢◌, ◌≤◌}
use Rattle.std.specs.Ordering.{is_eq}
use Rattle.std.proofs.lemmas.Bool.{cases_lt, false≢true}
use Rattle.ae_base.specs.Mask.{Set, has, inside, members_from, members, len, cmp_terms}
pub use Rattle.ae_base.specs.Order.{cmp_terms_total, cmp_terms_partial, cmp_equal, cmp_same, equal_where_tied, same_members}
use Rattle.ae_base.proofs.Sets.{inside-has}
use Rattle.ae_base.proofs.Members.{below_own_power, members_enough, cmp_fewer}

pub less_irreflexive : (s : Set) → cmp_terms s s ≢ Less
less_irreflexive s h = absurd (false≢true (ap is_eq (sym h ∙ cmp_same s)))

pub less_trans : (s t u : Set) → cmp_terms s t ≡ Less → cmp_terms t u ≡ Less → cmp_terms s u ≡ Less
less_trans = cmp_terms_total.trans

pub less_apart : (s t : Set) → cmp_terms s t ≡ Less → s ≢ t
less_apart s t h e = less_irreflexive s (ap (cmp_terms s) e ∙ h)

-- ---- subsets

-- enough numbers for two sets
enough : (s t j : ℕ) → (s < 2 ^ suc (s + t + j)) × (t < 2 ^ suc (s + t + j))
enough s t j =
    (lt_of_lt_of_le (below_own_power s) (pow_mono (let l : s ≤ suc (s + t + j) = omega arith in l)), lt_of_lt_of_le (below_own_power t) (pow_mono (let l : t ≤ suc (s + t + j) = omega arith in l)))

fewer_if : (a b : Bool) (j : ℕ) (xs ys : List ℕ) → (a ≡ true → b ≡ true) → length xs ≤ length ys → length (cond a (j ∷ xs) xs) ≤ length (cond b (j ∷ ys) ys)
fewer_if true b j xs ys sub l = rw (sub refl) (omega (arith, l))
fewer_if false true j xs ys sub l = omega (arith, l)
fewer_if false false j xs ys sub l = l

no_more : (n j : ℕ) (s t : Set) → ((k : ℕ) → has s k ≡ true → has t k ≡ true) → length (members_from n j s) ≤ length (members_from n j t)
no_more zero j s t sub = omega arith
no_more (suc n) j s t sub = fewer_if (has s j) (has t j) j _ _ (sub j) (no_more n (suc j) s t sub)

same_if : (a b : Bool) (j : ℕ) (xs ys : List ℕ) → (a ≡ true → b ≡ true) → length xs ≤ length ys → (length xs ≡ length ys → xs ≡ ys) → length (cond a (j ∷ xs) xs) ≡ length (cond b (j ∷ ys) ys) → cond a (j ∷ xs) xs ≡ cond b (j ∷ ys) ys
same_if true true j xs ys sub l rest e = ap (λ zs. j ∷ zs) (rest (omega (arith, e)))
same_if true false j xs ys sub l rest e = absurd (false≢true (sub refl))
same_if false true j xs ys sub l rest e = absurd (omega (arith, e, l))
same_if false false j xs ys sub l rest e = rest e

as_many_same : (n j : ℕ) (s t : Set) → ((k : ℕ) → has s k ≡ true → has t k ≡ true) → length (members_from n j s) ≡ length (members_from n j t) → members_from n j s ≡ members_from n j t
as_many_same zero j s t sub e = refl
as_many_same (suc n) j s t sub e = same_if (has s j) (has t j) j _ _ (sub j) (no_more n (suc j) s t sub) (as_many_same n (suc j) s t sub) e

-- a subset has no more members
pub inside-len : (s t : Set) → inside s t ≡ true → len s ≤ len t
unfolding len
inside-len s t h =
    let n = suc (s + t + 0) in
    let e = ap length (members_enough n s (enough s t 0).0) in
    let f = ap length (members_enough n t (enough s t 0).1) in
    let l = no_more n 0 s t (inside-has s t h) in
    omega (arith, e, f, l)

-- a subset with as many members is the set
pub inside_as_many : (s t : Set) → inside s t ≡ true → len s ≡ len t → s ≡ t
unfolding len
inside_as_many s t h l =
    let n = suc (s + t + 0) in
    let e : members s ≡ members_from n 0 s = members_enough n s (enough s t 0).0 in
    let f : members t ≡ members_from n 0 t = members_enough n t (enough s t 0).1 in
    same_members s t (e ∙ as_many_same n 0 s t (inside-has s t h) (sym (ap length e) ∙ l ∙ ap length f) ∙ sym f)

-- a proper subset comes first
pub order-inside : (s t : Set) → inside s t ≡ true → s ≢ t → cmp_terms s t ≡ Less
order-inside s t h ne =
    elim (cases_lt (len s) (len t)) [
      | inl l ↦ cmp_fewer s t l
      | inr l ↦ absurd (ne (inside_as_many s t h (let m = inside-len s t h in omega (arith, l, m))))
    ]

-- Comparing the texts of two products: what they have at the least input at which they differ decides.
use Rattle.std.proofs.Common.{Bool, Equal, Greater, Less, List, [], ap, ap₂, arith, cond, false, inl, inr, refl, sym, true, zero, suc, nat_cmp, ℕ, ◌+◌, ◌<◌, ◌||◌, ◌∙◌, ◌∷◌, ◌≡◌, ◌≢◌, ◌≤◌}
use Rattle.std.specs.Prelude.{map, Option, Some, None}
use Rattle.std.proofs.lemmas.Map.Lookups.{exact_unsigned}
use Rattle.std.specs.declared.cmp.Ordering.{Ordering}
use Rattle.std.specs.Ordering.{ordering_then}
use Rattle.std.specs.Cmp.{IsTotalOrder, nat_cmp_is, on_total, tied_itself}
use Rattle.std.specs.Cmp.Lexicographic.{slice_cmp, nat_list_cmp_total}
use Rattle.std.specs.List.{range_with_len}
use Rattle.std.proofs.lemmas.Bool.{cases_eq, cases_lt, cases_order, false≢true}
use Rattle.ae_base.specs.declared.limits.TheConstants.{WIDTH}
use Rattle.ae_base.specs.Mask.{Set, differ, has, xor, either, least}
use Rattle.ae_base.specs.Cube.{Product, IsProduct, IsOver}
use Rattle.ae_base.specs.Text.{literal_text, cube_text, cmp_text}
use Rattle.ae_base.proofs.Sets.{same_set, has-xor, has-either, inside-above}
use Rattle.ae_base.proofs.Truth.{equal_values}
use Rattle.ae_base.proofs.Members.{least-is, least-empty}

map_same : (f g : ℕ → ℕ) (xs : List ℕ) → ((k : ℕ) → f k ≡ g k) → map f xs ≡ map g xs
map_same f g [] same = refl
map_same f g (x ∷ xs) same = ap₂ (λ y ys. y ∷ ys) (same x) (map_same f g xs same)

then_apart : (x y : ℕ) (o : Ordering) → x ≢ y → ordering_then (nat_cmp x y) o ≡ nat_cmp x y
then_apart x y o ne =
    elim (cases_order x y) [
      | inl e ↦ absurd (ne e)
      | inr (inl l) ↦ ap (λ r. ordering_then r o) (sym (nat_cmp_is x y Less l)) ∙ nat_cmp_is x y Less l
      | inr (inr l) ↦ ap (λ r. ordering_then r o) (sym (nat_cmp_is x y Greater l)) ∙ nat_cmp_is x y Greater l
    ]

-- the first place in which two lists differ decides
first_apart : (f g : ℕ → ℕ) (n j d : ℕ) → j ≤ d → d < j + n → ((k : ℕ) → k < d → f k ≡ g k) → f d ≢ g d → slice_cmp nat_cmp (map f (range_with_len j n)) (map g (range_with_len j n)) ≡ nat_cmp (f d) (g d)
first_apart f g zero j d low high same ne = absurd (omega (arith, low, high))
first_apart f g (suc n) j d low high same ne =
    elim (cases_eq j d) [
      | inl e ↦ then_apart (f j) (g j) _ (λ h. ne (ap f (sym e) ∙ h ∙ ap g e)) ∙ ap (λ k. nat_cmp (f k) (g k)) e
      | inr apart ↦
          ap (λ r. ordering_then r (slice_cmp nat_cmp (map f (range_with_len (j + 1) n)) (map g (range_with_len (j + 1) n)))) (sym (nat_cmp_is (f j) (g j) Equal (same j (omega (arith, low, apart)))))
          ∙ first_apart f g n (j + 1) d (omega (arith, low, apart)) (omega (arith, high)) same ne
    ]

-- the inputs at which the literals differ
abbrev pub apart_at : Product → Product → Set
apart_at c d = either (xor c.pos d.pos) (xor c.neg d.neg)

has-apart : (c d : Product) (k : ℕ) → has (apart_at c d) k ≡ (differ (has c.pos k) (has d.pos k) || differ (has c.neg k) (has d.neg k))
has-apart c d k = has-either (xor c.pos d.pos) (xor c.neg d.neg) k ∙ ap₂ (λ a b. a || b) (has-xor c.pos d.pos k) (has-xor c.neg d.neg k)

no_or : (a b : Bool) → (a || b) ≡ false → (a ≡ false) × (b ≡ false)
no_or false b h = (refl, h)
no_or true b h = absurd (false≢true (sym h))

same_literal : (c d : Product) (k : ℕ) → has (apart_at c d) k ≡ false → literal_text c k ≡ literal_text d k
same_literal c d k h =
    let n = no_or _ _ (sym (has-apart c d k) ∙ h) in
    ap₂ (λ p q. cond p 49 (cond q 48 45)) (equal_values _ _ n.0) (equal_values _ _ n.1)

-- the byte of a literal that is plain, or else complemented
byte : Bool → Bool → ℕ
byte p q = cond p 49 (cond q 48 45)

other_byte : (p q r s : Bool) → (p ≡ true → q ≡ false) → (r ≡ true → s ≡ false) → (differ p r || differ q s) ≡ true → byte p q ≢ byte r s
unfolding byte
other_byte true q true s pq rs h e = absurd (false≢true (sym (ap₂ differ (pq refl) (rs refl)) ∙ h))
other_byte true q false true pq rs h e = absurd (omega (arith, e))
other_byte true q false false pq rs h e = absurd (omega (arith, e))
other_byte false true true s pq rs h e = absurd (omega (arith, e))
other_byte false false true s pq rs h e = absurd (omega (arith, e))
other_byte false true false true pq rs h e = absurd (false≢true h)
other_byte false true false false pq rs h e = absurd (omega (arith, e))
other_byte false false false true pq rs h e = absurd (omega (arith, e))
other_byte false false false false pq rs h e = absurd (false≢true h)

other_literal : (c d : Product) (k : ℕ) → IsProduct c → IsProduct d → has (apart_at c d) k ≡ true → literal_text c k ≢ literal_text d k
unfolding byte
other_literal c d k p q h = other_byte (has c.pos k) (has c.neg k) (has d.pos k) (has d.neg k) (p k) (q k) (sym (has-apart c d k) ∙ h)

pub cmp_text_total : IsTotalOrder cmp_text
unfolding cmp_text
cmp_text_total = on_total (cube_text WIDTH) nat_list_cmp_total

pub cmp_text-same : (c d : Product) → ((k : ℕ) → has (apart_at c d) k ≡ false) → cmp_text c d ≡ Equal
unfolding cmp_text
cmp_text-same c d none =
    ap (slice_cmp nat_cmp (cube_text WIDTH c)) (sym (map_same (literal_text c) (literal_text d) (range_with_len 0 WIDTH) (λ k. same_literal c d k (none k))))
    ∙ tied_itself nat_list_cmp_total (cube_text WIDTH c)

pub cmp_text-apart : (c d : Product) (j : ℕ) → IsProduct c → IsProduct d → j < WIDTH → least (apart_at c d) ≡ Some j → cmp_text c d ≡ nat_cmp (literal_text c j) (literal_text d j)
unfolding cmp_text
cmp_text-apart c d j p q l e =
    let first = least-is (apart_at c d) j e in
    first_apart (literal_text c) (literal_text d) WIDTH 0 j (omega arith) (omega (arith, l)) (λ k m. same_literal c d k (first.1 k m)) (other_literal c d j p q first.0)

-- ---- products with the same text are equal

not_apart_above : (n : ℕ) (c d : Product) → IsOver n c → IsOver n d → (k : ℕ) → n ≤ k → has (apart_at c d) k ≡ false
not_apart_above n c d a b k l =
    has-apart c d k
    ∙ ap₂ (λ p q. p || q) (ap₂ differ (inside-above n c.pos a.1 k l) (inside-above n d.pos b.1 k l)) (ap₂ differ (inside-above n c.neg a.2 k l) (inside-above n d.neg b.2 k l))

same_product : (c d : Product) → ((k : ℕ) → has (apart_at c d) k ≡ false) → c ≡ d
same_product c d none =
    ap₂ (λ (s t : Set). let r : Product = record { pos = s; neg = t } in r) (same_set c.pos d.pos (λ k. equal_values _ _ (each k).0)) (same_set c.neg d.neg (λ k. equal_values _ _ (each k).1))
  where
    each : (k : ℕ) → (differ (has c.pos k) (has d.pos k) ≡ false) × (differ (has c.neg k) (has d.neg k) ≡ false)
    each k = no_or _ _ (sym (has-apart c d k) ∙ none k)

pub cmp_text-equal : (n : ℕ) (c d : Product) → n ≤ WIDTH → IsOver n c → IsOver n d → cmp_text c d ≡ Equal → c ≡ d
cmp_text-equal n c d small a b e = by_least (least (apart_at c d)) refl
  where
    by_least : (o : Option ℕ) → least (apart_at c d) ≡ o → c ≡ d
    by_least None f = same_product c d (least-empty (apart_at c d) f)
    by_least (Some j) f =
        let there = (least-is (apart_at c d) j f).0 in
        elim (cases_lt j n) [
          | inl l ↦ absurd (other_literal c d j a.0 b.0 there (exact_unsigned _ _ (sym (cmp_text-apart c d j a.0 b.0 (omega (arith, l, small)) f) ∙ e)))
          | inr l ↦ absurd (false≢true (sym (not_apart_above n c d a b j l) ∙ there))
        ]

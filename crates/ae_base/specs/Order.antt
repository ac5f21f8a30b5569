-- The laws of a set's comparisons: the order of terms is total, and has a tie exactly at equal sets.
use Rattle.std.proofs.Common.{Bool, Equal, Greater, Less, List, ap, arith, cond, eq-eqb, eqb, eqb-true, false, inl, inr, refl, sym, true, zero, suc, ℕ, ◌&&◌, ◌+◌, ◌<◌, ◌^◌, ◌||◌, ◌∙◌, ◌∷◌, ◌≡◌, ◌≤◌}
use Rattle.std.specs.declared.cmp.Ordering.{Ordering}
use Rattle.std.specs.Ordering.{ordering_then, is_eq, eq_by_cmp, as_partial_cmp}
use Rattle.std.specs.Prelude.{nat_eq}
use Rattle.std.specs.Int.{bit_at}
use Rattle.std.specs.Cmp.{IsTotalOrder, IsPartialOrder, Equal-is, partial_order_from_agreeing_total, tied_itself, then_total, on_total}
use Rattle.std.specs.Cmp.Lexicographic.{nat_list_cmp_total}
use Rattle.std.specs.List.{list_any}
use Rattle.std.proofs.lemmas.Bool.{and_from, and_parts, cases_eq, cases_lt, false≢true, or_cases, or_left, or_right}
use Rattle.std.proofs.lemmas.Bool.Decides.{nat_tests}
use Rattle.std.proofs.lemmas.Cmp.{nat_cmp_total}
use Rattle.std.proofs.lemmas.Map.Lookups.{exact_bytes}
use Rattle.std.proofs.lemmas.Nat.Bits.{bit_at-lt, bit_at_above, same_from_bits}
use Rattle.ae_base.specs.Mask.{Set, has, members_from, members, len, cmp_terms}

-- the digit of a membership
bit_from_has : (s t j k : ℕ) → has s j ≡ has t k → bit_at s j ≡ bit_at t k
unfolding has
bit_from_has s t j k h =
    let a = bit_at-lt s j in
    let b = bit_at-lt t k in
    grind (arith, nat_tests)

-- sets with the same members are equal
pub same_set : (s t : Set) → ((k : ℕ) → has s k ≡ has t k) → s ≡ t
same_set s t h = same_from_bits s t (λ k. bit_from_has s t k k (h k))

-- no member from n on
pub has_above : (s n k : ℕ) → s < 2 ^ n → n ≤ k → has s k ≡ false
unfolding has
has_above s n k h l = rw (bit_at_above s n k h l) refl

pub below_own_power : (s : ℕ) → s < 2 ^ s
below_own_power zero = omega arith
below_own_power (suc s) = let h : s < 2 ^ s = below_own_power s in grind arith

-- ---- the list has the members and no others

any_if : (b : Bool) (j k : ℕ) (ms : List ℕ) → list_any (λ m. eqb m k) (cond b (j ∷ ms) ms) ≡ ((b && eqb j k) || list_any (λ m. eqb m k) ms)
any_if true j k ms = refl
any_if false j k ms = refl

listed : (n j k : ℕ) (s : Set) → j ≤ k → k < j + n → has s k ≡ true → list_any (λ m. eqb m k) (members_from n j s) ≡ true
listed zero j k s low high h = absurd (omega arith)
listed (suc n) j k s low high h =
    any_if (has s j) j k (members_from n (suc j) s) ∙ elim (cases_eq j k) [
      | inl e ↦ or_left (has s j && eqb j k) _ (and_from (has s j) (eqb j k) (ap (has s) e ∙ h) (eq-eqb j k e))
      | inr ne ↦ or_right (has s j && eqb j k) _ (listed n (suc j) k s (omega arith) (omega arith) h)
    ]

only_members : (n j k : ℕ) (s : Set) → list_any (λ m. eqb m k) (members_from n j s) ≡ true → has s k ≡ true
only_members zero j k s h = absurd (false≢true h)
only_members (suc n) j k s h =
    elim (or_cases (has s j && eqb j k) _ (sym (any_if (has s j) j k (members_from n (suc j) s)) ∙ h)) [
      | inl here ↦ let parts = and_parts (has s j) (eqb j k) here in ap (has s) (sym (eqb-true j k parts.1)) ∙ parts.0
      | inr later ↦ only_members n (suc j) k s later
    ]

pub both_same : (a b : Bool) → (a ≡ true → b ≡ true) → (b ≡ true → a ≡ true) → a ≡ b
both_same true b f g = sym (f refl)
both_same false true f g = g refl
both_same false false f g = refl

member_below : (s k : ℕ) → has s k ≡ true → k < s
member_below s k h =
    elim (cases_lt k s) [
      | inl l ↦ l
      | inr l ↦ absurd (false≢true (sym (has_above s s k (below_own_power s) l) ∙ h))
    ]

pub members-has : (s : Set) (k : ℕ) → list_any (λ m. eqb m k) (members s) ≡ has s k
unfolding members
members-has s k = both_same _ _ (only_members s 0 k s) (λ h. listed s 0 k s (omega arith) (omega (arith, member_below s k h)) h)

-- ---- the order of terms

pub cmp_terms_total : IsTotalOrder cmp_terms
unfolding cmp_terms
cmp_terms_total = then_total (on_total len nat_cmp_total) (on_total members nat_list_cmp_total)

-- sets with equal lists of members are equal
pub same_members : (s t : Set) → members s ≡ members t → s ≡ t
same_members s t e = same_set s t (λ k. sym (members-has s k) ∙ ap (list_any (λ m. eqb m k)) e ∙ members-has t k)

then_equal : (a b : Ordering) → ordering_then a b ≡ Equal → b ≡ Equal
then_equal Less b h = absurd (false≢true (ap is_eq h))
then_equal Equal b h = h
then_equal Greater b h = absurd (false≢true (ap is_eq h))

pub cmp_equal : (s t : Set) → cmp_terms s t ≡ Equal → s ≡ t
unfolding cmp_terms
cmp_equal s t h = same_members s t (exact_bytes (members s) (members t) (then_equal _ _ h))

pub cmp_same : (s : Set) → cmp_terms s s ≡ Equal
cmp_same s = tied_itself cmp_terms_total s

-- equal exactly where the order has a tie
pub equal_where_tied : (s t : Set) → nat_eq s t ≡ eq_by_cmp cmp_terms s t
equal_where_tied s t =
    both_same _ _ (λ h. ap is_eq (ap (cmp_terms s) (sym (eqb-true s t h)) ∙ cmp_same s)) (λ h. eq-eqb s t (cmp_equal s t ((Equal-is _).0 h)))

pub cmp_terms_partial : IsPartialOrder nat_eq (as_partial_cmp cmp_terms)
cmp_terms_partial = partial_order_from_agreeing_total cmp_terms cmp_terms_total (λ s t. refl) equal_where_tied

-- The lanes of words.
use Rattle.std.proofs.Common.{◌≡◌, ℕ, zero, suc, ◌*◌, ◌-◌, ◌/◌, ◌^◌, ◌%◌, ◌<◌, true, false, not, ◌&&◌, ◌||◌, inl, inr, refl, sym, ap, ◌∙◌, eqb, eq-eqb, ne_eqb, arith, w64}
use Rattle.std.specs.Prelude.{bit_and, bit_or, bit_xor}
use Rattle.std.specs.Int.{bit_at, trailing_zeros}
use Rattle.std.proofs.lemmas.Bool.{cases_eq}
use Rattle.std.proofs.lemmas.Nat.Bits.{bit_at-lt, bit_at-zero, shr_and_one, bit_at_not, bit_at_ones, bit_at_set_same, bit_at_set_other, bit_at-trailing_zeros}
use Rattle.ae_base.specs.Mask.{differ, has, both, either, xor}
use Rattle.ae_base.proofs.Sets.{has-both, has-either, has-xor}

pub lane-and : (a b l : ℕ) → has (bit_and a b) l ≡ (has a l && has b l)
unfolding both
lane-and a b l = has-both a b l

pub lane-or : (a b l : ℕ) → has (bit_or a b) l ≡ (has a l || has b l)
unfolding either
lane-or a b l = has-either a b l

pub lane-xor : (a b l : ℕ) → has (bit_xor a b) l ≡ differ (has a l) (has b l)
unfolding xor
lane-xor a b l = has-xor a b l

turned : (d : ℕ) → d < 2 → eqb (1 - d) 1 ≡ not (eqb d 1)
turned zero h = refl
turned (suc zero) h = refl
turned (suc (suc d)) h = absurd (omega arith)

pub lane-not : (a l : ℕ) → a < 2 ^ 64 → l < 64 → has (2 ^ 64 - 1 - a) l ≡ not (has a l)
unfolding has
lane-not a l fits lt = ap (λ d. eqb d 1) (bit_at_not w64 a l fits lt) ∙ turned (bit_at a l) (bit_at-lt a l)

pub lane-ones : (l : ℕ) → l < 64 → has (2 ^ 64 - 1) l ≡ true
unfolding has
lane-ones l lt = ap (λ d. eqb d 1) (bit_at_ones 64 l lt)

pub lane-zero : (l : ℕ) → has 0 l ≡ false
unfolding has
lane-zero l = ap (λ d. eqb d 1) (bit_at-zero l)

pub lane-with : (a m l : ℕ) → m < 64 → has (bit_or a (1 * 2 ^ m % 2 ^ 64)) l ≡ (eqb l m || has a l)
unfolding has
lane-with a m l lt =
    elim (cases_eq l m) [
      | inl e ↦ rw e (ap (λ d. eqb d 1) (bit_at_set_same w64 a m lt) ∙ sym (ap (λ b. b || eqb (bit_at a m) 1) (eq-eqb m m refl)))
      | inr ne ↦ ap (λ d. eqb d 1) (bit_at_set_other w64 a m lt l ne) ∙ sym (ap (λ b. b || eqb (bit_at a l) 1) (ne_eqb l m ne))
    ]

-- the lowest lane that is set
pub lowest-set : (a : ℕ) → 0 < a → a < 2 ^ 64 → has a (trailing_zeros w64 a) ≡ true
unfolding has
lowest-set a some fits = ap (λ d. eqb d 1) ((bit_at-trailing_zeros w64 a some fits).1)

pub below-lowest : (a : ℕ) → 0 < a → a < 2 ^ 64 → (k : ℕ) → k < trailing_zeros w64 a → has a k ≡ false
unfolding has
below-lowest a some fits k l = ap (λ d. eqb d 1) ((bit_at-trailing_zeros w64 a some fits).2 k l)

pub lane-read : (a l : ℕ) → eqb (bit_and (a / 2 ^ l) 1) 1 ≡ has a l
unfolding has
lane-read a l = ap (λ d. eqb d 1) (shr_and_one a l)

-- How sets below n are written.
use Rattle.std.proofs.Common.{◌≡◌, ◌<◌, ◌^◌, ◌-◌, ℕ, zero, suc, lit<, true, eqb-true, arith}
use Rattle.std.proofs.lemmas.Nat.{and_le_r}
use Rattle.std.specs.Prelude.{bit_and}
use Rattle.ae_base.specs.Mask.{Set, first, inside, both}

pow_positive : (n : ℕ) → 0 < 2 ^ n
pow_positive zero = lit< tt
pow_positive (suc n) = let h : 0 < 2 ^ n = pow_positive n in grind arith

-- a set of numbers below n is written as a number below 2 to the n
pub below_power : (n : ℕ) (s : Set) → inside s (first n) ≡ true → s < 2 ^ n
unfolding inside both first
below_power n s h =
    let e : bit_and s (2 ^ n - 1) ≡ s = eqb-true (bit_and s (2 ^ n - 1)) s h in
    omega (arith, e, and_le_r s (2 ^ n - 1), pow_positive n)

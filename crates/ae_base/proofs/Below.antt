-- Sets of the numbers below a bound that pass a test.
use Rattle.std.proofs.Common.{◌≡◌, ℕ, zero, suc, ◌<◌, Bool, cond, refl, ap₂, arith}
use Rattle.ae_base.specs.Mask.{with, where_below}

-- tests that agree below n have the same numbers below n
pub where_below_agree : (n : ℕ) (p q : ℕ → Bool) → ((k : ℕ) → k < n → p k ≡ q k) → where_below n p ≡ where_below n q
where_below_agree zero p q h = refl
where_below_agree (suc n) p q h = ap₂ (λ b s. cond b (with s n) s) (h n (omega arith)) (where_below_agree n p q (λ k l. h k (omega arith)))

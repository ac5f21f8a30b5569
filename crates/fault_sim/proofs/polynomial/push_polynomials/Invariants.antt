use Rattle.std.proofs.Common.{◌≡◌, ◌≤◌, ℕ, length}
use Rattle.std.specs.Prelude.{Some, slice_get}
use Rattle.ae_base.specs.declared.limits.TheConstants.{PINS}
use Rattle.ae_net.specs.Network.{gate_at}
use Rattle.fault_sim.specs.declared.polynomial.Polynomial.{Polynomial}
use Rattle.fault_sim.specs.Polynomials.{IsPolynomial}
use Rattle.fault_sim.proofs.polynomial.push_polynomials.Given as goal

abbrev pub invariant-loop-i : goal.invariant-loop-i
invariant-loop-i l = record {
  seen : PINS ≤ length l.seen;
  all : length l.polynomials.items ≡ l.i;
  each : (j : ℕ) (p : Polynomial) → slice_get l.polynomials.items j ≡ Some (Some p) → IsPolynomial (gate_at l.net j) p;
}

-- Gates as Reed-Muller polynomials over the values of two signals. For private contracts alone.
use Rattle.std.specs.Prelude.{◌≡◌, ℕ, ◌<◌, Bool, true, false, ◌&&◌, Option, Some, List, length, slice_get, slice_index}
use Rattle.ae_base.specs.Mask.{differ, where_below}
use Rattle.ae_net.specs.declared.net.Gate.{Gate}
use Rattle.ae_net.specs.Network.{Network, gate_at}
use Rattle.ae_net.specs.Run.{table}
use Rattle.fault_sim.specs.declared.polynomial.Polynomial.{Polynomial}
use Rattle.fault_sim.specs.Marks.{IsAmong}

-- its value where the signals have these
abbrev pub value : Polynomial → (ℕ → Bool) → Bool
value p v = differ (differ p.one (differ (v p.x && p.first) (v p.y && p.second))) ((v p.x && v p.y) && p.product)

-- the lane in which two pins see these values
abbrev pub lane_of : Bool → Bool → ℕ
lane_of false false = 0
lane_of true false = 1
lane_of false true = 2
lane_of true true = 3

-- The gate has the value of the polynomial, whose signals it reads.
pub record IsPolynomial (gate : Gate) (p : Polynomial) : Type 0 where
  pub x : IsAmong gate.pins p.x
  pub y : IsAmong gate.pins p.y
  pub value_is : (v : ℕ → Bool) → table gate (where_below (length gate.pins) (λ k. v (slice_index gate.pins k))) ≡ value p v

-- what is kept of a gate is a polynomial of it or nothing
pub record ArePolynomials (n : Network) (polynomials : List (Option Polynomial)) : Type 0 where
  pub all : length polynomials ≡ length n.gates
  pub each : (i : ℕ) (p : Polynomial) → slice_get polynomials i ≡ Some (Some p) → IsPolynomial (gate_at n i) p

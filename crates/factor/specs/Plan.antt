-- What the builder works out before it makes the gates. For its private contracts alone.
use Rattle.std.specs.Prelude.{ℕ, ◌+◌, ◌*◌, ◌≤◌, List, [], ◌∷◌, length, map}
use Rattle.std.specs.List.{AllByRecursion}
use Rattle.ae_base.specs.declared.limits.TheConstants.{GATES, SOURCE_NAME_BYTES}
use Rattle.factor.specs.declared.outputs.Plan.{Plan}
use Rattle.factor.specs.Seen.{seen, AreWires, IsWithin}
use Rattle.factor.specs.Sums.{Summands, nodes}

-- the sums of the outputs
abbrev pub sums_of : Plan → List Summands
sums_of plan = map seen plan.sums.items

-- the outputs have no more gates than this
abbrev pub most_gates : List Summands → ℕ
most_gates [] = 0
most_gates (s ∷ ss) = (3 * nodes s + 1) + most_gates ss

-- names are short, and there are few enough inputs, inverters and gates
pub record IsPlan (plan : Plan) : Type 0 where
  pub short : plan.lead ≤ SOURCE_NAME_BYTES + 1
  pub wires : AreWires plan.wires
  pub within : AllByRecursion (IsWithin plan.wires.inputs) (sums_of plan)
  pub few : length plan.wires.turned + most_gates (sums_of plan) ≤ GATES

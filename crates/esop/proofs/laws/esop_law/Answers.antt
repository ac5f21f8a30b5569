use Rattle.esop.proofs.Lists.{made_cubes}
use Rattle.esop.proofs.Placed.{same_cubes, sorted_in_order}
use Rattle.esop.proofs.Placed.{value-none, value-cons}
use Rattle.esop.proofs.laws.esop_law.Goals as goal

pub returns : goal.returns
returns c = record { none = value-none; more = value-cons; order = sorted_in_order; cubes = same_cubes; terms = made_cubes }

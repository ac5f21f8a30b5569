use Rattle.std.proofs.Common.{◌≡◌, ℕ, take}
use Rattle.ae_base.specs.Mask.{has}
use Rattle.net_fn.specs.Cofactor.{is_read}
use Rattle.net_fn.proofs.cubes.numbers_read.Given as goal

abbrev pub invariant-loop-cube : goal.invariant-loop-cube
invariant-loop-cube l = (k : ℕ) → has l.read k ≡ is_read (take l.cube-index l.cubes) k

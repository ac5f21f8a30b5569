use Rattle.std.proofs.Common.{◌≡◌, eqb}
use Rattle.std.specs.Prelude.{slice_index}
use Rattle.ae_base.specs.Mask.{where_below}
use Rattle.ae_base.proofs.digits.places_of.Given as goal

abbrev pub invariant-loop-j : goal.invariant-loop-j
invariant-loop-j l = l.places ≡ where_below l.j (λ k. eqb (slice_index l.word k) l.b)

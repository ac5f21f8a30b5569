use Rattle.std.proofs.Common.{ap, ◌∙◌, w64, arith}
use Rattle.std.proofs.lemmas.List.{take_all}
use Rattle.std.proofs.lemmas.Simd.{below_from_Fits, chunk-fits, length-chunk}
use lib.Lanes.{chunk}
use Rattle.fault_sim.specs.Marks.{is_marked}
use Rattle.fault_sim.proofs.PartLanes.{joined-lane}
use Rattle.fault_sim.proofs.words.word_of.Goals as goal

pub invariant_of-result : goal.invariant_of-result
invariant_of-result c = (length-chunk 0 8 c.args.parts.now (omega (arith, c.requires)), below_from_Fits w64 (chunk 0 8 c.args.parts.now) (chunk-fits w64 0 8 c.args.parts.now c.type_inv.parts))

pub returns : goal.returns
returns c l =
    joined-lane (chunk 0 8 c.args.parts.now) l (below_from_Fits w64 (chunk 0 8 c.args.parts.now) (chunk-fits w64 0 8 c.args.parts.now c.type_inv.parts))
    ∙ ap (λ ps. is_marked ps l) (take_all 8 c.args.parts.now (omega (arith, c.requires)))

use Rattle.std.proofs.Common.{ap, ◌∙◌, length, arith}
use Rattle.std.proofs.lemmas.List.{get_or_default}
use Rattle.ae_base.specs.Mask.{has}
use Rattle.ae_net.specs.Run.{seen}
use Rattle.ae_net.specs.declared.net.Place.TheVariants.{Stem}
use Rattle.fault_sim.specs.Sites.{fault_in}
use Rattle.fault_sim.proofs.Beginning.{begun-input}
use Rattle.fault_sim.proofs.Cones.{put-marks, room_for_marks}
use Rattle.fault_sim.proofs.cone.hold_input.Goals as goal

pub put-requires-clause-marked : goal.put-requires-clause-marked
put-requires-clause-marked c k d lt = room_for_marks c.args.net.now c.args.readers.now c.args.cone.now c.args.s k d c.requires.readers c.requires.cone.marked lt

pub returns-clause-marks : goal.returns-clause-marks
returns-clause-marks c marks = put-marks c.args.net.now c.args.good.now c.args.readers.now c.args.s c.shown-word.result c.args.cone.now c.put.new.cone 0 c.requires.readers c.put.ensures.put (omega (arith, c.requires.input)) (λ k later. omega arith) marks

pub returns-clause-begun : goal.returns-clause-begun
returns-clause-begun c e last begun =
    let word = c.index-good-s.is ∙ get_or_default c.args.good.now c.args.s c.index-good-s.result 0 (omega (arith, c.requires.input, c.requires.good)) in
    begun-input c.args.net.now c.args.held.now c.args.good.now c.args.readers.now c.args.s c.shown-word.result e c.args.cone.now c.put.new.cone c.requires.held c.requires.readers c.requires.input last (λ l lt. c.shown-word.ensures l lt ∙ ap (λ word. seen (fault_in c.args.held.now l) (Stem c.args.s) (has word l)) word) c.put.ensures.put begun

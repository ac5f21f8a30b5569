use Rattle.std.proofs.Common.{◌/◌, ◌%◌, ap, sym, ◌∙◌}
use Rattle.std.specs.Prelude.{slice_index}
use Rattle.ae_base.specs.Mask.{has}
use Rattle.fault_sim.proofs.PartLanes.{joined-lane}
use Rattle.fault_sim.proofs.WordLanes.{lane-read}
use Rattle.fault_sim.proofs.words.has_lane.Goals as goal

pub returns : goal.returns
returns c =
    let parts = c.a.inside.parts in
    lane-read (slice_index parts (c.args.lane / 64)) (c.args.lane % 64) ∙ sym (joined-lane parts c.args.lane c.a.invariant.1) ∙ ap (λ s. has s c.args.lane) c.a.view_is

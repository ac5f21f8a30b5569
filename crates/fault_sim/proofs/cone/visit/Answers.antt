use Rattle.std.proofs.Common.{◌≡◌, ◌+◌, length, ap, sym, subst, arith}
use Rattle.std.specs.Vec.{with_items}
use Rattle.fault_sim.specs.Lanes.{IsNext}
use Rattle.fault_sim.specs.Sites.{fault_in}
use Rattle.fault_sim.specs.Spread.{IsPut, row}
use Rattle.fault_sim.proofs.Cones.{put-marks, room_for_marks, visited}
use Rattle.fault_sim.proofs.cone.visit.Goals as goal

pub put-requires-clause-marked : goal.put-requires-clause-marked
put-requires-clause-marked c k d lt = room_for_marks c.args.net.now c.args.readers.now c.args.cone.now _ k d c.requires.readers c.requires.cone.marked lt

pub returns-clause-marks : goal.returns-clause-marks
returns-clause-marks c = put-marks c.args.net.now c.args.good.now c.args.readers.now _ c.visited_word-word.result _ c.put.new.cone (c.args.i + 1) c.requires.readers c.put.ensures.put (omega (arith, c.requires.place, ap length c.inputs.ensures.inputs)) (λ k later. omega (arith, later, ap length c.inputs.ensures.inputs)) (record { marked = c.requires.marks.marked; changed = c.requires.marks.changed })

pub returns-clause-spread : goal.returns-clause-spread
returns-clause-spread c spread =
    let n = c.args.net.now in
    let i = c.args.i in
    let at : length c.inputs.result.now + i ≡ length n.inputs + i = ap (λ inputs. length inputs + i) c.inputs.ensures.inputs in
    visited n (fault_in c.args.held.now) c.args.good.now c.args.readers.now i c.visited_word-word.result (record c.args.cone.now { seen = with_items c.args.cone.now.seen c.visited_word-word.new.seen }) c.put.new.cone c.requires.readers
    (subst (λ words. IsNext n (fault_in c.args.held.now) words (length n.inputs + i) c.visited_word-word.result) c.as_slice-2.ensures.value c.visited_word-word.ensures.value)
    (subst (λ s. IsPut c.args.good.now (row c.args.readers.now s) s c.visited_word-word.result (record c.args.cone.now { seen = with_items c.args.cone.now.seen c.visited_word-word.new.seen }) c.put.new.cone) at c.put.ensures.put)
    (record { faulty = spread.faulty; rest = spread.rest; quiet = spread.quiet; changed = spread.changed })

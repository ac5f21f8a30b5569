use Rattle.std.proofs.Common.{◌≡◌, length, ap, arith}
use Rattle.std.proofs.lemmas.Option.{slice_get_within}
use Rattle.fault_sim.proofs.Holding.{refilled}
use Rattle.fault_sim.proofs.Reading.{one_gate_more}
use Rattle.fault_sim.proofs.readers.all_readers.Goals as goal

pub loop-i-preserved : goal.loop-i-preserved
loop-i-preserved c =
    let n = c.args.net.now in
    let i = c.loop-i.i in
    let readers = c.loop-i.readers in
    let gate = c.gate.result.now in
    let same : c.as_mut_slice.result.now ≡ readers.items = c.as_mut_slice.ensures.value in
    let after = refilled readers c.add_reader.new.readers (omega (arith, c.add_reader.ensures.len, c.as_mut_slice.ensures.len, readers.ok.0)) in
    let pins : c.as_slice.result.now ≡ gate.pins = c.as_slice.ensures in
    let filled = one_gate_more n i gate readers.items c.as_mut_slice.result.now c.add_reader.new.readers _ c.as_slice.result.now same after pins (c.gate.ensures.gate) c.inputs.ensures.valid (omega (arith, c.loop-i-test.true, c.loop-i.auto.i-end, ap length c.gates-i-end.ensures.gates)) c.add_reader.ensures.len c.in_ok-add_reader.ensures.kept c.in_ok-add_reader.ensures.each c.in_ok-add_reader.ensures.only (record { all = c.loop-i.invariant.all; later = c.loop-i.invariant.later; each = c.loop-i.invariant.each }) in
    record { all = filled.all; later = filled.later; each = filled.each }

pub returns : goal.returns
returns c = record {
  all = c.loop-i.invariant.all;
  later = c.loop-i.invariant.later;
  each = λ j gate k there lt. c.loop-i.invariant.each j gate k (omega (arith, slice_get_within c.args.net.now.gates j gate there, c.loop-i-test.false, c.loop-i.auto.i-end, ap length c.gates-i-end.ensures.gates)) there lt;
}

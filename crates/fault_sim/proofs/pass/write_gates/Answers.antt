use Rattle.std.proofs.Common.{◌≡◌, ◌+◌, ◌≤◌, length, ap, ◌∙◌, arith}
use Rattle.std.specs.Prelude.{None}
use Rattle.std.proofs.lemmas.List.{length-set}
use Rattle.fault_sim.proofs.Cones.{more-lane}
use Rattle.fault_sim.proofs.pass.write_gates.Goals as goal

pub loop-i-preserved : goal.loop-i-preserved
loop-i-preserved c =
    let n = c.args.net.now in
    let i = c.loop-i.i in
    let words = c.loop-i.good in
    let m = length c.inputs-first.result.now + i in
    let e : m ≡ length n.inputs + i = ap (λ inputs. length inputs + i) c.inputs-first.ensures.inputs in
    let within : i + 1 ≤ length n.gates = omega (arith, c.loop-i-test.true, c.loop-i.auto.i-end, ap length c.gates-i-end.ensures.gates) in record {
      len = length-set words m c.gate_word.result ∙ c.loop-i.invariant.len;
      seen = c.gate_word.ensures.len ∙ c.loop-i.invariant.seen;
      runs = λ l x w lt inputs run s h.
          let lane = c.loop-i.invariant.runs l x w lt inputs run in
          more-lane w l words (length n.inputs + i) m c.gate_word.result e (omega (arith, e, within, c.loop-i.invariant.len, c.requires.room)) (c.gate_word.ensures.value (λ l. None) (λ l lt. tt) l x w lt run lane) lane s (omega (arith, h));
    }

pub returns-clause-runs : goal.returns-clause-runs
returns-clause-runs c l x lt inputs w run s h =
    c.loop-i.invariant.runs l x w lt inputs run s (omega (arith, h, c.loop-i-test.false, c.loop-i.auto.i-end, ap length c.gates-i-end.ensures.gates))

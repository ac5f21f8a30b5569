use Rattle.std.proofs.Common.{◌∙◌, ap, ap₂, sym, arith, ◌+◌, length}
use Rattle.ae_net.specs.Faults.{pins_of}
use Rattle.ae_net.specs.Network.{gate_at}
use Rattle.ae_net.proofs.CountLemmas.{pins_more, pins_of_gate}
use Rattle.ae_net.proofs.places.pin_count.Goals as goal

pub loop-i-preserved : goal.loop-i-preserved
loop-i-preserved c = (
  ap₂ (λ m n. m + n) c.loop-i.invariant.0 (c.len.ensures ∙ ap (λ g. length g.pins) c.gate.ensures.gate ∙ sym (pins_of_gate c.loop-i.i (gate_at c.args.net.now c.loop-i.i)))
      ∙ sym (pins_more (λ i. pins_of i (gate_at c.args.net.now i)) c.loop-i.i),
  omega (arith, c.loop-i.invariant.1, c.len.ensures, c.gate.ensures.valid.few_pins),
)

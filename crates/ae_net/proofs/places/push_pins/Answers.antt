use Rattle.std.proofs.Common.{◌∙◌, ◌++◌, ap}
use Rattle.std.specs.List.{flat_map}
use Rattle.ae_net.specs.Network.{gate_at}
use Rattle.ae_net.specs.Faults.{both_values, pins_of}
use Rattle.ae_base.proofs.Written.{pushed}
use Rattle.ae_net.proofs.PlaceLemmas.{faults_more_flat}
use Rattle.ae_net.proofs.places.push_pins.Goals as goal

pub loop-i-preserved : goal.loop-i-preserved
loop-i-preserved c =
    pushed _ _ _ _ _ _ c.loop-i.invariant
    (c.in_ok-push_pins_of.ensures ∙ ap (λ g. c.loop-i.list.items ++ flat_map both_values (pins_of c.loop-i.i g)) c.gate.ensures.gate)
    (faults_more_flat (λ i. pins_of i (gate_at c.args.net.now i)) c.loop-i.i)

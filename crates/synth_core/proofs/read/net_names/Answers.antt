use Rattle.std.proofs.Common.{ap, ◌∙◌}
use Rattle.ae_net.specs.Implements.{port_names}
use Rattle.synth_core.proofs.Sources.{net_named}
use Rattle.synth_core.proofs.read.net_names.Goals as goal

pub invariant_of-result : goal.invariant_of-result
invariant_of-result c =
    let same = c.net-net.ensures.net in
    rw (c.in_ok-model.ensures ∙ c.model.ensures.model ∙ ap (λ n. n.model) same, c.in_ok-inputs.ensures ∙ c.inputs.ensures.inputs ∙ ap (λ n. n.inputs) same, c.in_ok-outputs.ensures ∙ ap port_names same)
    (net_named c.args.source.now.net c.net-net.ensures.valid.valid c.requires)

use Rattle.std.proofs.Common.{◌≡◌, ◌+◌, ◌∙◌, List, ℕ, ◌++◌, ap, ap₂, sym, length, arith}
use Rattle.ae_net.proofs.LeadLemmas.{lead_few}
use Rattle.ae_net.specs.Builder.{Built}
use Rattle.ae_net.specs.Network.{Network}
use Rattle.ae_net.specs.declared.net.Gate.{Gate}
use Rattle.factor.specs.Factored.{inverters, output_gates, network_of}
use Rattle.factor.specs.Plan.{sums_of}
use Rattle.factor.proofs.Law.{is_plan, as_many, net_is, net_valid}
use Rattle.factor.proofs.build.network.Goals as goal

pub push_inverters-requires-clause-short : goal.push_inverters-requires-clause-short
push_inverters-requires-clause-short c = omega (arith, c.requires.lead, lead_few c.args.names.now c.requires.can.named)

pub push_inverters-requires-clause-room : goal.push_inverters-requires-clause-room
push_inverters-requires-clause-room c =
    let plan = is_plan c.args.plan.now c.args.names.now c.args.e.now c.requires.can c.requires.lead c.requires.wires c.requires.sums in
    omega (arith, plan.few, ap length c.as_slice.ensures, ap (λ (b : Built). length b.gates) c.new-net.ensures)

pub push_outputs-requires-clause-plan : goal.push_outputs-requires-clause-plan
push_outputs-requires-clause-plan c = is_plan c.args.plan.now c.args.names.now c.args.e.now c.requires.can c.requires.lead c.requires.wires c.requires.sums

pub push_outputs-requires-clause-fits : goal.push_outputs-requires-clause-fits
push_outputs-requires-clause-fits c = as_many c.args.plan.now c.args.names.now c.args.e.now c.requires.can c.requires.sums ∙ ap length (sym c.outputs.ensures.outputs)

-- what is finished is the network of the plan
is_network : (c : goal.In_ok-outputs)
    → let net = c.push_outputs.new.net in
    ◌≡◌ {A = Network} (record { model = c.in_ok-model.model; inputs = net.inputs; outputs = c.in_ok-outputs.outputs; gates = net.gates }) (network_of c.args.plan.now.lead c.args.names.now c.args.plan.now.wires (sums_of c.args.plan.now))
is_network c =
    let plan = c.args.plan.now in
    let start = c.push_inverters.new.net in
    net_is plan.lead c.args.names.now plan.wires (sums_of plan) c.in_ok-model.model c.push_outputs.new.net.inputs c.in_ok-outputs.outputs start.gates c.push_outputs.new.net.gates
    (c.in_ok-model.ensures ∙ c.model.ensures.model)
    (c.push_outputs.ensures.inputs ∙ c.push_inverters.ensures.inputs ∙ ap (λ (b : Built). b.inputs) c.new-net.ensures ∙ c.in_ok-copies.ensures ∙ c.inputs.ensures.inputs)
    (c.in_ok-push_inverters.ensures.gates ∙ ap₂ (λ (gates : List Gate) js. gates ++ inverters plan.lead js) (ap (λ (b : Built). b.gates) c.new-net.ensures) c.as_slice.ensures)
    (c.in_ok-outputs.ensures.gates ∙ ap (λ (outs : List (List ℕ)). start.gates ++ output_gates plan.lead plan.wires (plan.wires.inputs + length start.gates) 0 (sums_of plan) outs) c.outputs.ensures.outputs)
    c.in_ok-outputs.ensures.ports

pub finish-requires : goal.finish-requires
finish-requires c = net_valid c.args.plan.now c.args.names.now c.args.e.now _ c.names_law.ensures c.requires.can c.requires.lead c.requires.wires c.requires.sums (is_network c)

pub returns : goal.returns
returns c = c.finish.ensures ∙ is_network c.before

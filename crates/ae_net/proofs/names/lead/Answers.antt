use Rattle.std.proofs.Common.{◌≡◌, ℕ, ◌++◌, List, map, max, ap, ap₂, sym, subst, ◌∙◌, arith}
use Rattle.ae_net.specs.Lead.{greatest, free_from, lead}
use Rattle.ae_net.specs.Names.{Names, IsLead, underscores}
use Rattle.ae_net.proofs.LeadLemmas.{few_of_source, greatest_both, lead_is_lead, lead_few}
use Rattle.ae_net.proofs.names.lead.Goals as goal

pub least_free-requires : goal.least_free-requires
least_free-requires c =
    let f = λ (names : List (List ℕ)). greatest (map underscores names) in
    omega (
      arith,
      few_of_source c.args.names.now c.inputs-inputs.ensures.valid,
      greatest_both c.args.names.now.inputs c.args.names.now.outputs,
      c.max-most.ensures,
      c.most_underscores.ensures ∙ ap f c.inputs-inputs.ensures.inputs,
      c.most_underscores-2.ensures ∙ ap f c.outputs-outputs.ensures.outputs,
    )

pub returns : goal.returns
unfolding lead
returns c =
    let names : Names = c.args.names.now in
    let f = λ (l : List (List ℕ)). greatest (map underscores l) in
    let most : c.max-most.result ≡ greatest (map underscores (names.inputs ++ names.outputs)) =
    c.max-most.ensures
    ∙ ap₂ max (c.most_underscores.ensures ∙ ap f c.inputs-inputs.ensures.inputs) (c.most_underscores-2.ensures ∙ ap f c.outputs-outputs.ensures.outputs)
    ∙ sym (greatest_both names.inputs names.outputs) in
    let is : c.least_free.result ≡ lead names =
    c.least_free.ensures ∙ ap₂ (λ (l : List (List ℕ)) m. free_from l m 1) (ap₂ (λ (a b : List (List ℕ)). a ++ b) c.inputs-inputs.ensures.inputs c.outputs-outputs.ensures.outputs) most in
    record {
      lead = is;
      least = subst (IsLead names) (sym is) (lead_is_lead names);
      short = omega (arith, is, lead_few names c.inputs-inputs.ensures.valid);
    }

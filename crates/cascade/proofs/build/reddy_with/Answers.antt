use Rattle.std.proofs.Common.{◌∙◌, ap, ap₂, subst}
use Rattle.ae_net.specs.Builder.{Built}
use Rattle.expansion.specs.Terms.{Terms}
use Rattle.expansion.specs.Kept.{IsTerms}
use Rattle.cascade.specs.Reddy.{chain_place, ends, gates}
use Rattle.cascade.proofs.CodeLemmas.{net_valid}
use Rattle.cascade.proofs.build.reddy_with.Goals as goal

pub finish-requires : goal.finish-requires
finish-requires c =
    let names = c.args.names.now in
    let e = c.args.e.now in
    let plan = c.in_ok-plan.ensures in
    let net = c.in_ok-outputs.ensures in
    net_valid names e c.args.lead _ _ _ _ c.model.ensures.valid (subst IsTerms plan.2 plan.0.terms) c.requires.fits c.requires.cheap c.requires.lead (c.in_ok-model.ensures ∙ c.model.ensures.model)
    (net.inputs ∙ ap (λ (b : Built). b.inputs) c.new-net.ensures ∙ c.in_ok-inputs.ensures)
    (net.ports ∙ ap (λ (t : Terms). ends t (chain_place t) t.outs) plan.2)
    (net.gates ∙ ap₂ (λ k t. gates k names t) plan.1 plan.2)

pub returns-clause-built : goal.returns-clause-built
returns-clause-built c = record {
  named = c.model.ensures.valid;
  terms = subst IsTerms c.in_ok-plan.ensures.2 c.in_ok-plan.ensures.0.terms;
  fits = c.requires.fits;
  cheap = c.requires.cheap;
}

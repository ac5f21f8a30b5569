use Rattle.std.proofs.Common.{length, ap, sym, ◌∙◌, arith}
use Rattle.std.proofs.lemmas.List.{length-map}
use Rattle.synth_core.proofs.Sources.{are_live}
use Rattle.synth_core.proofs.read.net_source.Goals as goal

pub returns-clause-sourced : goal.returns-clause-sourced
returns-clause-sourced c = record {
  names = c.in_ok-names.ensures;
  polarity = c.source_values.ensures.keeps.polarity ∙ c.in_ok-functions.ensures;
  inputs = c.requires.inputs;
  count = c.in_ok-outputs.ensures.count ∙ sym (length-map c.args.source.now.net.outputs _);
  shows = c.in_ok-outputs.ensures.shows;
}

pub returns-clause-whole : goal.returns-clause-whole
returns-clause-whole c = record {
  inputs = ap (λ p. p.n) (c.source_values.ensures.keeps.polarity ∙ c.in_ok-functions.ensures) ∙ c.requires.inputs ∙ ap (λ names. length names.inputs) (sym c.in_ok-names.ensures);
  count = c.in_ok-outputs.ensures.count ∙ sym (length-map c.args.source.now.net.outputs _) ∙ ap (λ names. length names.outputs) (sym c.in_ok-names.ensures);
  live = are_live _ c.in_ok-outputs.outputs.items _ c.in_ok-outputs.ensures.shows;
  few = omega (arith, c.in_ok-outputs.ensures.count, c.requires.limits.few_outputs);
}

use Rattle.std.proofs.Common.{length, ap, sym, ◌∙◌, arith}
use Rattle.synth_core.proofs.Sources.{are_live}
use Rattle.synth_core.proofs.read.cover_source.Goals as goal

pub returns-clause-sourced : goal.returns-clause-sourced
returns-clause-sourced c = record {
  names = c.in_ok-names.ensures;
  polarity = c.cover_values.ensures.keeps.polarity ∙ c.in_ok-functions.ensures;
  inputs = c.requires;
  count = c.in_ok-outputs.ensures.count;
  shows = c.in_ok-outputs.ensures.source;
}

pub returns-clause-whole : goal.returns-clause-whole
returns-clause-whole c = record {
  inputs = ap (λ p. p.n) (c.cover_values.ensures.keeps.polarity ∙ c.in_ok-functions.ensures) ∙ c.requires ∙ ap (λ names. length names.inputs) (sym c.in_ok-names.ensures);
  count = c.in_ok-outputs.ensures.count ∙ ap (λ names. length names.outputs) (sym c.in_ok-names.ensures);
  live = are_live _ c.in_ok-outputs.outputs.items _ c.in_ok-outputs.ensures.source;
  few = omega (arith, c.in_ok-outputs.ensures.count, c.outputs.ensures.cover.outputs.1);
}

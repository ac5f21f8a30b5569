use Rattle.std.proofs.Common.{◌≡◌, length, sym, ap, ◌∙◌, subst, arith}
use Rattle.std.proofs.lemmas.Result.{IfOk-weaker}
use Rattle.ae_base.specs.Cube.{IsSigns}
use Rattle.ae_base.specs.Source.{Source}
use Rattle.ae_net.specs.Blif.{blif_text}
use Rattle.expansion.specs.Functions.{AreExpansions}
use Rattle.factor.specs.Shows.{cube_count}
use Rattle.ae_base.specs.declared.form.Form.TheVariants.{Factored}
use Rattle.vec_text.specs.VectorFile.{VectorFile, vector_text}
use Rattle.synth_core.specs.Made.{AreNumbers, IsSynthesised, Texts, names_of, texts_of}
use Rattle.synth_core.specs.Steps.{AreTests, IsFactoredNet}
use Rattle.synth_core.proofs.Factored.{made_factored}
use Rattle.synth_core.proofs.Lines.{cubes_fit}
use Rattle.synth_core.proofs.forms.factored_texts.Goals as goal

pub factored-requires-clause-fits : goal.factored-requires-clause-fits
factored-requires-clause-fits c = cubes_fit c.args.names.now c.args.e.now c.in_ok-esop.esop c.requires.fits (c.in_ok-esop.ensures)

pub factored-requires-clause-few : goal.factored-requires-clause-few
factored-requires-clause-few c = omega (arith, (c.in_ok-esop.ensures).few, c.requires.cheap)

pub factored-requires-clause-settled : goal.factored-requires-clause-settled
factored-requires-clause-settled c = (c.in_ok-esop.ensures).settled

abbrev is_net : (c : goal.After-net-3-1) → IsFactoredNet c.args.names.now c.in_ok-esop.esop c.in_ok-net.net
is_net c = record {
  named = c.outputs.ensures.valid;
  cubes_valid = c.lists.ensures.valid;
  fits = cubes_fit c.args.names.now c.args.e.now c.in_ok-esop.esop c.requires.fits (c.in_ok-esop.ensures);
  valid = c.valid_law.ensures;
  form = c.in_ok-net.ensures.form;
  names_are = c.factored_law.ensures.names c.args.names.now c.in_ok-esop.esop c.in_ok-net.net (record {
    named = c.outputs.ensures.valid;
    cubes = c.lists.ensures.valid;
    fits = cubes_fit c.args.names.now c.args.e.now c.in_ok-esop.esop c.requires.fits (c.in_ok-esop.ensures);
    few = omega (arith, (c.in_ok-esop.ensures).few, c.requires.cheap);
    settled = (c.in_ok-esop.ensures).settled;
  }) c.in_ok-net.ensures.form;
  values = c.in_ok-net.ensures.values;
  few_exors = c.in_ok-net.ensures.few_exors;
}

net_of : (c : goal.After-drop-esop-inside-2) → IsFactoredNet c.args.names.now c.in_ok-esop.esop c.in_ok-net.net
net_of c = record {
  named = c.outputs.ensures.valid;
  cubes_valid = c.lists.ensures.valid;
  fits = cubes_fit c.args.names.now c.args.e.now c.in_ok-esop.esop c.requires.fits (c.in_ok-esop.ensures);
  valid = c.valid_law.ensures;
  form = c.in_ok-net.ensures.form;
  names_are = c.factored_law.ensures.names c.args.names.now c.in_ok-esop.esop c.in_ok-net.net (record {
    named = c.outputs.ensures.valid;
    cubes = c.lists.ensures.valid;
    fits = cubes_fit c.args.names.now c.args.e.now c.in_ok-esop.esop c.requires.fits (c.in_ok-esop.ensures);
    few = omega (arith, (c.in_ok-esop.ensures).few, c.requires.cheap);
    settled = (c.in_ok-esop.ensures).settled;
  }) c.in_ok-net.ensures.form;
  values = c.in_ok-net.ensures.values;
  few_exors = c.in_ok-net.ensures.few_exors;
}

pub tested_file-requires-clause-net : goal.tested_file-requires-clause-net
tested_file-requires-clause-net c = is_net c

pub tested_file-requires-clause-signs : goal.tested_file-requires-clause-signs
tested_file-requires-clause-signs c = subst IsSigns (sym c.polarity.ensures.polarity) c.polarity.ensures.valid.signs

pub tested_file-requires-clause-inputs : goal.tested_file-requires-clause-inputs
tested_file-requires-clause-inputs c = ap (λ p. p.n) c.polarity.ensures.polarity ∙ sym ((c.in_ok-esop.ensures).inputs)

pub returns : goal.returns
returns c =
    let names = c.args.names.now in
    let e = c.args.e.now in
    let x = c.in_ok-summary.summary in
    IfOk-weaker c.made_of.result (λ made. texts_of made ≡ record { net_text = blif_text c.in_ok-net.net; vec_text = vector_text c.in_ok-file.file; summary = x })
    (λ made. (s : Source) → names ≡ names_of s → AreExpansions s e.polarity e → IsSynthesised Factored e.polarity s e (texts_of made))
    (λ made is s named are.
    made_factored names s e c.in_ok-esop.esop c.in_ok-net.net (c.in_ok-file.ensures).points (c.in_ok-file.ensures).unchanged c.polarity.result c.in_ok-file.file x (texts_of made) c.polarity.ensures.polarity named (c.in_ok-file.ensures).is is
    (c.in_ok-summary.ensures s named)
    (λ numbers. c.factored_synthesis_law.ensures.made s e c.in_ok-esop.esop c.in_ok-net.net (c.in_ok-file.ensures).points (c.in_ok-file.ensures).unchanged x are c.polarity.ensures.valid.signs (c.in_ok-esop.ensures)
    (subst (λ m. IsFactoredNet m c.in_ok-esop.esop c.in_ok-net.net) named (net_of c))
    (subst (λ p. AreTests c.in_ok-net.net p (c.in_ok-file.ensures).points (c.in_ok-file.ensures).unchanged) c.polarity.ensures.polarity (c.in_ok-file.ensures).tests) numbers)) c.made_of.ensures

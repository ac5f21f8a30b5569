use Rattle.std.proofs.Common.{◌≡◌, subst}
use Rattle.std.proofs.lemmas.Result.{IfOk-weaker}
use Rattle.ae_base.specs.Source.{Source}
use Rattle.ae_net.specs.Blif.{blif_text}
use Rattle.cascade.specs.Shows.{reddy_net}
use Rattle.expansion.specs.Functions.{AreExpansions}
use Rattle.ae_base.specs.declared.form.Form.TheVariants.{Reddy}
use Rattle.vec_text.specs.VectorFile.{VectorFile, vector_text}
use Rattle.synth_core.specs.Made.{AreNumbers, IsSynthesised, names_of, texts_of}
use Rattle.synth_core.specs.Steps.{AreReady, reddy_file}
use Rattle.synth_core.proofs.Synthesised.{from_parts}
use Rattle.synth_core.proofs.forms.reddy_texts.Goals as goal

pub returns : goal.returns
returns c =
    let names = c.args.names.now in
    let e = c.args.e.now in
    let x = c.in_ok-summary.summary in
    let net_is : c.in_ok-net.net ≡ reddy_net names e = c.in_ok-net.ensures.net in
    let file_is : c.in_ok-file.file ≡ reddy_file names e = c.in_ok-file.ensures.file in
    IfOk-weaker c.made_of.result (λ made. texts_of made ≡ record { net_text = blif_text c.in_ok-net.net; vec_text = vector_text c.in_ok-file.file; summary = x })
    (λ made. (s : Source) → names ≡ names_of s → AreExpansions s e.polarity e → IsSynthesised Reddy e.polarity s e (texts_of made))
    (λ made is s named are.
    let ready : AreReady (names_of s) e = subst (λ m. AreReady m e) named c.in_ok-file.ensures.ready in
    let net_of : c.in_ok-net.net ≡ reddy_net (names_of s) e = subst (λ m. c.in_ok-net.net ≡ reddy_net m e) named net_is in
    let file_of : c.in_ok-file.file ≡ reddy_file (names_of s) e = subst (λ m. c.in_ok-file.file ≡ reddy_file m e) named file_is in
    let numbers : AreNumbers s e (reddy_net (names_of s) e) (reddy_file (names_of s) e) x =
    subst (λ n. AreNumbers s e n (reddy_file (names_of s) e) x) net_of (subst (λ (f : VectorFile). AreNumbers s e c.in_ok-net.net f x) file_of (c.in_ok-summary.ensures s named)) in
    from_parts e.polarity s e c.in_ok-net.net (reddy_net (names_of s) e) c.in_ok-file.file (reddy_file (names_of s) e) x (texts_of made) is net_of file_of
    (c.synthesis_law.ensures.made s e x ready are numbers)) c.made_of.ensures

-- What the text of a demo is as a source.
use Rattle.std.proofs.Common.{◌≡◌, ◌≢◌, ◌≤◌, ◌∙◌, ℕ, length, sym, ap, subst, arith}
use Rattle.std.specs.Prelude.{Ok, Err}
use Rattle.ae_cover.specs.Cover.{Table, source_of}
use Rattle.demo_source.specs.Demo.{demo_text}
use Rattle.demo_source.specs.Says.{SaysCover, most_terms}
use Rattle.expansion.specs.Functions.{AreExpansions}
use Rattle.expansion.specs.Terms.{PassesAt, Terms}
use Rattle.ae_base.specs.Cube.{Signs}
use Rattle.pla_read.specs.Pla.{pla_says}
use Rattle.synth_core.specs.Asked.{HasTooMany, polarity_of, terms_limit}
use Rattle.synth_core.specs.Says.{said_as, source_says}
use Rattle.synth_core.specs.declared.fault.TextFault.{TextFault}
use Rattle.synth_core.specs.declared.fault.TextFault.TheVariants as text
use Rattle.synth_core.specs.declared.settings.Settings.{Settings}
use Rattle.synth_core.specs.declared.settings.SourceKind.TheVariants.{Pla}
use Rattle.ae_base.specs.declared.form.Form.{Form}
use Rattle.ae_base.specs.declared.form.Form.TheVariants.{Reddy, Factored}

module _ (said : (seed : ℕ) (form : Form) → SaysCover seed form) where
  -- the source that the text says
  source_is : (seed : ℕ) (form : Form) → source_says Pla (demo_text seed form) ≡ Ok (source_of (said seed form).table)
  source_is seed form = ap (said_as source_of (λ f. text.Pla f)) (said seed form).says

  pub demo_accepted : (seed : ℕ) (form : Form) (line : ℕ) (what : TextFault) → source_says Pla (demo_text seed form) ≢ Err (line, what)
  demo_accepted seed form line what refused = let both = sym (source_is seed form) ∙ refused in cc both

  few_terms : (form : Form) → most_terms form ≤ terms_limit form
  few_terms Reddy = omega arith
  few_terms Factored = omega arith

  pub demo_few : ((seed : ℕ) (form : Form) (table : Table) (p : Signs) (e : Terms) (limit output : ℕ) → pla_says (demo_text seed form) ≡ Ok table → AreExpansions (source_of table) p e → most_terms form ≤ limit
      → PassesAt limit e.outs output → ⊥)
      → (seed : ℕ) (settings : Settings) (output : ℕ) → settings.kind ≡ Pla → HasTooMany settings (demo_text seed settings.form) output → ⊥
  demo_few none_past seed settings output kind many =
      let table = (said seed settings.form).table in
      let says = subst (λ k. source_says k (demo_text seed settings.form) ≡ Ok many.source) kind many.expanded.says in
      let same : many.source ≡ source_of table = let both = sym says ∙ source_is seed settings.form in cc both in
      let p = polarity_of settings.polarity (length many.source.inputs) in
      let expansions = subst (λ s. AreExpansions s p many.expansions) same many.expanded.expansions in
      none_past seed settings.form table p many.expansions (terms_limit settings.form) output (said seed settings.form).says expansions (few_terms settings.form) many.passes

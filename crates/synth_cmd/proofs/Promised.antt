-- What a command that is done promises: the headline.
use Rattle.std.proofs.Common.{◌≡◌, ◌≢◌, ◌∙◌, ℕ, List, [], ◌∷◌, inl, inr, length, ltb, eqb, refl, sym, ap, cond, subst, arith}
use Rattle.std.specs.Prelude.{Option, not}
use Rattle.std.specs.List.{zip}
use Rattle.std.proofs.lemmas.Bool.{cases_Bool, ltb-false, not-false, or_parts, eqb-true}
use Rattle.ae_outside.specs.Files.{Shelf, written}
use Rattle.grading.specs.Grade.{IsGraded, IsSound}
use Rattle.grading.specs.declared.report.GradeReport.{GradeReport}
use Rattle.grading.specs.declared.report.Mode.{Mode}
use Rattle.grading.specs.declared.report.Mode.TheVariants.{Check, Grade}
use Rattle.named_faults.specs.declared.names.NamedFault.{NamedFault}
use Rattle.synth_core.specs.declared.settings.Settings.{Settings}
use Rattle.synth_cmd.specs.Asked.{Asked, Origin}
use Rattle.synth_cmd.specs.Asked.Asked.{Refused, Synth, Grade as asked_grade}
use Rattle.synth_cmd.specs.Asked.Origin.{File, Demo}
use Rattle.synth_cmd.specs.Headline.{Checked, HasHeadline, Holds, Tested, WasSource}
use Rattle.synth_cmd.specs.Lines.{falls_short, finding_status}
use Rattle.synth_cmd.specs.Outcome.{Ending, Makes, Product, Stands, all_written, source_bytes}
use Rattle.synth_cmd.specs.Outcome.Stage.{Finishes}
use Rattle.synth_cmd.specs.Outside.{Outside, World}
use Rattle.synth_cmd.specs.Reading.{HoldTexts, names_read}
use Rattle.synth_cmd.specs.Words.{IsFit}
use Rattle.synth_cmd.specs.declared.TheConstants.{DONE, SHORTFALL}
use Rattle.synth_cmd.proofs.OneEnd.{is_done}

none_left : (left : List NamedFault) → length left ≡ 0 → left ≡ []
none_left [] e = refl
none_left (fault ∷ rest) e = absurd (omega (arith, e))

-- a check is done where no response is wrong and no fault is left
no_shortfall : (wrong : ℕ) (left : List NamedFault) → finding_status wrong left ≡ DONE → (wrong ≡ 0) × (left ≡ [])
no_shortfall wrong left e =
    elim (cases_Bool (falls_short wrong left)) [
      | inl short ↦ let both = sym (ap (λ b. cond b SHORTFALL DONE) short) ∙ e in absurd (omega (arith, both))
      | inr fine ↦
          let parts = or_parts (ltb 0 wrong) (not (eqb (length left) 0)) fine in
          (omega (arith, ltb-false 0 wrong parts.0), none_left left (eqb-true (length left) 0 (not-false (eqb (length left) 0) parts.1)))
    ]

source_was : (settings : Settings) (held : Option Shelf) (source : Origin) (net vectors : List ℕ) (texts : List (List ℕ)) → HoldTexts held (names_read (Synth settings source net vectors)) texts
    → WasSource settings held source (source_bytes settings source texts)
source_was settings held (Demo number) net vectors texts hold = refl
source_was settings held (File name) net vectors [] hold = absurd hold
source_was settings held (File name) net vectors (bytes ∷ texts) hold = hold.0.is_held

module _ (holds : (held : Option Shelf) (name bytes : List ℕ) → Holds (written held name bytes) name bytes)
    (others : (held : Option Shelf) (name q bytes wanted : List ℕ) → q ≢ name → Holds held q wanted → Holds (written held name bytes) q wanted)
    (sound : (net_bytes vec_bytes : List ℕ) (report : GradeReport) → IsGraded Check net_bytes vec_bytes report → report.wrong ≡ 0 → report.left ≡ [] → IsSound net_bytes vec_bytes) where
  tested : (settings : Settings) (source : Origin) (net vectors : List ℕ) (old new : World) (product : Product) → net ≢ vectors
      → Stands (Synth settings source net vectors) old new (Finishes product) → Tested settings (WasSource settings old.held source) net vectors new.held
  tested settings source net vectors old new product apart stands =
      let of = stands.0 in
      let made = of.makes.0 in
      let is_made = of.makes.1 in
      let whole = stands.1 ∙ ap (λ p. all_written old.held (zip (net ∷ vectors ∷ []) p.texts)) of.makes.2 in
      record {
        bytes = source_bytes settings source of.texts;
        was = source_was settings old.held source net vectors of.texts of.hold;
        source = is_made.within.source;
        says = is_made.within.expanded.says;
        net_bytes = made.net_text;
        net_holds = subst (λ held. Holds held net made.net_text) (sym whole) (others (written old.held net made.net_text) vectors net made.vec_text made.net_text apart (holds old.held net made.net_text));
        vec_bytes = made.vec_text;
        vec_holds = subst (λ held. Holds held vectors made.vec_text) (sym whole) (holds (written old.held net made.net_text) vectors made.vec_text);
        headline = is_made.is_synthesised.headline;
      }

  checked : (net vectors : List ℕ) (old new : World) (product : Product) (texts : List (List ℕ)) → HoldTexts old.held (net ∷ vectors ∷ []) texts → Makes (asked_grade Check net vectors) old.advisors new.advisors texts product
      → product.status ≡ DONE → Checked net vectors old.held
  checked net vectors old new product [] hold makes done = absurd makes
  checked net vectors old new product (n ∷ []) hold makes done = absurd makes
  checked net vectors old new product (n ∷ v ∷ w ∷ ws) hold makes done = absurd makes
  checked net vectors old new product (n ∷ v ∷ []) hold makes done =
      let report = makes.0 in
      let fine = no_shortfall report.wrong report.left (sym (ap (λ p. p.status) makes.2) ∙ done) in
      record { net_bytes = n; net_was = hold.0.is_held; vec_bytes = v; vectors_was = hold.1.0.is_held; sound = sound n v report makes.1 fine.0 fine.1 }

  finished : (asked : Asked) (old new : World) (product : Product) → IsFit asked → Stands asked old new (Finishes product) → product.status ≡ DONE → HasHeadline asked old.held new.held
  finished Refused old new product fit stands done = stands.0.makes
  finished (Synth settings source net vectors) old new product fit stands done = tested settings source net vectors old new product fit.0 stands
  finished (asked_grade Grade net vectors) old new product fit stands done = tt
  finished (asked_grade Check net vectors) old new product fit stands done = checked net vectors old new product stands.0.texts stands.0.hold stands.0.makes done

  pub promised : (asked : Asked) (old new : Outside) (s : ℕ) → IsFit asked → Ending asked old new s → s ≡ DONE → HasHeadline asked old.world.held new.world.held
  promised asked old new s fit ending done =
      let end = is_done asked old new s (inl done) ending in
      finished asked old.world new.world end.product fit end.stands (sym end.status ∙ done)

-- Which statuses a command ends with.
use Rattle.std.proofs.Common.{◌≡◌, ◌≢◌, ◌⊎◌, ◌∙◌, inl, inr, ℕ, List, [], ◌∷◌, Bool, true, false, sym, refl, ap, subst, arith, cond}
use Rattle.std.specs.Prelude.{Contains}
use Rattle.ae_base.proofs.Contained.{nothing_in_none}
use Rattle.ae_outside.specs.Counts.{Rose}
use Rattle.grading.specs.declared.report.Mode.{Mode}
use Rattle.synth_core.specs.declared.settings.Settings.{Settings}
use Rattle.synth_cmd.specs.Asked.{Asked, Origin}
use Rattle.synth_cmd.specs.Asked.Asked.{Grade, Synth}
use Rattle.synth_cmd.specs.Asked.Origin.{Demo}
use Rattle.synth_cmd.specs.Lines.{falls_short, status_of}
use Rattle.synth_cmd.specs.Outcome.{Answers, Ending, Makes, Objects, Product, Stage, Stands, Unread}
use Rattle.synth_cmd.specs.Outcome.Ending.{at_stage, untouched, in_part, half_told}
use Rattle.synth_cmd.specs.Outcome.Stage.{Refuses, Fails, Finishes}
use Rattle.synth_cmd.specs.Outside.{Outside, World}
use Rattle.synth_cmd.specs.Reading.{HoldTexts, names_read}
use Rattle.synth_cmd.specs.declared.stop.Refusal.{Refusal}
use Rattle.synth_cmd.specs.declared.stop.Refusal.TheVariants.{Words, ReadFault, TooLong, Text, NamesDiffer, BitCount, TooManyTerms}
use Rattle.synth_cmd.specs.declared.TheConstants.{DONE, MEMORY, SHORTFALL, TOO_MANY_TERMS, WORDS, WRITE_FAULT}

-- ---- any command

abbrev Caused : Asked → (old new : World) → Refusal → Type 0
Caused asked old new r = Unread old.held old.reads new.reads (names_read asked) r ⊎ ((texts : List (List ℕ)) × HoldTexts old.held (names_read asked) texts × Objects asked texts r)

-- a command is refused, done, stopped by a write of a text or of the report, or wants memory
data Status (asked : Asked) (old new : Outside) (s : ℕ) : Type 0 where
  refused : (r : Refusal) → Caused asked old.world new.world r → s ≡ status_of r → Status asked old new s
  done : (product : Product) → Stands asked old.world new.world (Finishes product) → s ≡ product.status → Status asked old new s
  failed : (name : List ℕ) (product : Product) → Stands asked old.world new.world (Fails name product) → s ≡ WRITE_FAULT → Status asked old new s
  unreported : Rose old.faults new.faults → s ≡ WRITE_FAULT → Status asked old new s
  wanting : s ≡ MEMORY → Status asked old new s

of_stage : (asked : Asked) (old new : Outside) (s : ℕ) (stage : Stage) → Stands asked old.world new.world stage → Answers stage old new s → Status asked old new s
of_stage asked old new s (Refuses r) stands answers = refused r stands.cause answers.0
of_stage asked old new s (Fails name product) stands answers = failed name product stands answers.0
of_stage asked old new s (Finishes product) stands (inl is) = done product stands is.0
of_stage asked old new s (Finishes product) stands (inr fault) = unreported fault.1 fault.0

status_is : (asked : Asked) (old new : Outside) (s : ℕ) → Ending asked old new s → Status asked old new s
status_is asked old new s (at_stage stage stands answers) = of_stage asked old new s stage stands answers
status_is asked old new s (untouched is stays front) = wanting is
status_is asked old new s (in_part name product is made stops front) = wanting is
status_is asked old new s (half_told stage is stands front) = wanting is

-- ---- a synthesis

no_shortfall_refusal : (r : Refusal) → status_of r ≢ SHORTFALL
no_shortfall_refusal Words e = omega (arith, e)
no_shortfall_refusal (ReadFault file) e = omega (arith, e)
no_shortfall_refusal (TooLong file) e = omega (arith, e)
no_shortfall_refusal (Text file line what) e = omega (arith, e)
no_shortfall_refusal (NamesDiffer file) e = omega (arith, e)
no_shortfall_refusal (BitCount given wanted) e = omega (arith, e)
no_shortfall_refusal (TooManyTerms output) e = omega (arith, e)

module _ (settings : Settings) (source : Origin) (net vectors : List ℕ) (old new : Outside) (s : ℕ) where
  synth_done : (product : Product) → Stands (Synth settings source net vectors) old.world new.world (Finishes product) → product.status ≡ DONE
  synth_done product stands = ap (λ p. p.status) stands.0.makes.2

  no_shortfall : Status (Synth settings source net vectors) old new s → s ≢ SHORTFALL
  no_shortfall (refused r cause is) e = no_shortfall_refusal r (sym is ∙ e)
  no_shortfall (done product stands is) e = omega (arith, is, synth_done product stands, e)
  no_shortfall (failed name product stands is) e = omega (arith, is, e)
  no_shortfall (unreported rose is) e = omega (arith, is, e)
  no_shortfall (wanting is) e = omega (arith, is, e)

  pub never_short : Ending (Synth settings source net vectors) old new s → s ≢ SHORTFALL
  never_short ending = no_shortfall (status_is (Synth settings source net vectors) old new s ending)

abbrev demo_statuses : List ℕ
demo_statuses = DONE ∷ WORDS ∷ WRITE_FAULT ∷ MEMORY ∷ []

module _ (settings : Settings) (number : ℕ) (net vectors : List ℕ) (old new : Outside) (s : ℕ) where
  -- nothing is read
  of_words : (r : Refusal) → Caused (Synth settings (Demo number) net vectors) old.world new.world r → status_of r ≡ WORDS
  of_words (BitCount given wanted) cause = refl
  of_words Words cause = refl
  of_words (ReadFault file) (inl cause) = absurd cause.0
  of_words (ReadFault file) (inr cause) = absurd cause.2
  of_words (TooLong file) (inl cause) = absurd cause.0
  of_words (TooLong file) (inr cause) = absurd cause.2
  of_words (Text file line what) (inl cause) = absurd cause
  of_words (Text file line what) (inr cause) = absurd cause.2
  of_words (NamesDiffer file) (inl cause) = absurd cause
  of_words (NamesDiffer file) (inr cause) = absurd cause.2
  of_words (TooManyTerms output) (inl cause) = absurd cause
  of_words (TooManyTerms output) (inr cause) = absurd cause.2

  of_demo : Status (Synth settings (Demo number) net vectors) old new s → Contains demo_statuses s
  of_demo (refused r cause is) = (1, omega arith, sym (is ∙ of_words r cause))
  of_demo (done product stands is) = (0, omega arith, sym (is ∙ synth_done settings (Demo number) net vectors old new s product stands))
  of_demo (failed name product stands is) = (2, omega arith, sym is)
  of_demo (unreported rose is) = (2, omega arith, sym is)
  of_demo (wanting is) = (3, omega arith, sym is)

  pub demo_ends : Ending (Synth settings (Demo number) net vectors) old new s → Contains demo_statuses s
  demo_ends ending = of_demo (status_is (Synth settings (Demo number) net vectors) old new s ending)

-- ---- a grading or a check

abbrev EndsEither : ℕ → Type 0
EndsEither status = (status ≡ SHORTFALL) ⊎ (status ≡ DONE)

short_or_done : (b : Bool) → EndsEither (cond b SHORTFALL DONE)
short_or_done true = inl refl
short_or_done false = inr refl

module _ (mode : Mode) (net vectors : List ℕ) (old new : Outside) (s : ℕ) where
  either : (before after : World) (texts : List (List ℕ)) (product : Product) → Makes (Grade mode net vectors) before.advisors after.advisors texts product → EndsEither product.status
  either before after [] product makes = absurd makes
  either before after (n ∷ []) product makes = absurd makes
  either before after (n ∷ v ∷ []) product makes = subst (λ p. EndsEither p.status) (sym makes.2) (short_or_done (falls_short makes.0.wrong makes.0.left))
  either before after (n ∷ v ∷ w ∷ ws) product makes = absurd makes

  -- the texts are two, so no other refusal has a cause
  abbrev IsOther : Type 0
  IsOther = (s ≢ TOO_MANY_TERMS) × (s ≢ WRITE_FAULT)

  other_refusal : (r : Refusal) → Caused (Grade mode net vectors) old.world new.world r → s ≡ status_of r → IsOther
  other_refusal Words cause is = (λ e. omega (arith, is, e), λ e. omega (arith, is, e))
  other_refusal (ReadFault file) cause is = (λ e. omega (arith, is, e), λ e. omega (arith, is, e))
  other_refusal (TooLong file) cause is = (λ e. omega (arith, is, e), λ e. omega (arith, is, e))
  other_refusal (Text file line what) cause is = (λ e. omega (arith, is, e), λ e. omega (arith, is, e))
  other_refusal (NamesDiffer file) cause is = (λ e. omega (arith, is, e), λ e. omega (arith, is, e))
  other_refusal (BitCount given wanted) cause is = (λ e. omega (arith, is, e), λ e. omega (arith, is, e))
  other_refusal (TooManyTerms output) (inl cause) is = absurd cause
  other_refusal (TooManyTerms output) (inr cause) is = absurd cause.2

  abbrev Allowed : Type 0
  Allowed = (s ≢ TOO_MANY_TERMS) × (s ≡ WRITE_FAULT → Rose old.faults new.faults)

  by_status : (status : ℕ) → EndsEither status → s ≡ status → Allowed
  by_status status (inl falls) is = (λ e. omega (arith, falls, is, e), λ e. absurd (omega (arith, falls, is, e)))
  by_status status (inr ends) is = (λ e. omega (arith, ends, is, e), λ e. absurd (omega (arith, ends, is, e)))

  allowed : Status (Grade mode net vectors) old new s → Allowed
  allowed (refused r cause is) = let other = other_refusal r cause is in (other.0, λ e. absurd (other.1 e))
  allowed (done product stands is) = by_status product.status (either old.world new.world stands.0.texts product stands.0.makes) is
  allowed (failed name product stands is) = absurd (nothing_in_none name stands.0)
  allowed (unreported rose is) = (λ e. omega (arith, is, e), λ e. rose)
  allowed (wanting is) = (λ e. omega (arith, is, e), λ e. absurd (omega (arith, is, e)))

  pub grade_allowed : Ending (Grade mode net vectors) old new s → Allowed
  grade_allowed ending = allowed (status_is (Grade mode net vectors) old new s ending)

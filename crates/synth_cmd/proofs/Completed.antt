-- Which status a command ends with, by what its files were.
use Rattle.std.proofs.Common.{◌≡◌, ◌⊎◌, inl, inr, ℕ, List, Option, Some, None, sym, ap, refl, ◌∙◌, subst}
use Rattle.std.specs.Prelude.{Contains}
use Rattle.std.specs.FinMap.{get}
use Rattle.ae_outside.specs.Files.{Shelf}
use Rattle.grading.specs.Grade.{IsGraded}
use Rattle.grading.specs.Pair.{AreGradable, HasOtherNames}
use Rattle.grading.specs.declared.report.GradeReport.{GradeReport}
use Rattle.grading.specs.declared.report.Mode.{Mode}
use Rattle.synth_core.specs.Asked.{HasTooMany, IsWithin}
use Rattle.synth_core.specs.declared.settings.Settings.{Settings}
use Rattle.synth_cmd.specs.Asked.{Asked}
use Rattle.synth_cmd.specs.Complete.{Accepts, IsComplete, NoFault, NoRead, OrMemory}
use Rattle.synth_cmd.specs.Ends.{Ends}
use Rattle.synth_cmd.specs.Lines.{status_of}
use Rattle.synth_cmd.specs.Outcome.{Answers, Ending, IsMadeOf, Objects, Product, Stage, Stands, Unread}
use Rattle.synth_cmd.specs.Outcome.Ending.{at_stage, untouched, in_part, half_told}
use Rattle.synth_cmd.specs.Outcome.Stage.{Refuses, Fails, Finishes}
use Rattle.synth_cmd.specs.Outside.{Outside}
use Rattle.synth_cmd.specs.Reading.{ComesTo, HoldOnly, HoldTexts, IsLong, names_read, names_written}
use Rattle.synth_cmd.specs.Telling.{Closes}
use Rattle.synth_cmd.specs.declared.stop.Refusal.{Refusal}
use Rattle.synth_cmd.specs.declared.stop.Refusal.TheVariants.{Words, ReadFault, TooLong, Text, NamesDiffer, BitCount, TooManyTerms}
use Rattle.synth_cmd.specs.declared.TheConstants.{READ_FAULT, TOO_LONG}
use Rattle.synth_cmd.proofs.Answered.{accepted_or_refused, accepted_status, made_or_refused, one_refusal}
use Rattle.synth_cmd.proofs.Held.{comes_named, holds_come, holds_named, none_or_long, not_long, not_none, only_short}

module _ (apart : (settings : Settings) (bytes : List ℕ) (output : ℕ) → IsWithin settings bytes → HasTooMany settings bytes output → ⊥)
    (same_names : (net_bytes vec_bytes : List ℕ) → AreGradable net_bytes vec_bytes → HasOtherNames net_bytes vec_bytes → ⊥)
    (one_grade : (mode : Mode) (net_bytes vec_bytes : List ℕ) (a b : GradeReport) → IsGraded mode net_bytes vec_bytes a → IsGraded mode net_bytes vec_bytes b → a ≡ b)
    (asked : Asked) (old new : Outside) (status : ℕ) where
  abbrev reads : List (List ℕ)
  reads = names_read asked

  abbrev Caused : Refusal → Type 0
  Caused r = Unread old.world.held old.world.reads new.world.reads reads r ⊎ ((texts : List (List ℕ)) × HoldTexts old.world.held reads texts × Objects asked texts r)

  -- each stage has its status, and want of memory answers every question
  by_stage : (wanted : ℕ) → ((stage : Stage) → Stands asked old.world new.world stage → Answers stage old new status → OrMemory wanted status) → Ending asked old new status → OrMemory wanted status
  by_stage wanted f (at_stage stage stands answers) = f stage stands answers
  by_stage wanted f (untouched is stays front) = inr is
  by_stage wanted f (in_part name product is made stops front) = inr is
  by_stage wanted f (half_told stage is stands front) = inr is

  -- ---- a file is not held

  module _ (m : Shelf) (name : List ℕ) (tells : old.world.held ≡ Some m) (to : ComesTo old.world.held reads name) (none : get m name ≡ None) where
    none_hold : (texts : List (List ℕ)) → HoldTexts old.world.held reads texts → ⊥
    none_hold texts hold = let holds = holds_come old.world.held reads texts name hold to in not_none old.world.held m name holds.0 tells holds.1 none

    none_refused : (r : Refusal) → Caused r → status ≡ status_of r → OrMemory READ_FAULT status
    none_refused r (inr cause) is = absurd (none_hold cause.0 cause.1)
    none_refused (ReadFault file) (inl cause) is = inl is
    none_refused (TooLong file) (inl cause) is = absurd (none_or_long old.world.held m reads name file.now tells none cause.1 to cause.0)
    none_refused Words (inl cause) is = absurd cause
    none_refused (Text file line what) (inl cause) is = absurd cause
    none_refused (NamesDiffer file) (inl cause) is = absurd cause
    none_refused (BitCount given wanted) (inl cause) is = absurd cause
    none_refused (TooManyTerms output) (inl cause) is = absurd cause

    not_held_by : (stage : Stage) → Stands asked old.world new.world stage → Answers stage old new status → OrMemory READ_FAULT status
    not_held_by (Refuses r) stands answers = none_refused r stands.cause answers.0
    not_held_by (Fails file product) stands answers = absurd (none_hold stands.2.texts stands.2.hold)
    not_held_by (Finishes product) stands answers = absurd (none_hold stands.0.texts stands.0.hold)

  -- ---- a file is too long

  module _ (m : Shelf) (name : List ℕ) (tells : old.world.held ≡ Some m) (named : Contains reads name) (long : IsLong old.world.held name) (quiet : NoRead reads old new) where
    long_hold : (texts : List (List ℕ)) → HoldTexts old.world.held reads texts → ⊥
    long_hold texts hold = let holds = holds_named old.world.held reads texts name hold named in not_long old.world.held m name holds.0 tells holds.1 long

    long_refused : (r : Refusal) → Caused r → status ≡ status_of r → OrMemory TOO_LONG status
    long_refused r (inr cause) is = absurd (long_hold cause.0 cause.1)
    long_refused (ReadFault file) (inl cause) is = absurd (quiet file.now (comes_named old.world.held reads file.now cause.0) cause.1)
    long_refused (TooLong file) (inl cause) is = inl is
    long_refused Words (inl cause) is = absurd cause
    long_refused (Text file line what) (inl cause) is = absurd cause
    long_refused (NamesDiffer file) (inl cause) is = absurd cause
    long_refused (BitCount given wanted) (inl cause) is = absurd cause
    long_refused (TooManyTerms output) (inl cause) is = absurd cause

    too_long_by : (stage : Stage) → Stands asked old.world new.world stage → Answers stage old new status → OrMemory TOO_LONG status
    too_long_by (Refuses r) stands answers = long_refused r stands.cause answers.0
    too_long_by (Fails file product) stands answers = absurd (long_hold stands.2.texts stands.2.hold)
    too_long_by (Finishes product) stands answers = absurd (long_hold stands.0.texts stands.0.hold)

  -- ---- all files held texts

  module _ (texts : List (List ℕ)) (only : HoldOnly old.world.held reads texts) (quiet : NoRead reads old new) where
    -- a refusal is one of these texts
    objects_to : (r : Refusal) → Caused r → Objects asked texts r
    objects_to r (inr cause) = subst (λ t. Objects asked t r) (only.only cause.0 cause.1) cause.2
    objects_to (ReadFault file) (inl cause) = absurd (quiet file.now (comes_named old.world.held reads file.now cause.0) cause.1)
    objects_to (TooLong file) (inl cause) = absurd (only_short old.world.held reads texts file.now only (comes_named old.world.held reads file.now cause.0) cause.1)
    objects_to Words (inl cause) = absurd cause
    objects_to (Text file line what) (inl cause) = absurd cause
    objects_to (NamesDiffer file) (inl cause) = absurd cause
    objects_to (BitCount given wanted) (inl cause) = absurd cause
    objects_to (TooManyTerms output) (inl cause) = absurd cause

    -- and so is what is made
    made_refused : (product : Product) (r : Refusal) → IsMadeOf asked old.world new.world product → Objects asked texts r → ⊥
    made_refused product r made objects = made_or_refused apart same_names asked old.world.advisors new.world.advisors made.texts product r made.makes
        (subst (λ t. Objects asked t r) (sym (only.only made.texts made.hold)) objects)

    refused_by : (r : Refusal) → Objects asked texts r → (stage : Stage) → Stands asked old.world new.world stage → Answers stage old new status → OrMemory (status_of r) status
    refused_by r objects (Refuses q) stands answers = inl (answers.0 ∙ one_refusal apart asked texts q r (objects_to q stands.cause) objects)
    refused_by r objects (Fails file product) stands answers = absurd (made_refused product r stands.2 objects)
    refused_by r objects (Finishes product) stands answers = absurd (made_refused product r stands.0 objects)

    module _ (wanted : ℕ) (accepts : Accepts asked texts wanted) (none : NoFault reads (names_written asked) old new) where
      is_wanted : (product : Product) → IsMadeOf asked old.world new.world product → product.status ≡ wanted
      is_wanted product made = accepted_status one_grade asked old.world.advisors new.world.advisors made.texts wanted product
          (subst (λ t. Accepts asked t wanted) (sym (only.only made.texts made.hold)) accepts) made.makes

      complete_by : (stage : Stage) → Stands asked old.world new.world stage → Answers stage old new status → OrMemory wanted status
      complete_by (Refuses r) stands answers = absurd (accepted_or_refused apart same_names asked texts wanted r accepts (objects_to r stands.cause))
      complete_by (Fails file product) stands answers = absurd (none.no_write file stands.0 stands.1)
      complete_by (Finishes product) stands (inl told) = inl (told.0 ∙ is_wanted product stands.0)
      complete_by (Finishes product) stands (inr fault) = absurd (none.no_report fault.1)

  is_complete : Ending asked old new status → IsComplete asked old new status
  is_complete ending = record {
    not_held = λ m name tells to none. by_stage READ_FAULT (not_held_by m name tells to none) ending;
    too_long = λ m name tells named long quiet. by_stage TOO_LONG (too_long_by m name tells named long quiet) ending;
    refused = λ texts r only objects quiet. by_stage (status_of r) (refused_by texts only quiet r objects) ending;
    complete = λ texts wanted only accepts none. by_stage wanted (complete_by texts only none.no_read wanted accepts none) ending;
  }

  pub ends_of : Closes asked old new status → Ends asked old new status
  ends_of closes = record {
    ending = closes.ending;
    complete = is_complete closes.ending;
    reads = closes.reads;
    writes = closes.writes;
    faults = closes.faults;
    advisors = closes.advisors;
  }

  pub ends_as : (command : Asked) → command ≡ asked → Closes command old new status → Ends asked old new status
  ends_as command same closes = ends_of (subst (λ a. Closes a old new status) same closes)

-- Where the files and the report tell, a call that writes its report has one end: the status, what is held and what was taken are
-- determined.
use Rattle.std.proofs.Common.{◌≡◌, ◌<◌, ◌∙◌, ◌∷◌, [], ℕ, List, Option, Some, inl, inr, sym, ap, subst, arith}
use Rattle.std.specs.List.{zip}
use Rattle.ae_outside.specs.Files.{Shelf, added}
use Rattle.grading.specs.Grade.{IsGraded}
use Rattle.grading.specs.declared.report.GradeReport.{GradeReport}
use Rattle.grading.specs.declared.report.Mode.{Mode}
use Rattle.polarity.specs.Search.{Advised}
use Rattle.synth_core.specs.Made.{IsMade, Texts}
use Rattle.synth_core.specs.declared.settings.Settings.{Settings}
use Rattle.synth_cmd.specs.Asked.{Asked}
use Rattle.synth_cmd.specs.Ends.{Ends, IsReported}
use Rattle.synth_cmd.specs.Lines.{status_of}
use Rattle.synth_cmd.specs.Outcome.{Answers, Ending, Makes, Product, Stage, Stands, all_written}
use Rattle.synth_cmd.specs.Outcome.Ending.{at_stage, untouched, in_part, half_told}
use Rattle.synth_cmd.specs.Outcome.Stage.{Refuses, Fails, Finishes}
use Rattle.synth_cmd.specs.Outside.{Outside}
use Rattle.synth_cmd.specs.Reading.{names_read, names_written}
use Rattle.synth_cmd.specs.declared.stop.Refusal.{Refusal}
use Rattle.synth_cmd.specs.declared.stop.Refusal.TheVariants.{Words, ReadFault, TooLong, Text, NamesDiffer, BitCount, TooManyTerms}
use Rattle.synth_cmd.specs.declared.TheConstants.{WRITE_FAULT, MEMORY}
use Rattle.synth_cmd.proofs.Answered.{one_product}
use Rattle.synth_cmd.proofs.Held.{one_hold}

-- a status of a report is none of the others
other_status : (s wanted : ℕ) → IsReported s → s ≡ wanted → 1 < wanted → ⊥
other_status s wanted (inl e) is more = omega (arith, e, is, more)
other_status s wanted (inr e) is more = omega (arith, e, is, more)

no_refusal : (r : Refusal) → 1 < status_of r
no_refusal Words = omega arith
no_refusal (ReadFault file) = omega arith
no_refusal (TooLong file) = omega arith
no_refusal (Text file line what) = omega arith
no_refusal (NamesDiffer file) = omega arith
no_refusal (BitCount given wanted) = omega arith
no_refusal (TooManyTerms output) = omega arith

-- what is done: something was made and written, the report took its lines, and no write of it failed
pub record IsDone (asked : Asked) (old new : Outside) (s : ℕ) : Type 0 where
  pub product : Product
  pub stands : Stands asked old.world new.world (Finishes product)
  pub status : s ≡ product.status
  pub taken : new.taken ≡ added old.taken product.lines
  pub faults : new.faults ≡ old.faults

module _ (asked : Asked) (old new : Outside) (s : ℕ) (reported : IsReported s) where
  stage_done : (stage : Stage) → Stands asked old.world new.world stage → Answers stage old new s → IsDone asked old new s
  stage_done (Refuses r) stands answers = absurd (other_status s (status_of r) reported answers.0 (no_refusal r))
  stage_done (Fails name product) stands answers = absurd (other_status s WRITE_FAULT reported answers.0 (omega arith))
  stage_done (Finishes product) stands (inl done) = record { product = product; stands = stands; status = done.0; taken = done.1; faults = done.2 }
  stage_done (Finishes product) stands (inr fault) = absurd (other_status s WRITE_FAULT reported fault.0 (omega arith))

  pub is_done : Ending asked old new s → IsDone asked old new s
  is_done (at_stage stage stands answers) = stage_done stage stands answers
  is_done (untouched is stays front) = absurd (other_status s MEMORY reported is (omega arith))
  is_done (in_part name product is made stops front) = absurd (other_status s MEMORY reported is (omega arith))
  is_done (half_told stage is stands front) = absurd (other_status s MEMORY reported is (omega arith))

  pub no_count : Ending asked old new s → (new.world.reads ≡ old.world.reads) × (new.world.writes ≡ old.world.writes) × (new.faults ≡ old.faults)
  no_count ending = let end = is_done ending in (end.stands.2, end.stands.3, end.faults)

module _ (one : (settings : Settings) (bytes : List ℕ) (before after : List Advised) (a b : Texts) → IsMade settings bytes before after a → IsMade settings bytes before after b → a ≡ b)
    (one_grade : (mode : Mode) (net_bytes vec_bytes : List ℕ) (a b : GradeReport) → IsGraded mode net_bytes vec_bytes a → IsGraded mode net_bytes vec_bytes b → a ≡ b) where
  pub one_end : (asked : Asked) (m : Shelf) (old a b : Outside) (s t : ℕ) → old.world.held ≡ Some m → a.world.advisors ≡ b.world.advisors → IsReported s → IsReported t → Ends asked old a s → Ends asked old b t
      → (s ≡ t) × (a.world.held ≡ b.world.held) × (a.taken ≡ b.taken)
  one_end asked m old a b s t tells advised first second x y =
      let p = is_done asked old a s first x.ending in
      let q = is_done asked old b t second y.ending in
      let texts = one_hold old.world.held m (names_read asked) p.stands.0.texts q.stands.0.texts tells p.stands.0.hold q.stands.0.hold in
      let makes = subst (λ after. Makes asked old.world.advisors after q.stands.0.texts p.product) advised (subst (λ ts. Makes asked old.world.advisors a.world.advisors ts p.product) texts p.stands.0.makes) in
      let same : p.product ≡ q.product = one_product one_grade one asked old.world.advisors b.world.advisors q.stands.0.texts p.product q.product makes q.stands.0.makes in (
        p.status ∙ ap (λ r. r.status) same ∙ sym q.status,
        p.stands.1 ∙ ap (λ r. all_written old.world.held (zip (names_written asked) r.texts)) same ∙ sym q.stands.1,
        p.taken ∙ ap (λ r. added old.taken r.lines) same ∙ sym q.taken,
      )

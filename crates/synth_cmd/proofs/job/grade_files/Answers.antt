use Rattle.std.proofs.Common.{◌∷◌, [], ap, inl, inr, refl, sym, subst, Err}
use Rattle.synth_cmd.specs.Outcome.{grading_of}
use Rattle.synth_cmd.specs.Reading.{HoldTexts}
use Rattle.synth_cmd.specs.declared.reading.PairTexts.{PairTexts}
use Rattle.synth_cmd.specs.declared.stop.Refusal.TheVariants.{Text, NamesDiffer}
use Rattle.synth_cmd.proofs.Jobs.{grade_made, grade_unmade, unread_gives}
use Rattle.synth_cmd.proofs.job.grade_files.Goals as goal

pub returns-in-Err-clause-gives : goal.returns-in-Err-clause-gives
returns-in-Err-clause-gives g c advisors =
    unread_gives (λ (texts : PairTexts). texts.net.items ∷ texts.vectors.items ∷ []) (grading_of c.args.mode) _ _ _ c.in-Err.unmade c.in-Err.ensures.stays refl c.in-Err.ensures.texts

pub returns-in-Ok-grade-clause-gives : goal.returns-in-Ok-grade-clause-gives
returns-in-Ok-grade-clause-gives g c advisors =
    let hold = subst (λ n. HoldTexts (g.F.Files.held c.args.files.now) (c.args.names.now.net.now ∷ c.args.names.now.vectors.now ∷ []) (n ∷ c.deref-2.result.now ∷ [])) (sym c.deref.ensures.value)
    (subst (λ v. HoldTexts (g.F.Files.held c.args.files.now) (c.args.names.now.net.now ∷ c.args.names.now.vectors.now ∷ []) (c.in-Ok.texts.net.items ∷ v ∷ [])) (sym c.deref-2.ensures.value) c.in-Ok.ensures.texts) in
    grade_made c.args.mode _ _ c.deref.result.now c.deref-2.result.now _ _ hold c.in-Ok.ensures.stays refl c.in-Ok-grade.report c.in-Ok-grade.ensures.graded

pub returns-clause-gives : goal.returns-clause-gives
returns-clause-gives g c advisors =
    let hold = subst (λ n. HoldTexts (g.F.Files.held c.args.files.now) (c.args.names.now.net.now ∷ c.args.names.now.vectors.now ∷ []) (n ∷ c.deref-2.result.now ∷ [])) (sym c.deref.ensures.value)
    (subst (λ v. HoldTexts (g.F.Files.held c.args.files.now) (c.args.names.now.net.now ∷ c.args.names.now.vectors.now ∷ []) (c.in-Ok.texts.net.items ∷ v ∷ [])) (sym c.deref-2.ensures.value) c.in-Ok.ensures.texts) in
    let e = c.in-Err-grade.ensures in
    rw c.no_grading.ensures
    (grade_unmade c.args.mode c.args.names.now.net.now c.args.names.now.vectors.now c.deref.result.now c.deref-2.result.now
    (record { held = g.F.Files.held c.args.files.now; reads = g.F.Files.read_faults c.args.files.now; writes = g.F.Files.write_faults c.args.files.now; advisors = advisors })
    (record { held = g.F.Files.held c.read_pair.new.files; reads = g.F.Files.read_faults c.read_pair.new.files; writes = g.F.Files.write_faults c.read_pair.new.files; advisors = advisors })
    hold c.in-Ok.ensures.stays refl (grading_of c.args.mode)
    (λ line what. Text c.args.names.now.net line what) (λ line what. Text c.args.names.now.vectors line what) (NamesDiffer c.args.names.now.vectors) c.in-Err-grade.error
    (λ line what is. inl (refl, is)) (λ line what fine is. inr (fine, inl (refl, is))) (λ differ. (refl, differ))
    (λ line what is. e.blif line what (ap Err is)) (λ line what is. e.vector line what (ap Err is)) (λ is. e.names (ap Err is)))

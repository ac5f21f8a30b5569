use Rattle.std.proofs.Common.{◌≡◌, ◌≤◌, ℕ, List, length, ap, inl, refl, sym, Err, subst}
use Rattle.ae_base.specs.declared.limits.TheConstants.{TEXT_BYTES}
use Rattle.synth_core.specs.Made.{texts_of}
use Rattle.synth_cmd.specs.Ends.{WasText}
use Rattle.synth_cmd.specs.Outcome.{synthesis_of}
use Rattle.synth_cmd.specs.Words.{source_of, synth_asked}
use Rattle.synth_cmd.specs.declared.stop.Fault.TheVariants as fault
use Rattle.synth_cmd.specs.declared.stop.Refusal.TheVariants.{Text}
use Rattle.synth_cmd.proofs.Jobs.{advisors_of, source_faulty, source_gives, synth_made, synth_unmade}
use Rattle.synth_cmd.proofs.job.make.Goals as goal

pub synthesise-requires : goal.synthesise-requires
synthesise-requires g c = subst (λ (bytes : List ℕ). length bytes ≤ TEXT_BYTES) (sym c.deref.ensures.value) c.in-Ok.ensures.short

pub returns-in-Err-clause-gives : goal.returns-in-Err-clause-gives
returns-in-Err-clause-gives g c =
    source_gives (λ made. synthesis_of (texts_of made)) c.args.settings.now (source_of c.args.names.now.source) (synth_asked c.args.settings.now c.args.names.now) _ _ c.in-Err.unmade c.in-Err.ensures.stays refl c.in-Err.ensures.text

pub returns-in-Ok-synthesise-clause-gives : goal.returns-in-Ok-synthesise-clause-gives
returns-in-Ok-synthesise-clause-gives g c =
    let was = subst (WasText c.args.settings.now (g.F.Files.held c.args.files.now) (source_of c.args.names.now.source)) (sym c.deref.ensures.value) c.in-Ok.ensures.text in
    synth_made c.one_answer_law.ensures.apart c.args.settings.now (source_of c.args.names.now.source) c.args.names.now.net.now c.args.names.now.vectors.now c.deref.result.now _ _ c.in-Ok.ensures.drawn c.requires was
    c.in-Ok.ensures.stays c.in-Ok-synthesise.ensures.advisors (texts_of c.in-Ok-synthesise.made) c.in-Ok-synthesise.ensures.made

pub returns-in-Ok-synthesise-clause-advisors : goal.returns-in-Ok-synthesise-clause-advisors
returns-in-Ok-synthesise-clause-advisors g c =
    let was = subst (WasText c.args.settings.now (g.F.Files.held c.args.files.now) (source_of c.args.names.now.source)) (sym c.deref.ensures.value) c.in-Ok.ensures.text in
    advisors_of c.args.settings.now _ _ _ _ was c.in-Ok-synthesise.ensures.advisors

pub returns-clause-gives : goal.returns-clause-gives
returns-clause-gives g c =
    let was = subst (WasText c.args.settings.now (g.F.Files.held c.args.files.now) (source_of c.args.names.now.source)) (sym c.deref.ensures.value) c.in-Ok.ensures.text in
    let e = c.in-Err-synthesise.ensures in
    rw c.no_synthesis.ensures
    (synth_unmade c.one_answer_law.ensures.apart c.args.settings.now (source_of c.args.names.now.source) c.args.names.now.net.now c.args.names.now.vectors.now c.deref.result.now
    (record { held = g.F.Files.held c.args.files.now; reads = g.F.Files.read_faults c.args.files.now; writes = g.F.Files.write_faults c.args.files.now; advisors = _ })
    (record { held = g.F.Files.held c.source_text.new.files; reads = g.F.Files.read_faults c.source_text.new.files; writes = g.F.Files.write_faults c.source_text.new.files; advisors = _ })
    c.in-Ok.ensures.drawn c.requires was
    c.in-Ok.ensures.stays e.advisors (λ made. synthesis_of (texts_of made)) (λ line what. Text c.name_of.result line (fault.Source what)) c.in-Err-synthesise.error
    (λ line what says. source_faulty c.args.settings.now c.args.names.now.net.now c.args.names.now.vectors.now _ (source_of c.args.names.now.source) _ _ c.name_of.ensures c.in-Ok.ensures.drawn c.requires was line what says)
    (λ line what is. e.refused line what (ap Err is))
    (λ given wanted is. e.bit_count given wanted (ap Err is))
    (λ output is. e.too_many output (ap Err is)))

pub returns-clause-advisors : goal.returns-clause-advisors
returns-clause-advisors g c =
    let was = subst (WasText c.args.settings.now (g.F.Files.held c.args.files.now) (source_of c.args.names.now.source)) (sym c.deref.ensures.value) c.in-Ok.ensures.text in
    advisors_of c.args.settings.now _ _ _ _ was c.in-Err-synthesise.ensures.advisors

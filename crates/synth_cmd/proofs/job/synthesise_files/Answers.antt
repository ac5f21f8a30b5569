use Rattle.std.proofs.Common.{◌∷◌, ◌∙◌, [], refl, subst}
use Rattle.synth_core.specs.Made.{texts_of}
use Rattle.synth_cmd.specs.Outcome.{synthesis_of}
use Rattle.synth_cmd.specs.Outside.{CountsAmong}
use Rattle.synth_cmd.specs.Reading.{names_read, names_written}
use Rattle.synth_cmd.specs.Words.{synth_asked}
use Rattle.synth_cmd.proofs.Ends.{comes_unmade}
use Rattle.synth_cmd.proofs.Jobs.{comes_stopped, comes_written}
use Rattle.synth_cmd.proofs.Names.{among_none}
use Rattle.synth_cmd.proofs.job.synthesise_files.Goals as goal

pub returns-in-Err : goal.returns-in-Err
returns-in-Err g c =
    let e = c.in-Err.ensures in
    record {
      comes = rw c.stop_of.ensures (comes_unmade (λ made. synthesis_of (texts_of made)) (λ made. synthesis_of (texts_of made)) (synth_asked c.args.settings.now c.args.names.now) _ _ c.in-Err.unmade e.stays e.gives);
      reads = e.reads;
      writes = among_none _ _ _ e.writes;
      advisors = e.advisors;
    }

pub returns-in-Ok-write_texts : goal.returns-in-Ok-write_texts
returns-in-Ok-write_texts g c =
    let e = c.in-Ok.ensures in
    let w = c.in-Ok-write_texts.ensures in
    let asked = synth_asked c.args.settings.now c.args.names.now in
    record {
      comes = comes_written (λ made. synthesis_of (texts_of made)) c.in-Ok.made asked _ _ _ refl e.stays e.gives w.writes (w.reads ∙ e.quiet) (w.quiet ∙ e.writes);
      reads = rw w.reads e.reads;
      writes = subst (λ b. CountsAmong (names_written asked) b (g.F.Files.write_faults c.write_texts.new.files)) e.writes w.counts;
      advisors = e.advisors;
    }

pub returns : goal.returns
returns g c =
    let e = c.in-Ok.ensures in
    let w = c.in-Err-write_texts.ensures in
    let asked = synth_asked c.args.settings.now c.args.names.now in
    record {
      comes = comes_stopped (λ made. synthesis_of (texts_of made)) c.in-Ok.made asked _ _ _ refl e.stays e.gives c.in-Err-write_texts.stop e.writes w.writes;
      reads = rw w.reads e.reads;
      writes = subst (λ b. CountsAmong (names_written asked) b (g.F.Files.write_faults c.write_texts.new.files)) e.writes w.counts;
      advisors = e.advisors;
    }

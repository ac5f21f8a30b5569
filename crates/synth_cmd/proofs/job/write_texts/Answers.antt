use Rattle.std.proofs.Common.{◌≡◌, ◌∙◌, ◌∷◌, [], ℕ, List, ap, sym, subst, Err}
use Rattle.ae_base.proofs.Contained.{Contains-first}
use Rattle.ae_outside.specs.Files.{IsWrittenInPart, written}
use Rattle.synth_cmd.proofs.Jobs.{stops_first, stops_second}
use Rattle.synth_cmd.proofs.Names.{among_first, among_two, is_second, rose_since}
use Rattle.synth_cmd.proofs.job.write_texts.Goals as goal

pub returns-in-Err-Fault-clause-writes : goal.returns-in-Err-Fault-clause-writes
returns-in-Err-Fault-clause-writes g c =
    let e = c.in-Err-Fault.ensures in (
      Contains-first c.args.net.now (c.args.vectors.now ∷ []),
      e.fault (ap Err c.in-Err-Fault.field-0-is),
      stops_first _ _ _ _ _ _ (subst (λ (t : List ℕ). IsWrittenInPart (g.F.Files.held c.args.files.now) c.args.net.now t (g.F.Files.held c.write_whole.new.files)) c.deref.ensures.value e.err),
    )

pub returns-in-Err-Memory-clause-writes : goal.returns-in-Err-Memory-clause-writes
returns-in-Err-Memory-clause-writes g c =
    let e = c.in-Err-Memory.ensures in (
      c.args.net.now,
      stops_first _ _ _ _ _ _ (subst (λ (t : List ℕ). IsWrittenInPart (g.F.Files.held c.args.files.now) c.args.net.now t (g.F.Files.held c.write_whole.new.files)) c.deref.ensures.value e.err),
    )

pub returns-in-Err-Fault-clause-counts : goal.returns-in-Err-Fault-clause-counts
returns-in-Err-Fault-clause-counts g c = among_first _ _ _ _ c.in-Err-Fault.ensures.counts

pub returns-in-Err-Memory-clause-counts : goal.returns-in-Err-Memory-clause-counts
returns-in-Err-Memory-clause-counts g c = among_first _ _ _ _ c.in-Err-Memory.ensures.counts

pub returns-in-Err-Fault-write_whole-clause-writes : goal.returns-in-Err-Fault-write_whole-clause-writes
returns-in-Err-Fault-write_whole-clause-writes g c =
    let e = c.in-Err-Fault-write_whole.ensures in
    let whole = c.in-Ok.ensures.ok ∙ ap (λ (t : List ℕ). written (g.F.Files.held c.args.files.now) c.args.net.now t) c.deref.ensures.value in (
      is_second c.args.net.now c.args.vectors.now [],
      rose_since _ _ _ _ _ c.in-Ok.ensures.counts (e.fault (ap Err c.in-Err-Fault-write_whole.field-0-is)),
      stops_second _ _ _ _ _ _ _ whole (subst (λ (t : List ℕ). IsWrittenInPart (g.F.Files.held c.write_whole.new.files) c.args.vectors.now t (g.F.Files.held c.write_whole-2.new.files)) c.deref-2.ensures.value e.err),
    )

pub returns-in-Err-Memory-write_whole-clause-writes : goal.returns-in-Err-Memory-write_whole-clause-writes
returns-in-Err-Memory-write_whole-clause-writes g c =
    let e = c.in-Err-Memory-write_whole.ensures in
    let whole = c.in-Ok.ensures.ok ∙ ap (λ (t : List ℕ). written (g.F.Files.held c.args.files.now) c.args.net.now t) c.deref.ensures.value in (
      c.args.vectors.now,
      stops_second _ _ _ _ _ _ _ whole (subst (λ (t : List ℕ). IsWrittenInPart (g.F.Files.held c.write_whole.new.files) c.args.vectors.now t (g.F.Files.held c.write_whole-2.new.files)) c.deref-2.ensures.value e.err),
    )

pub returns-in-Err-Fault-write_whole-clause-counts : goal.returns-in-Err-Fault-write_whole-clause-counts
returns-in-Err-Fault-write_whole-clause-counts g c = among_two _ _ _ _ _ c.in-Ok.ensures.counts c.in-Err-Fault-write_whole.ensures.counts

pub returns-in-Err-Memory-write_whole-clause-counts : goal.returns-in-Err-Memory-write_whole-clause-counts
returns-in-Err-Memory-write_whole-clause-counts g c = among_two _ _ _ _ _ c.in-Ok.ensures.counts c.in-Err-Memory-write_whole.ensures.counts

pub returns-in-Ok-write_whole-clause-counts : goal.returns-in-Ok-write_whole-clause-counts
returns-in-Ok-write_whole-clause-counts g c = among_two _ _ _ _ _ c.in-Ok.ensures.counts c.in-Ok-write_whole.ensures.counts

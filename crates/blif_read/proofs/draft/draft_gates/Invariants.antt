use Rattle.std.proofs.Common.{◌≡◌, ◌++◌, drop}
use Rattle.blif_read.specs.Build.{drafts_of}
use Rattle.blif_read.specs.Says.{undefined_pin}
use Rattle.blif_read.proofs.draft.draft_gates.Given as goal

abbrev pub invariant-loop-place : goal.invariant-loop-place
invariant-loop-place l =
    let known = l.inputs ++ l.driven in
    record {
      drafts : l.drafts ++ drafts_of known l.place (drop l.place l.lines) ≡ drafts_of known 0 l.lines;
      first : undefined_pin known (drop l.place l.lines) ≡ undefined_pin known l.lines;
    }

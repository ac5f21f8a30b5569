use Rattle.std.proofs.Common.{◌∙◌, sym}
use Rattle.pla_read.proofs.Whole.{cover_fits}
use Rattle.pla_read.proofs.read.finish.Goals as goal

pub invariant_of-cover : goal.invariant_of-cover
invariant_of-cover c = cover_fits _ c.in-Some.n c.in-Some-outputs.m c.in_ok-inputs.inputs c.in_ok-outputs.outputs c.unwrap_or.result c.draft.invariant c.in-Some.is c.in-Some-outputs.is c.in_ok-inputs.ensures.count c.in_ok-outputs.ensures.count c.in_ok-inputs.ensures.labels c.in_ok-outputs.ensures.labels (rw (← c.as_slice.ensures, ← c.as_slice-2.ensures) (sym c.share.ensures ∙ c.if-share.false))

pub invariant_of-cover-2 : goal.invariant_of-cover-2
invariant_of-cover-2 c = cover_fits _ c.in-Some.n c.in-Some-outputs.m c.in_ok-inputs.inputs c.in_ok-outputs.outputs c.unwrap_or.result c.draft.invariant c.in-Some.is c.in-Some-outputs.is c.in_ok-inputs.ensures.count c.in_ok-outputs.ensures.count c.in_ok-inputs.ensures.labels c.in_ok-outputs.ensures.labels (rw (← c.as_slice.ensures, ← c.as_slice-2.ensures) (sym c.share.ensures ∙ c.if-share.false))

pub has_clash-requires : goal.has_clash-requires
has_clash-requires c = cover_fits _ c.in-Some.n c.in-Some-outputs.m c.in_ok-inputs.inputs c.in_ok-outputs.outputs c.unwrap_or.result c.draft.invariant c.in-Some.is c.in-Some-outputs.is c.in_ok-inputs.ensures.count c.in_ok-outputs.ensures.count c.in_ok-inputs.ensures.labels c.in_ok-outputs.ensures.labels (rw (← c.as_slice.ensures, ← c.as_slice-2.ensures) (sym c.share.ensures ∙ c.if-share.false))

use Rattle.std.proofs.Common.{◌++◌, ℕ, Bool, List, sym, arith, codes}
use Rattle.std.proofs.lemmas.Result.{err_from_is_err_and}
use Rattle.blif_read.specs.Says.{some_unknown}
use Rattle.blif_read.specs.Words.{pin_names}
use Rattle.blif_read.specs.declared.fault.BlifFault.TheVariants as fault
use Rattle.blif_read.proofs.Drafts.{drafts_more, drafts_end, where_more, where_err, where_end}
use Rattle.blif_read.proofs.draft.draft_gates.Goals as goal

-- a `.names` that reads an undefined name
abbrev reads : List (List ℕ) → List (List ℕ) → Bool
reads known args = some_unknown known (pin_names args)

pub loop-place-preserved : goal.loop-place-preserved
loop-place-preserved c =
    let known = c.args.inputs.now ++ c.args.driven.now in
    record {
      drafts = drafts_more known c.args.lines.now c.loop-place.place c.index-lines-place.result c.loop-place.drafts c.draft_line.new.drafts c.loop-place-test.true (sym c.index-lines-place.is) c.in_ok-draft_line.ensures.1 c.loop-place.invariant.drafts;
      first = where_more (codes ".names") (reads known) fault.Undefined c.args.lines.now c.loop-place.place c.index-lines-place.result c.loop-place-test.true (sym c.index-lines-place.is) c.in_ok-draft_line.ensures.0 c.loop-place.invariant.first;
    }

pub returns-in_err-draft_line : goal.returns-in_err-draft_line
returns-in_err-draft_line c =
    let p = err_from_is_err_and c.from_residual.result c.from_residual.ensures.1 in
    rw (p.1, p.2)
    (where_err (codes ".names") (reads (c.args.inputs.now ++ c.args.driven.now)) fault.Undefined c.args.lines.now c.loop-place.place c.index-lines-place.result _ c.loop-place-test.true (sym c.index-lines-place.is) c.loop-place.invariant.first c.in_err-draft_line.ensures)

pub returns : goal.returns
returns c =
    let known = c.args.inputs.now ++ c.args.driven.now in
    (where_end (codes ".names") (reads known) fault.Undefined c.args.lines.now c.loop-place.place (omega arith) c.loop-place.invariant.first, drafts_end known c.args.lines.now c.loop-place.place c.loop-place.drafts (omega arith) c.loop-place.invariant.drafts)

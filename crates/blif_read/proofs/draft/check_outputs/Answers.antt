use Rattle.std.proofs.Common.{◌++◌, sym, arith, codes}
use Rattle.std.proofs.lemmas.Result.{err_from_is_err_and}
use Rattle.blif_read.specs.Says.{some_unknown}
use Rattle.blif_read.specs.declared.fault.BlifFault.TheVariants as fault
use Rattle.blif_read.proofs.Drafts.{where_more, where_err, where_end}
use Rattle.blif_read.proofs.draft.check_outputs.Goals as goal

pub loop-line-preserved : goal.loop-line-preserved
loop-line-preserved c =
    where_more (codes ".outputs") (some_unknown (c.args.inputs.now ++ c.args.driven.now)) fault.Undefined c.args.lines.now c.loop-line.line-index c.line-item.result c.loop-line-test.true (sym c.line-item.is) c.in_ok-check_line.ensures.0 c.loop-line.invariant

pub returns-in_err-check_line : goal.returns-in_err-check_line
returns-in_err-check_line c =
    let p = err_from_is_err_and c.from_residual.result c.from_residual.ensures.1 in
    rw (p.1, p.2)
    (where_err (codes ".outputs") (some_unknown (c.args.inputs.now ++ c.args.driven.now)) fault.Undefined c.args.lines.now c.loop-line.line-index c.line-item.result _ c.loop-line-test.true (sym c.line-item.is) c.loop-line.invariant c.in_err-check_line.ensures)

pub returns : goal.returns
returns c = (where_end (codes ".outputs") (some_unknown (c.args.inputs.now ++ c.args.driven.now)) fault.Undefined c.args.lines.now c.loop-line.line-index (omega arith) c.loop-line.invariant, tt)

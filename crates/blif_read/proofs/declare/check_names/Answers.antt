use Rattle.std.proofs.lemmas.Result.{err_from_is_err_and}
use Rattle.blif_read.proofs.Steps.{listed_err, listed_ok}
use Rattle.blif_read.proofs.declare.check_names.Goals as goal

pub returns-in_err-check_name : goal.returns-in_err-check_name
returns-in_err-check_name c =
    let p = err_from_is_err_and c.from_residual.result c.from_residual.ensures.1 in
    rw (p.1, p.2) (listed_err c.args.limits c.args.names.now c.args.words.now c.loop-word.word-index _ _ c.loop-word-test.true c.loop-word.invariant c.in_err-check_name.ensures)

pub loop-word-preserved : goal.loop-word-preserved
loop-word-preserved c = listed_ok c.args.limits c.args.names.now c.args.words.now c.loop-word.word-index _ c.loop-word-test.true c.loop-word.invariant c.in_ok-check_name.ensures.0

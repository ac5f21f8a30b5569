use Rattle.std.proofs.lemmas.Result.{err_from_is_err_and}
use Rattle.blif_read.proofs.Steps.{declared_err, declared_ok}
use Rattle.blif_read.proofs.declare.add_names.Goals as goal

pub returns-in_err-add_name : goal.returns-in_err-add_name
returns-in_err-add_name c =
    let p = err_from_is_err_and c.from_residual.result c.from_residual.ensures.1 in
    rw (p.1, p.2) (declared_err c.args.kind.limits c.args.kind.too_many c.args.others.now c.args.gates.now c.args.names.now c.loop-word.names c.args.words.now c.loop-word.word-index _ _ c.loop-word-test.true c.loop-word.invariant.fault c.in_err-add_name.ensures)

pub loop-word-preserved : goal.loop-word-preserved
loop-word-preserved c =
    let next = declared_ok c.args.kind.limits c.args.kind.too_many c.args.others.now c.args.gates.now c.args.names.now c.loop-word.names c.add_name.new.names c.args.words.now c.loop-word.word-index _ c.loop-word-test.true c.loop-word.invariant.names c.loop-word.invariant.fault c.in_ok-add_name.ensures in
    record { names = next.0; fault = next.1 }

use Rattle.std.proofs.lemmas.Result.{IfOk-weaker}
use Rattle.fn_store.specs.Replay.{function_at}
use Rattle.fn_store.proofs.operations.apply.Goals as goal

pub returns-in-Xor-clause-shows : goal.returns-in-Xor-clause-shows
returns-in-Xor-clause-shows g c =
    let fs = function_at (g.S.FnStore.functions c.args.store.now) c.args.refs.now in
    rw c.in-Xor.is (IfOk-weaker c.xor.result _ _ (λ r shows. shows (fs c.in-Xor.a) (fs c.in-Xor.b) c.operand-left.ensures c.operand-right.ensures) c.xor.ensures.shows)

pub returns-in-And-clause-shows : goal.returns-in-And-clause-shows
returns-in-And-clause-shows g c =
    let fs = function_at (g.S.FnStore.functions c.args.store.now) c.args.refs.now in
    rw c.in-And.is (IfOk-weaker c.and.result _ _ (λ r shows. shows (fs c.in-And.a) (fs c.in-And.b) c.operand-left-in-And.ensures c.operand-right-in-And.ensures) c.and.ensures.shows)

pub returns-in-Not-clause-shows : goal.returns-in-Not-clause-shows
returns-in-Not-clause-shows g c =
    let fs = function_at (g.S.FnStore.functions c.args.store.now) c.args.refs.now in
    rw c.in-Not.is (IfOk-weaker c.not.result _ _ (λ r shows. shows (fs c.in-Not.a) c.operand-negated.ensures) c.not.ensures.shows)

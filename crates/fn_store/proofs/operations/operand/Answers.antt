use Rattle.fn_store.proofs.Replayed.{operand-later}
use Rattle.fn_store.proofs.operations.operand.Goals as goal

pub returns : goal.returns
returns g c = operand-later (g.S.FnStore.functions c.args.store.now) c.args.refs.now c.args.place c.if-place-eq0.false c.if-place-eq1.false c.requires.earlier c.requires.shown

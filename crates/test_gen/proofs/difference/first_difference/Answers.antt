use Rattle.std.proofs.Common.{rules}
use Rattle.test_gen.proofs.Pairs.{Agreed-step, all_agree, first_apart}
use Rattle.test_gen.proofs.difference.first_difference.Goals as goal

pub returns-then-not-same-clause-first : goal.returns-then-not-same-clause-first
returns-then-not-same-clause-first g c =
    first_apart (g.S.FnStore.functions c.args.store.now) (g.S.FnStore.functions c.loop-o.store) (g.S.FnStore.functions c.xor.new.self) c.args.good.now c.args.bad.now c.loop-o.o c.same.result c.in_ok-apart.apart c.point.result
    c.loop-o.invariant c.loop-o-test.true (search rules) c.same.ensures c.if-not-same.true c.in_ok-apart.ensures.keeps c.in_ok-apart.ensures.shows c.point.ensures

pub loop-o-preserved : goal.loop-o-preserved
loop-o-preserved g c =
    Agreed-step (g.S.FnStore.functions c.args.store.now) (g.S.FnStore.functions c.loop-o.store) c.args.good.now c.args.bad.now c.loop-o.o c.same.result c.loop-o.invariant c.loop-o-test.true (search rules) c.same.ensures c.if-not-same.false

pub returns-clause-first : goal.returns-clause-first
returns-clause-first g c = all_agree (g.S.FnStore.functions c.args.store.now) (g.S.FnStore.functions c.loop-o.store) c.args.good.now c.args.bad.now c.loop-o.o c.loop-o-test.false c.loop-o.invariant

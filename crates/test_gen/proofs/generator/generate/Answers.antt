use Rattle.std.proofs.lemmas.Result.{IfOk-weaker}
use Rattle.test_gen.proofs.Detected.{tests-at_start}
use Rattle.test_gen.proofs.generator.generate.Goals as goal

pub returns-clause-tests : goal.returns-clause-tests
returns-clause-tests g c =
    IfOk-weaker c.tests_for.result _ _
    (λ tests h. tests-at_start (g.S.FnStore.functions c.args.store.now) (g.S.FnStore.functions c.signal_values.new.store) c.args.net.now c.in_ok-all.all.items tests.points c.in_ok-good.ensures.keeps c.in_ok-all.ensures h)
    c.tests_for.ensures.points

pub returns-clause-points : goal.returns-clause-points
returns-clause-points g c =
    IfOk-weaker c.tests_for.result _ _
    (λ tests h. rw h (c.tests_law.ensures.points c.args.net.now (g.S.FnStore.functions c.args.store.now).polarity c.valid_law.ensures c.requires)) (returns-clause-tests g c)

pub returns-clause-complete : goal.returns-clause-complete
returns-clause-complete g c =
    IfOk-weaker c.tests_for.result _ _
    (λ tests h. rw h (c.tests_law.ensures.complete c.args.net.now (g.S.FnStore.functions c.args.store.now).polarity c.valid_law.ensures c.requires)) (returns-clause-tests g c)

pub returns-clause-each_new : goal.returns-clause-each_new
returns-clause-each_new g c =
    IfOk-weaker c.tests_for.result _ _
    (λ tests h. rw h (c.tests_law.ensures.each_new c.args.net.now (g.S.FnStore.functions c.args.store.now).polarity c.valid_law.ensures c.requires)) (returns-clause-tests g c)

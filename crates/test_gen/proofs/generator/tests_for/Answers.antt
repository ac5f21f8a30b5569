use Rattle.std.proofs.Common.{not, rules}
use Rattle.std.specs.Prelude.{None}
use Rattle.ae_net.specs.Network.{signals}
use Rattle.test_gen.specs.Tests.{detects}
use Rattle.test_gen.proofs.Detected.{Searching-next_some, shorter}
use Rattle.test_gen.proofs.generator.tests_for.Goals as goal

pub add_test-requires : goal.add_test-requires
add_test-requires g c =
    c.kept_law.ensures.signals (g.S.FnStore.functions c.args.store.now) (g.S.FnStore.functions c.loop-next.store) c.args.net.now None (signals c.args.net.now) c.args.good.now c.loop-next.invariant.keeps c.requires

pub loop-next-smaller-in-Some : goal.loop-next-smaller-in-Some
loop-next-smaller-in-Some g c =
    shorter (λ h. not (detects c.args.net.now h c.in-Some.point)) c.loop-next.left.items c.as_slice.result.now c.in_ok-left-in-Some.left.items c.loop-next.next c.as_slice.ensures.value c.in_ok-left-in-Some.ensures (search rules)

pub loop-next-preserved-in-Some : goal.loop-next-preserved-in-Some
loop-next-preserved-in-Some g c =
    Searching-next_some (g.S.FnStore.functions c.args.store.now) (g.S.FnStore.functions c.loop-next.store) (g.S.FnStore.functions c.add_test.new.store) c.args.net.now c.args.all.items
    c.loop-next.left.items c.as_slice.result.now c.in_ok-left-in-Some.left.items c.loop-next.next c.index.result.now c.in_ok-point.field-0 c.in-Some.point c.loop-next.tests.points c.add_test.new.tests.points c.loop-next.tests.unchanged c.add_test.new.tests.unchanged
    c.loop-next.invariant (search rules) c.index.ensures c.in_ok-point.ensures.keeps c.in_ok-point.ensures.test c.in-Some.is c.in_ok-point.ensures.points c.in_ok-point.ensures.unchanged c.as_slice.ensures.value c.in_ok-left-in-Some.ensures

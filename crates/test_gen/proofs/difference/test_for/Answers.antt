use Rattle.std.proofs.Common.{length, ap, ◌∙◌}
use Rattle.std.proofs.lemmas.Result.{IfOk-weaker}
use Rattle.std.specs.Prelude.{Some, None}
use Rattle.ae_base.specs.Mask.{has}
use Rattle.ae_net.specs.Out.{out}
use Rattle.test_gen.specs.Tests.{test_for, changes}
use Rattle.test_gen.proofs.Pairs.{found-at_start}
use Rattle.test_gen.proofs.difference.test_for.Goals as goal

pub returns-clause-test : goal.returns-clause-test
unfolding test_for
returns-clause-test g c =
    let n = c.args.net.now in
    IfOk-weaker c.first_difference.result _ _
    (λ found first.
    found-at_start (g.S.FnStore.functions c.args.store.now) (g.S.FnStore.functions c.faulty_values.new.store) (length c.deref.result.now) (length n.outputs) (changes n c.args.fault) found c.in_ok-with.ensures.keeps
    (ap length c.deref.ensures.value ∙ c.in_ok-without.ensures.count)
    (first (λ o x. has (out n None x) o) (λ o x. has (out n (Some c.args.fault) x) o)
    (rw c.deref.ensures.value
    (c.kept_law.ensures.functions (g.S.FnStore.functions c.args.store.now) (g.S.FnStore.functions c.faulty_values.new.store) c.in_ok-without.without.items (λ o x. has (out n None x) o) c.in_ok-with.ensures.keeps c.in_ok-without.ensures.shows))
    (rw c.deref-2.ensures.value c.in_ok-with.ensures.shows)))
    c.first_difference.ensures.first

use Rattle.std.proofs.Common.{sym, ◌∙◌, arith}
use Rattle.ae_base.proofs.Sets.{same_set, has-xor}
use Rattle.expansion.specs.Terms.{used_inputs}
use Rattle.input_tests.specs.Inputs.{first_term}
use Rattle.input_tests.proofs.CodeLemmas.{two_added}
use Rattle.input_tests.proofs.vectors.push_pair.Goals as goal

pub returns-in_ok-push_new-2 : goal.returns-in_ok-push_new-2
returns-in_ok-push_new-2 c =
    two_added c.args.e.now.polarity (used_inputs c.args.e.now) c.args.j (first_term c.args.e.now c.args.j) c.in-Some.term c.args.low c.xor-high.result c.xor.result c.args.list.now.items c.push_new.new.list.items c.push_new-in-Some.new.list.items
    (sym c.first_term.ensures ∙ c.in-Some.is) c.requires.low c.xor-high.ensures
    (same_set _ _ (λ k. simp (c.xor.ensures, c.with.ensures, c.empty.ensures, has-xor) (grind arith)))
    c.in_ok-push_new.ensures.ok c.in_ok-push_new-2.ensures.ok

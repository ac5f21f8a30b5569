use Rattle.std.proofs.Common.{◌≡◌, ◌++◌, ◌+◌, ◌∙◌, ap, ap₂}
use Rattle.ae_base.specs.Terms.{IsPoint}
use Rattle.input_tests.specs.Whole.{cascade_tests, new_ones}
use Rattle.input_tests.proofs.CodeLemmas.{joined_points, joined_distinct}
use Rattle.input_tests.proofs.complete.cascade_vectors.Goals as goal
use Rattle.input_tests.proofs.complete.cascade_vectors.Goals.{After-drop-others-2}

-- the list is the universal vectors with the others
joined : (c : goal.After-drop-others-2) → c.push_others.new.list.items ≡ c.in_ok-list.list.items ++ new_ones c.in_ok-list.list.items c.in_ok-others.others.items
joined c = c.in_ok-push_others.ensures ∙ ap (λ ys. c.in_ok-list.list.items ++ new_ones c.in_ok-list.list.items ys) c.deref.ensures.value

whole : (c : goal.After-drop-others-2) → c.push_others.new.list.items ≡ cascade_tests c.args.e.now
unfolding cascade_tests
whole c = joined c ∙ ap₂ (λ us ys. us ++ new_ones us ys) c.in_ok-list.ensures.vectors c.in_ok-others.ensures.vectors

pub returns-clause-vectors : goal.returns-clause-vectors
returns-clause-vectors c = whole c

pub returns-clause-distinct : goal.returns-clause-distinct
returns-clause-distinct c = joined_distinct _ _ _ c.in_ok-list.ensures.distinct c.in_ok-others.ensures.distinct (joined c)

pub returns-clause-points : goal.returns-clause-points
returns-clause-points c = joined_points (IsPoint (c.args.e.now.polarity.n + 1)) _ _ _ c.in_ok-list.ensures.points c.in_ok-others.ensures.points (joined c)

pub returns-clause-complete : goal.returns-clause-complete
returns-clause-complete c = rw (whole c) (λ names can. c.input_law.ensures.complete names c.args.e.now can)

pub returns-clause-few : goal.returns-clause-few
returns-clause-few c = rw (whole c) (c.input_law.ensures.few c.args.e.now)

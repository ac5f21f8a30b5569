use Rattle.std.proofs.Common.{[], ◌∷◌, ◌++◌, sym, ap, ◌∙◌, append-nil, append_assoc}
use Rattle.cascade.proofs.VectorLemmas.{all_low}
use Rattle.input_tests.proofs.CodeLemmas.{so_far, one_more, all_so_far}
use Rattle.input_tests.proofs.vectors.vectors_of.Goals as goal

pub push_pair-requires-clause-low : goal.push_pair-requires-clause-low
push_pair-requires-clause-low c = rw (c.xor-low.ensures, c.used_inputs.ensures, c.literals_high.ensures) (all_low c.args.e.now)

pub loop-j-preserved : goal.loop-j-preserved
loop-j-preserved c = (
  one_more c.args.e.now c.loop-j.yielded c.in-Some.j c.loop-j.list.items c.push_pair.new.list.items c.in_ok-push_pair.ensures c.loop-j.invariant.0,
  append_assoc c.loop-j.yielded (c.in-Some.j ∷ []) c.next.new.self ∙ ap (λ js. c.loop-j.yielded ++ js) (sym c.in-Some.ensures.steps) ∙ c.loop-j.invariant.1,
)

pub returns-clause-vectors : goal.returns-clause-vectors
returns-clause-vectors c =
    let all = sym (append-nil c.loop-j.yielded) ∙ ap (λ js. c.loop-j.yielded ++ js) (sym c.in-None.ensures.steps.0) ∙ c.loop-j.invariant.1 in
    c.loop-j.invariant.0 ∙ ap (so_far c.args.e.now) all ∙ all_so_far c.args.e.now

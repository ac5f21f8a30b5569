use Rattle.std.proofs.Common.{[], ◌∷◌, ◌++◌, sym, ap, ap₂, append-nil, append_assoc, ◌∙◌}
use Rattle.ae_base.specs.Mask.{with, xor}
use Rattle.ae_base.proofs.Once.{added}
use Rattle.expansion.specs.Terms.{used_inputs}
use Rattle.universal_tests.proofs.AtVectors.{so_far, more_so_far, all_so_far}
use Rattle.universal_tests.proofs.vectors.vectors_of.Goals as goal

pub loop-j-preserved : goal.loop-j-preserved
loop-j-preserved c =
    let vector = c.xor.ensures ∙ ap₂ xor c.literals_high-high.ensures (c.with.ensures ∙ ap (λ s. with s c.in-Some.j) c.empty.ensures) in record {
      list = more_so_far c.args.e.now.polarity (used_inputs c.args.e.now) c.loop-j.yielded c.in-Some.j c.loop-j.list.items c.push_new.new.list.items (c.in_ok-push_new.ensures.ok ∙ ap (λ v. added v c.loop-j.list.items) vector) c.loop-j.invariant.list;
      left = append_assoc c.loop-j.yielded (c.in-Some.j ∷ []) c.next.new.self ∙ ap (λ js. c.loop-j.yielded ++ js) (sym c.in-Some.ensures.steps) ∙ c.loop-j.invariant.left;
    }

pub returns : goal.returns
returns c =
    let all = sym (append-nil c.loop-j.yielded) ∙ ap (λ js. c.loop-j.yielded ++ js) (sym c.in-None.ensures.steps.0) ∙ c.loop-j.invariant.left in
    c.loop-j.invariant.list ∙ ap (so_far c.args.e.now.polarity (used_inputs c.args.e.now)) all ∙ all_so_far c.args.e.now.polarity (used_inputs c.args.e.now)

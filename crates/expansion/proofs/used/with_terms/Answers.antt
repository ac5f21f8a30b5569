use Rattle.std.proofs.Common.{◌∙◌, ◌||◌, ap, ap₂, sym, take_all}
use Rattle.std.proofs.Math.Bool.{or_assoc}
use Rattle.std.proofs.lemmas.List.Folds.{list_any_more}
use Rattle.std.specs.List.{list_any}
use Rattle.ae_base.specs.Mask.{has}
use Rattle.ae_base.proofs.Sets.{has-either}
use Rattle.ae_base.proofs.Truth.{or-false}
use Rattle.expansion.proofs.used.with_terms.Goals as goal

pub loop-term-init : goal.loop-term-init
loop-term-init c = λ j. sym (or-false (has c.args.held j))

pub loop-term-preserved : goal.loop-term-preserved
loop-term-preserved c j =
    let i = c.loop-term.term-index in
    let ts = c.args.terms.now in
    ap (λ s. has s j) c.or-all.ensures ∙ has-either c.loop-term.all c.term-item.result j ∙ ap₂ (λ a t. a || has t j) (c.loop-term.invariant j) c.term-item.is
    ∙ or_assoc (has c.args.held j) _ _ ∙ ap (λ b. has c.args.held j || b) (sym (list_any_more (λ t. has t j) ts i c.term-item.result c.loop-term-test.true))

pub returns : goal.returns
returns c = λ j. c.loop-term.invariant j ∙ ap (λ ts. has c.args.held j || list_any (λ t. has t j) ts) (take_all c.loop-term.term-index c.args.terms.now c.loop-term-test.false)

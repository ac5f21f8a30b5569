use Rattle.std.proofs.Common.{rules, ◌≡◌, ◌<◌, ◌+◌, ◌%◌, ◌&&◌, List, length, eqb, inl, inr, arith, ap, ap₂, ◌∙◌}
use Rattle.std.proofs.lemmas.Result.{IfOk-weaker}
use Rattle.ae_base.specs.Cube.{Signs}
use Rattle.ae_base.specs.Mask.{Set, differ}
use Rattle.ae_base.specs.Terms.{literal, value}
use Rattle.net_fn.proofs.Kept.{Shows-kept, Shows-same}
use Rattle.net_fn.proofs.TermLists.{value-split, value-end, lacking-between, holding-between}
use Rattle.net_fn.specs.Splits.{lacking, holding, AreBetween}
use Rattle.net_fn.proofs.expansions.+terms_from.Goals as goal
use Rattle.net_fn.proofs.expansions.+terms_from.Goals.{then-is_empty-via-then-is_empty, then-is_empty-via-else-is_empty+then-j-polarity}

pub returns-then-is_empty-clause-shows : goal.returns-then-is_empty-clause-shows
returns-then-is_empty-clause-shows g t c =
    let terms : List Set = c.args.terms.now in
    Shows-same _ c.constant.result (λ x. eqb (length terms % 2) 1) (value c.args.polarity terms)
    (λ x. value-end c.args.polarity c.args.j c.args.polarity.n x terms c.requires.terms
    (elim c.then-is_empty.branch [
      | then-is_empty-via-then-is_empty w ↦ inl (search rules)
      | then-is_empty-via-else-is_empty+then-j-polarity w ↦ inr (w.if-j-polarity.true ∙ ap (λ (p : Signs). p.n) c.polarity.view_is)
    ]))
    c.constant.ensures

pub terms_from-requires : goal.terms_from-requires
terms_from-requires g t c κs within =
    let n = c.args.polarity.n in
    let inside : c.polarity.inside.n ≡ n = ap (λ (p : Signs). p.n) c.polarity.view_is in
    let e : c.deref.result.now ≡ lacking c.args.j c.args.terms.now = c.deref.ensures.value ∙ c.in_ok-without.ensures in
    let are : AreBetween (c.args.j + 1) n c.deref.result.now = rw e (lacking-between c.args.j n c.args.terms.now c.requires.terms) in
    let below : c.args.j < n = omega arith in
    search rules

pub terms_from-requires-2 : goal.terms_from-requires-2
terms_from-requires-2 g t c κs within =
    let n = c.args.polarity.n in
    let inside : c.polarity.inside.n ≡ n = ap (λ (p : Signs). p.n) c.polarity.view_is in
    let same : (g.S.FnStore.functions c.terms_from.new.store).polarity.n ≡ n = ap (λ (p : Signs). p.n) c.terms_from.ensures.keeps.polarity ∙ c.requires.inputs in
    let e : c.deref-2.result.now ≡ holding c.args.j c.args.terms.now = c.deref-2.ensures.value ∙ c.in_ok-with.ensures in
    let are : AreBetween (c.args.j + 1) n c.deref-2.result.now = rw e (holding-between c.args.j n c.args.terms.now c.requires.terms) in
    let below : c.args.j < n = omega arith in
    search rules

pub returns-clause-shows : goal.returns-clause-shows
returns-clause-shows g t c =
    let p = c.args.polarity in
    let terms : List Set = c.args.terms.now in
    let low : List Set = c.deref.result.now in
    let high : List Set = c.deref-2.result.now in
    let low_is : low ≡ lacking c.args.j terms = c.deref.ensures.value ∙ c.in_ok-without.ensures in
    let high_is : high ≡ holding c.args.j terms = c.deref-2.ensures.value ∙ c.in_ok-with.ensures in
    IfOk-weaker c.add_times.result _ _
    (λ r step.
    Shows-same _ r (λ x. differ (value p low x) (literal p c.args.j x && value p high x)) (value p terms)
    (λ x. ap₂ (λ (l h : List Set). differ (value p l x) (literal p c.args.j x && value p h x)) low_is high_is ∙ value-split p c.args.j x terms)
    (step (value p low) (value p high) (Shows-kept _ _ c.terms_from-2.ensures.keeps c.in_ok-low.low (value p low) c.in_ok-low.ensures.shows) c.in_ok-high.ensures.shows))
    c.add_times.ensures.shows

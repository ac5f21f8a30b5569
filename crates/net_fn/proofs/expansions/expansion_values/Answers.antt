use Rattle.std.proofs.Common.{◌≡◌, ◌<◌, List, [], true, length, get_or, arith, ap, subst, ◌∙◌}
use Rattle.std.specs.Prelude.{All}
use Rattle.std.proofs.lemmas.List.Elements.{All-get_or}
use Rattle.ae_base.specs.Cube.{Signs}
use Rattle.ae_base.specs.Mask.{Set, first, inside}
use Rattle.ae_base.specs.Terms.{value}
use Rattle.fn_store.specs.Functions.{Shows}
use Rattle.net_fn.proofs.References.{Shown-push}
use Rattle.net_fn.proofs.TermLists.{all_between, list_read, source-shown}
use Rattle.net_fn.proofs.expansions.expansion_values.Goals as goal

pub terms_from-requires-clause-terms : goal.terms_from-requires-clause-terms
terms_from-requires-clause-terms g c =
    let e = c.args.e.now in
    let k = c.loop-terms.terms-index in
    let lists : c.lists-terms-items.result.now ≡ e.outs = c.lists-terms-items.ensures.lists in
    let within : k < length e.outs = omega (arith, c.loop-terms-test.true, ap length lists) in
    let list_is : c.as_slice.result.now ≡ get_or e.outs k [] = list_read e.outs c.lists-terms-items.result.now k c.terms-item.result _ lists c.terms-item.is c.loop-terms-test.true c.as_slice.ensures in
    rw (list_is, c.polarity-polarity.ensures.polarity)
    (all_between e.polarity.n (get_or e.outs k []) (All-get_or (λ ts. All (λ t. inside t (first e.polarity.n) ≡ true) ts) e.outs k [] within c.polarity-polarity.ensures.valid.below))

pub loop-terms-preserved : goal.loop-terms-preserved
loop-terms-preserved g c =
    let e = c.args.e.now in
    let k = c.loop-terms.terms-index in
    let list_is : c.as_slice.result.now ≡ get_or e.outs k [] = list_read e.outs c.lists-terms-items.result.now k c.terms-item.result _ c.lists-terms-items.ensures.lists c.terms-item.is c.loop-terms-test.true c.as_slice.ensures in
    let next = g.S.FnStore.functions c.terms_from.new.store in
    let r = c.in_ok-terms_from.field-0 in
    let own : Shows next r (value e.polarity c.as_slice.result.now) = subst (λ (p : Signs). Shows next r (value p c.as_slice.result.now)) c.polarity-polarity.ensures.polarity c.in_ok-terms_from.ensures.shows in
    rw c.in_ok-push.ensures.items
    (Shown-push (g.S.FnStore.functions c.args.store.now) (g.S.FnStore.functions c.loop-terms.store) next c.loop-terms.refs.items r (λ o. value e.polarity (get_or e.outs o [])) k
    c.loop-terms.invariant c.terms_from.ensures.keeps (subst (λ (ts : List Set). Shows next r (value e.polarity ts)) list_is own))

pub returns-clause-source : goal.returns-clause-source
returns-clause-source g c =
    let e = c.args.e.now in
    let laws = c.store_laws.ensures in
    let shown = c.loop-terms.invariant in
    let all : length c.loop-terms.refs.items ≡ length e.outs = omega (arith, shown.count, c.loop-terms-test.false, c.loop-terms.auto.terms-index-end, ap length c.lists-terms-items.ensures.lists) in
    source-shown (g.S.FnStore.functions c.loop-terms.store) c.loop-terms.refs.items e (λ r f h. laws.agree (g.S.FnStore.functions c.loop-terms.store) r f h) c.expansion_law.ensures.meaning
    (ap (λ (p : Signs). p.n) shown.keeps.polarity ∙ c.requires) all shown.shows

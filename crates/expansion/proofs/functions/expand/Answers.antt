use Rattle.std.proofs.Common.{Err, ◌≡◌, ◌∙◌, ap, arith, rules, sym}
use Rattle.ae_base.specs.Cube.{IsSigns}
use Rattle.expansion.specs.Terms.{cost}
use Rattle.expansion.proofs.Listed.{all_listed, are_terms, listed_count, passes_at}
use Rattle.expansion.proofs.functions.expand.Goals as goal

pub returns-in-Err-More-clause-too_many : goal.returns-in-Err-More-clause-too_many
returns-in-Err-More-clause-too_many g c output e =
    let s = g.S.FnStore.functions c.args.store.now in
    let passes = passes_at s c.args.refs.now c.args.limit c.loop-r.r-index c.loop-r.outs c.loop-r.left c.loop-r.invariant c.loop-r-test.true _ (c.in-Err-More.ensures.more.0 (ap Err c.in-Err-More.field-0-is)) in
    let count = listed_count s c.args.refs.now c.args.limit c.loop-r.r-index c.loop-r.outs c.loop-r.left c.loop-r.invariant c.loop-r-test.true in
    let here : output ≡ c.loop-r.r-index = sym (cc e) ∙ c.len.ensures ∙ count in
    rw here passes

pub invariant_of-result : goal.invariant_of-result
invariant_of-result g c =
    let s = g.S.FnStore.functions c.args.store.now in
    let all = all_listed s c.args.refs.now c.args.limit c.loop-r.r-index c.loop-r.outs c.loop-r.left c.polarity-polarity.result c.loop-r.invariant (search rules) c.polarity-polarity.ensures.polarity in
    let signs : IsSigns s.polarity = rw (sym c.polarity-polarity.ensures.polarity, sym c.polarity.view_is) c.polarity.invariant in
    rw all (are_terms s c.args.refs.now c.polarity-polarity.ensures.all c.expansion_law.ensures.inside c.requires.live signs c.requires.few (omega (arith, ap cost all, c.loop-r.invariant.sum, c.requires.limit)))

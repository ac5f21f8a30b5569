use Rattle.std.proofs.Common.{◌≡◌, ◌∙◌, ◌≤◌, ◌+◌, List, length, arith, ap}
use Rattle.std.specs.Prelude.{filter}
use Rattle.std.proofs.lemmas.List.{length-map}
use Rattle.std.proofs.lemmas.List.Sums.{length-filter, count_by-le-length}
use Rattle.std.proofs.lemmas.Result.{IfOk-weaker}
use Rattle.ae_base.specs.Mask.{Set, has, without}
use Rattle.expansion.proofs.Flips.{flipped-is}
use Rattle.expansion.proofs.TakenOut.{taken}
use Rattle.expansion.proofs.flipped.flip_terms.Goals as goal

pub returns-clause-expansion : goal.returns-clause-expansion
returns-clause-expansion c =
    let laws = c.expansion_law.ensures in
    let e : c.deref.result.now ≡ taken c.args.j c.args.terms.now = c.deref.ensures.value ∙ c.in_ok-taken.ensures in
    IfOk-weaker c.sum.result _ _
    (λ ts added p f is. flipped-is (record { below = laws.inside; meaning = laws.meaning; only = laws.only }) p c.args.j f c.args.terms.now ts.items (λ q g h a b. added q g h a (rw e b)) is)
    c.sum.ensures.expansion

pub returns-clause-count : goal.returns-clause-count
returns-clause-count c =
    let terms : List Set = c.args.terms.now in
    let held : List Set = filter (λ t. has t c.args.j) terms in
    let e : c.deref.result.now ≡ taken c.args.j terms = c.deref.ensures.value ∙ c.in_ok-taken.ensures in
    IfOk-weaker c.sum.result (λ ts. length ts.items ≤ length terms + length c.deref.result.now) (λ ts. length ts.items ≤ length terms + length terms)
    (λ ts few. omega (arith, few, ap length e, length-map held (λ t. without t c.args.j), length-filter (λ t. has t c.args.j) terms, count_by-le-length (λ t. has t c.args.j) terms)) c.sum.ensures.count

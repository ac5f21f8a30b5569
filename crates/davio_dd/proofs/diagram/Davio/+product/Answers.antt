use Rattle.std.proofs.Common.{ℕ, ◌&&◌, inl, inr, sym, ap, ◌∙◌, arith}
use Rattle.std.proofs.Math.Bool.{and-true, and_self}
use Rattle.std.proofs.lemmas.Bool.{and_left, and_right}
use Rattle.std.proofs.lemmas.Result.{IfOk-weaker}
use Rattle.davio_dd.specs.Diagram.{place_value, product, top}
use Rattle.davio_dd.proofs.Growing.{later-moved}
use Rattle.davio_dd.proofs.Splits.{later-parts, parts-moved, answer-left, answer-right, answer-zero, answer-later, answer-step, at-zero, at-one, high-right_none, high-left_none, high-both, both-later, deeper-high, deeper-low, deeper}
use Rattle.davio_dd.proofs.diagram.Davio.+product.Goals as goal

-- ---- the product

pub product-returns-then-a-b-clause-answer : goal.product-returns-then-a-b-clause-answer
product-returns-then-a-b-clause-answer t c =
    let v = place_value c.args.self.now.polarity c.args.self.now.nodes.keys in
    answer-left product _ _ _ _ c.requires.a c.requires.b (λ x. elim c.then-a-b.either [
      | inl e ↦ ap (λ (d : ℕ). v c.args.a x && v d x) (sym e) ∙ and_self (v c.args.a x)
      | inr h ↦ ap (λ b. v c.args.a x && b) (at-one _ _ _ h.1 x) ∙ and-true (v c.args.a x)
    ])

pub product-returns-then-a-eq1-clause-answer : goal.product-returns-then-a-eq1-clause-answer
product-returns-then-a-eq1-clause-answer t c =
    answer-right product _ _ _ _ c.requires.a c.requires.b (λ x. ap (λ b. b && place_value c.args.self.now.polarity c.args.self.now.nodes.keys c.args.b x) (at-one _ _ _ c.if-a-eq1.true x))

pub product-returns-then-a-eq0-clause-answer : goal.product-returns-then-a-eq0-clause-answer
product-returns-then-a-eq0-clause-answer t c =
    answer-zero product _ _ _ _ c.args.self.now.is_diagram c.requires.a c.requires.b
    (λ x. elim c.then-a-eq0.either [ inl e ↦ and_left _ _ (at-zero _ _ _ e x) | inr h ↦ and_right _ _ (at-zero _ _ _ h.1 x) ])

pub product-product-requires : goal.product-product-requires
product-product-requires t c =
    let s = c.args.self.now in
    let n = s.polarity.n in
    let k = c.split-split.ensures in
    let less = deeper-low n (top n s.nodes.keys c.args.a) (top n s.nodes.keys c.args.b) c.split-split.result.input (top n s.nodes.keys c.split-split.result.a_low) (top n s.nodes.keys c.split-split.result.b_low) k.below k.least k.left.over_low k.right.over_low in
    (omega (arith, c.decreases, less), (omega (arith, c.requires.a, k.left.low_le), omega (arith, c.requires.b, k.right.low_le)))

pub product-product_high-requires : goal.product-product_high-requires
product-product_high-requires t c =
    let s = c.args.self.now in
    let n = s.polarity.n in
    let k = c.split-split.ensures in
    let low = c.in_ok-low.ensures in
    let parts = later-parts _ _ c.args.a c.args.b _ _ _ _ _ k c.requires.a c.requires.b in
    let less = deeper-high n (top n s.nodes.keys c.args.a) (top n s.nodes.keys c.args.b) c.split-split.result.input k.below k.least in
    (rw low.polarity (omega (arith, c.decreases, less)), (parts-moved _ _ _ _ (low.polarity, low.grows) _ _ _ _ _ parts, low.answer))

pub product-node-requires-clause-before_low : goal.product-node-requires-clause-before_low
product-node-requires-clause-before_low t c =
    let low = c.in_ok-low.ensures in
    let high = c.in_ok-high.ensures in
    let parts = later-parts _ _ c.args.a c.args.b _ _ _ _ _ c.split-split.ensures c.requires.a c.requires.b in
    let now = parts-moved _ _ _ _ (low.polarity, low.grows) _ _ _ _ _ parts in
    (later-moved _ _ _ _ (high.polarity, high.grows) _ _ (answer-later product _ _ _ _ _ _ now.left_low now.right_low low.answer)).over

pub product-remember_product-requires : goal.product-remember_product-requires
product-remember_product-requires t c =
    let low = c.in_ok-low.ensures in
    let high = c.in_ok-high.ensures in
    let node = c.in_ok-answer.ensures in
    answer-step product _ _ _ _ _ _ _ _ c.args.a c.args.b _ _ _ _ _ _ _ c.in_ok-answer.answer (low.polarity, low.grows) (high.polarity, high.grows) (node.polarity, node.grows)
    c.split-split.ensures c.requires.a c.requires.b low.answer high.high node.within node.over node.value

-- ---- its high part

pub product_high-product-requires : goal.product_high-product-requires
product_high-product-requires t c =
    let s = c.args.self.now in
    let n = s.polarity.n in
    let h = c.requires.parts in
    (omega (arith, c.decreases, deeper n c.args.split.input (top n s.nodes.keys c.args.split.a_high) (top n s.nodes.keys c.args.split.b_low) h.below h.left_high.over h.right_low.over), (h.left_high.place, h.right_low.place))

pub product_high-returns-then-split-eq0-clause-high : goal.product_high-returns-then-split-eq0-clause-high
product_high-returns-then-split-eq0-clause-high t c =
    let k = c.args.split in
    let e = c.product.ensures in
    IfOk-weaker c.product.result _ _ (λ r is. high-right_none _ _ _ _ k.input k.a_low k.a_high k.b_low k.b_high r (e.polarity, e.grows) c.requires.parts c.if-split-eq0.true is) e.answer

pub product_high-product-requires-then-split-eq0-2 : goal.product_high-product-requires-then-split-eq0-2
product_high-product-requires-then-split-eq0-2 t c =
    let s = c.args.self.now in
    let n = s.polarity.n in
    let h = c.requires.parts in
    (omega (arith, c.decreases, deeper n c.args.split.input (top n s.nodes.keys c.args.split.a_low) (top n s.nodes.keys c.args.split.b_high) h.below h.left_low.over h.right_high.over), (h.left_low.place, h.right_high.place))

pub product_high-returns-then-split-eq0-2-clause-high : goal.product_high-returns-then-split-eq0-2-clause-high
product_high-returns-then-split-eq0-2-clause-high t c =
    let k = c.args.split in
    let e = c.product-then-split-eq0-2.ensures in
    IfOk-weaker c.product-then-split-eq0-2.result _ _ (λ r is. high-left_none _ _ _ _ k.input k.a_low k.a_high k.b_low k.b_high r (e.polarity, e.grows) c.requires.parts c.if-split-eq0-2.true is) e.answer

pub product_high-product-requires-2 : goal.product_high-product-requires-2
product_high-product-requires-2 t c =
    let e = c.sum.ensures in
    let f = c.sum-2.ensures in
    let later = both-later _ _ _ _ _ _ _ _ _ _ _ _ _ (e.polarity, e.grows) (f.polarity, f.grows) c.requires.parts c.in_ok-a_one.ensures.answer c.in_ok-b_one.ensures.answer in
    (omega (arith, c.decreases, later.0), later.1)

pub product_high-returns-clause-high : goal.product_high-returns-clause-high
product_high-returns-clause-high t c =
    let e = c.sum.ensures in
    let f = c.sum-2.ensures in
    let g = c.product-2.ensures in
    let h = c.sum-3.ensures in
    IfOk-weaker c.sum-3.result _ _
    (λ r is. high-both _ _ _ _ _ _ _ _ _ _ _ _ _ _ _ _ _ _ _ r (e.polarity, e.grows) (f.polarity, f.grows) (g.polarity, g.grows) (h.polarity, h.grows)
    c.requires.parts c.requires.low c.in_ok-a_one.ensures.answer c.in_ok-b_one.ensures.answer c.in_ok-one.ensures.answer is)
    h.answer

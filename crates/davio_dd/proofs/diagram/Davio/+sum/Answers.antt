use Rattle.std.proofs.Common.{ℕ, ap, ◌∙◌}
use Rattle.ae_base.specs.Mask.{differ}
use Rattle.ae_base.proofs.Truth.{differ-same, differ-false}
use Rattle.davio_dd.specs.Diagram.{place_value}
use Rattle.davio_dd.proofs.Growing.{Moved-trans, later-moved}
use Rattle.davio_dd.proofs.Splits.{later-parts, parts-moved, answer-later, answer-left, answer-right, answer-zero, at-zero, sum-step}
use Rattle.davio_dd.proofs.diagram.Davio.+sum.Goals as goal

pub returns-then-a-b-clause-answer : goal.returns-then-a-b-clause-answer
returns-then-a-b-clause-answer t c =
    let s = c.args.self.now in
    let v = place_value s.polarity s.nodes.keys in
    answer-zero differ _ _ _ _ s.is_diagram c.requires.a c.requires.b (λ x. ap (λ (d : ℕ). differ (v d x) (v c.args.b x)) c.if-a-b.true ∙ differ-same (v c.args.b x))

pub returns-then-a-eq0-clause-answer : goal.returns-then-a-eq0-clause-answer
returns-then-a-eq0-clause-answer t c =
    answer-right differ _ _ _ _ c.requires.a c.requires.b (λ x. ap (λ u. differ u (place_value c.args.self.now.polarity c.args.self.now.nodes.keys c.args.b x)) (at-zero _ _ _ c.if-a-eq0.true x))

pub returns-then-b-eq0-clause-answer : goal.returns-then-b-eq0-clause-answer
returns-then-b-eq0-clause-answer t c =
    let v = place_value c.args.self.now.polarity c.args.self.now.nodes.keys c.args.a in
    answer-left differ _ _ _ _ c.requires.a c.requires.b (λ x. ap (differ (v x)) (at-zero _ _ _ c.if-b-eq0.true x) ∙ differ-false (v x))

pub node-requires-clause-before_low : goal.node-requires-clause-before_low
node-requires-clause-before_low t c =
    let low = c.in_ok-low.ensures in
    let high = c.in_ok-high.ensures in
    let parts = later-parts _ _ c.args.a c.args.b _ _ _ _ _ c.split-split.ensures c.requires.a c.requires.b in
    let now = parts-moved _ _ _ _ (low.polarity, low.grows) _ _ _ _ _ parts in
    (later-moved _ _ _ _ (high.polarity, high.grows) _ _ (answer-later differ _ _ _ _ _ _ now.left_low now.right_low low.answer)).over

pub node-requires-clause-before_high : goal.node-requires-clause-before_high
node-requires-clause-before_high t c =
    let low = c.in_ok-low.ensures in
    let high = c.in_ok-high.ensures in
    let parts = later-parts _ _ c.args.a c.args.b _ _ _ _ _ c.split-split.ensures c.requires.a c.requires.b in
    let now = parts-moved _ _ _ _ (Moved-trans _ _ _ _ _ _ (low.polarity, low.grows) (high.polarity, high.grows)) _ _ _ _ _ parts in
    (answer-later differ _ _ _ _ _ _ now.left_high now.right_high high.answer).over

pub remember_sum-requires : goal.remember_sum-requires
remember_sum-requires t c =
    let low = c.in_ok-low.ensures in
    let high = c.in_ok-high.ensures in
    let node = c.in_ok-answer.ensures in
    sum-step _ _ _ _ _ _ _ _ c.args.a c.args.b _ _ _ _ _ _ _ c.in_ok-answer.answer (low.polarity, low.grows) (high.polarity, high.grows) (node.polarity, node.grows)
    c.split-split.ensures c.requires.a c.requires.b low.answer high.answer node.within node.over node.value

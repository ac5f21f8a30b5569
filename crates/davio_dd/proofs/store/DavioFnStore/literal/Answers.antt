use Rattle.std.proofs.Common.{◌&&◌, ◌∙◌, ap₂, arith}
use Rattle.std.proofs.Math.Bool.{and-true}
use Rattle.ae_base.specs.Mask.{differ}
use Rattle.ae_base.specs.Terms.{literal}
use Rattle.davio_dd.proofs.Places.{top-constant, value-zero, value-one}
use Rattle.davio_dd.proofs.Shown.{Keeps-moved, Shows-value}
use Rattle.davio_dd.proofs.store.DavioFnStore.literal.Goals as goal

pub node-requires-clause-before_low : goal.node-requires-clause-before_low
node-requires-clause-before_low c = let s = c.args.self.now in omega (arith, c.requires, top-constant s.polarity.n s.nodes.keys 0 (omega arith))

pub node-requires-clause-before_high : goal.node-requires-clause-before_high
node-requires-clause-before_high c = let s = c.args.self.now in omega (arith, c.requires, top-constant s.polarity.n s.nodes.keys 1 (omega arith))

pub returns-in_err-at-clause-keeps : goal.returns-in_err-at-clause-keeps
returns-in_err-at-clause-keeps c = let e = c.node.ensures in Keeps-moved _ _ _ _ (e.polarity, e.grows)

pub returns-clause-shows : goal.returns-clause-shows
returns-clause-shows c =
    let s = c.args.self.now in
    let t = c.node.new.self in
    let l = literal s.polarity c.args.j in
    Shows-value t.polarity t.nodes.keys t.is_diagram (record { at = c.in_ok-at.at }) c.in_ok-at.ensures.within l
    (λ x point. c.in_ok-at.ensures.value x ∙ ap₂ (λ a b. differ a (l x && b)) (value-zero s.polarity s.nodes.keys x) (value-one s.polarity s.nodes.keys x) ∙ and-true (l x))

pub returns-clause-keeps : goal.returns-clause-keeps
returns-clause-keeps c = let e = c.node.ensures in Keeps-moved _ _ _ _ (e.polarity, e.grows)

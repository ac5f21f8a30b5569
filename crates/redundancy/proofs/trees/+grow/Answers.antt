use Rattle.std.proofs.Common.{◌<◌, length, sym, ap, ◌∙◌, arith}
use Rattle.std.proofs.lemmas.Result.{IfOk-weaker}
use Rattle.redundancy.proofs.Growths.{grows_leaf, grows_point, grows_stopped, grows_both}
use Rattle.redundancy.proofs.trees.+grow.Goals as goal

pub returns-then-leaf_holds-clause-grows : goal.returns-then-leaf_holds-clause-grows
returns-then-leaf_holds-clause-grows t c =
    IfOk-weaker c.add_leaf.result _ _ (grows_leaf c.args.net.now c.args.fault _ c.args.cube.now c.args.tree.now c.add_leaf.new.tree (sym c.leaf_holds.ensures.worked ∙ c.if-leaf_holds.true)) c.add_leaf.ensures.adds

pub returns-then-cube-inputs-clause-grows : goal.returns-then-cube-inputs-clause-grows
returns-then-cube-inputs-clause-grows t c =
    grows_point c.args.net.now c.args.fault _ c.args.cube.now c.args.tree.now c.args.tree.now (sym c.leaf_holds.ensures.worked ∙ c.if-leaf_holds.false)
    (omega (arith, c.if-cube-inputs.true, ap length c.inputs-inputs.ensures.inputs))

pub returns-in-None-clause-grows : goal.returns-in-None-clause-grows
returns-in-None-clause-grows t c =
    let deeper : c.args.cube.now.depth < length c.args.net.now.inputs = omega (arith, c.requires.depth, c.if-cube-inputs.false, ap length c.inputs-inputs.ensures.inputs) in
    IfOk-weaker c.grow-in-None.result _ _
    (grows_both c.args.net.now c.args.fault c.args.cube.now c.args.tree.now c.add_split.new.tree c.grow.new.tree (sym c.leaf_holds.ensures.worked ∙ c.if-leaf_holds.false) deeper c.in_ok-add_split.ensures.adds
    (rw (c.low.ensures, c.in-None.is) at c.in_ok-grow.ensures.grows) c.grow-in-None.new.tree)
    (rw c.high.ensures at c.grow-in-None.ensures.grows)

pub returns-in-Some-clause-grows : goal.returns-in-Some-clause-grows
returns-in-Some-clause-grows t c =
    let deeper : c.args.cube.now.depth < length c.args.net.now.inputs = omega (arith, c.requires.depth, c.if-cube-inputs.false, ap length c.inputs-inputs.ensures.inputs) in
    grows_stopped c.args.net.now c.args.fault c.args.cube.now c.args.tree.now c.add_split.new.tree c.grow.new.tree (sym c.leaf_holds.ensures.worked ∙ c.if-leaf_holds.false) deeper c.in_ok-add_split.ensures.adds c.in-Some.found c.grow.new.tree
    (rw (c.low.ensures, c.in-Some.is) at c.in_ok-grow.ensures.grows)

use Rattle.std.proofs.Common.{Bool, ◌&&◌, eqb, refl}
use Rattle.std.proofs.lemmas.Bool.{eq-eqb, and_from}
use Rattle.davio_dd.specs.declared.node.Node.{Node}
use Rattle.davio_dd.proofs.Growing.{added-key}
use Rattle.davio_dd.proofs.diagram.put.Goals as goal

same : Node → Node → Bool
same a b = eqb a.input b.input && (eqb a.low b.low && eqb a.high b.high)

pub returns-in-Ok-clause-added : goal.returns-in-Ok-clause-added
unfolding same
returns-in-Ok-clause-added c =
    let keys = c.in-Ok.ensures.keys in
    added-key same (λ n. and_from _ _ (eq-eqb n.input n.input refl) (and_from _ _ (eq-eqb n.low n.low refl) (eq-eqb n.high n.high refl))) c.args.nodes.now.keys c.args.node c.insert_full.new.self.keys keys

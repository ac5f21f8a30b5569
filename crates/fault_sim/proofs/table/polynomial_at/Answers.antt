use Rattle.std.proofs.Common.{◌≡◌, ◌<◌, ◌+◌, length, ap, sym, ◌∙◌, arith}
use Rattle.fault_sim.proofs.Cones.{there_at, polynomial-lane, polynomial-pin}
use Rattle.fault_sim.proofs.table.polynomial_at.Goals as goal

pub polynomial_word-requires-clause-x : goal.polynomial_word-requires-clause-x
polynomial_word-requires-clause-x c = omega (arith, polynomial-pin c.args.net.now c.args.i c.args.p.x c.inputs-names.ensures.valid c.requires.place c.requires.polynomial.x, c.requires.place, c.requires.words)

pub polynomial_word-requires-clause-y : goal.polynomial_word-requires-clause-y
polynomial_word-requires-clause-y c = omega (arith, polynomial-pin c.args.net.now c.args.i c.args.p.y c.inputs-names.ensures.valid c.requires.place c.requires.polynomial.y, c.requires.place, c.requires.words)

pub returns : goal.returns
returns c faults far l x v lt run lane =
    c.polynomial_word.ensures l lt
    ∙ polynomial-lane c.args.net.now (faults l) x v c.args.i c.args.p l c.args.words.now c.inputs-names.ensures.valid c.requires.place (far l lt) run c.requires.polynomial lane

use Rattle.std.proofs.Common.{subst, sym}
use Rattle.grading.specs.Table.{HaveName, numbers_of}
use Rattle.grading.proofs.Tables.{have_name}
use Rattle.grading.proofs.table.LinesByName.numbers_of.Goals as goal

pub returns : goal.returns
returns c =
    subst (HaveName c.args.self.now c.args.name.now) (sym c.of.ensures)
    (subst (λ lines. HaveName lines c.args.name.now (numbers_of c.self.inside.numbers c.args.name.now)) c.self.view_is (have_name c.self.inside.lines.now c.self.inside.numbers c.args.name.now c.self.invariant))

use Rattle.std.proofs.Common.{◌∙◌, get_or, subst}
use Rattle.std.proofs.lemmas.Option.{slice_get-get_or}
use Rattle.grading.specs.Table.{IsAdded}
use Rattle.grading.proofs.Tables.{all_listed, one_more}
use Rattle.grading.proofs.table.numbers_by_name.Goals as goal

pub loop-i-preserved : goal.loop-i-preserved
loop-i-preserved c =
    let lines = c.args.lines.now in
    let line = get_or lines c.loop-i.i c.index-lines-i.result in
    one_more lines c.loop-i.i line c.loop-i.numbers c.add.new.self (slice_get-get_or lines c.loop-i.i c.index-lines-i.result c.loop-i-test.true) c.loop-i.invariant
    (subst (λ name. IsAdded name c.loop-i.i c.loop-i.numbers c.add.new.self) (c.in_ok-copy.ensures ∙ c.name_in.ensures) c.in_ok-add.ensures)

pub returns : goal.returns
returns c = all_listed c.args.lines.now c.loop-i.i c.loop-i.numbers c.loop-i-test.false c.loop-i.invariant

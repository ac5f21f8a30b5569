use Rattle.std.proofs.Common.{◌∙◌, get_or, refl, subst, sym}
use Rattle.std.proofs.lemmas.Bool.{false≢true}
use Rattle.std.proofs.lemmas.List.Elements.{Contains-get_or}
use Rattle.std.proofs.lemmas.Option.{get_or_from_slice_get, slice_get_within}
use Rattle.grading.specs.Table.{HaveName}
use Rattle.grading.proofs.Checked.{none_at_all, none_more}
use Rattle.grading.proofs.evidence.is_proved.Goals as goal

pub line-requires : goal.line-requires
line-requires c = c.numbers_of-number-items.ensures.within (get_or c.numbers_of-number-items.result.now c.loop-number.number-index 0) (Contains-get_or c.numbers_of-number-items.result.now c.loop-number.number-index 0 c.loop-number-test.true)

pub returns-then-is_proof_of-clause-holds : goal.returns-then-is_proof_of-clause-holds
returns-then-is_proof_of-clause-holds c = (
  λ t.
      let lines = c.args.lines.now in
      let line = c.line.result.now in
      let number = get_or c.numbers_of-number-items.result.now c.loop-number.number-index 0 in
      (line, (number, slice_get_within lines number line c.line.ensures, get_or_from_slice_get lines number line line c.line.ensures), c.is_proof_of.ensures.holds.0 c.if-is_proof_of.true),
  λ proved. refl,
)

pub loop-number-preserved : goal.loop-number-preserved
loop-number-preserved c = (
  c.is_proof_of.ensures.room ∙ c.loop-number.invariant.0,
  none_more c.args.net.now c.args.fault c.args.lines.now c.numbers_of-number-items.result.now c.loop-number.number-index 0 c.line.result.now c.loop-number-test.true c.loop-number.invariant.1 c.line.ensures
      (λ proof. false≢true (sym c.if-is_proof_of.false ∙ c.is_proof_of.ensures.holds.1 proof)),
)

pub returns-clause-holds : goal.returns-clause-holds
returns-clause-holds c = (
  λ t. absurd (false≢true t),
  λ proved. absurd (none_at_all c.args.net.now c.args.fault c.args.lines.now c.args.name.now c.numbers_of-number-items.result.now c.loop-number.number-index c.requires.name
      (subst (λ name. HaveName c.args.lines.now name c.numbers_of-number-items.result.now) c.name_in.ensures c.numbers_of-number-items.ensures)
      c.loop-number-test.false c.loop-number.invariant.1 proved),
)

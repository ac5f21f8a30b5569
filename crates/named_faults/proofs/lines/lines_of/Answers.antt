use Rattle.std.proofs.lemmas.List.Elements.{All-push}
use Rattle.std.proofs.Common.{◌≡◌, ◌∷◌, [], ◌++◌, sym, subst}
use Rattle.std.specs.Prelude.{All}
use Rattle.named_faults.specs.Lines.{IsLineOf}
use Rattle.vec_text.specs.VectorFile.{IsIdle}
use Rattle.named_faults.proofs.Selected.{zip_more}
use Rattle.named_faults.proofs.lines.lines_of.Goals as goal

pub line_of-requires-clause-undetectable : goal.line_of-requires-clause-undetectable
line_of-requires-clause-undetectable c = c.requires.undetectable c.loop-fault.fault-index _ c.loop-fault-test.true

pub loop-fault-preserved : goal.loop-fault-preserved
loop-fault-preserved c = record {
  lines = zip_more (IsLineOf c.args.net.now) c.args.faults.now c.loop-fault.fault-index _ c.loop-fault.lines c.push.new.self c.in_ok-line_of.field-0 c.loop-fault-test.true c.loop-fault.invariant.lines
      c.in_ok-line_of.ensures.line c.in_ok-push.ensures.ok;
  valid = subst (All IsIdle) (sym c.in_ok-push.ensures.ok) (All-push IsIdle c.loop-fault.lines c.in_ok-line_of.field-0 c.loop-fault.invariant.valid c.in_ok-line_of.ensures.valid);
}

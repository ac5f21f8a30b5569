use Rattle.std.proofs.Common.{◌∙◌, ap}
use Rattle.vec_text.specs.VectorFile.{is_place}
use Rattle.named_faults.proofs.Selected.{named_place, placed_valid, shown_valid}
use Rattle.named_faults.proofs.Sites.{place_within}
use Rattle.named_faults.proofs.lines.line_of.Goals as goal

pub returns-clause-valid : goal.returns-clause-valid
returns-clause-valid c =
    let n = c.args.net.now in
    let fault = c.args.fault in
    record {
      place = ap is_place (named_place n fault c.in_ok-place.field-0 c.in_ok-place.ensures)
          ∙ placed_valid n fault.place c.valid_law.ensures (place_within n c.valid_law.ensures (c.fault_laws.ensures.read n c.valid_law.ensures) fault.place c.requires.place);
      shown = shown_valid n fault c.in_ok-shown.shown c.in_ok-shown.ensures;
    }

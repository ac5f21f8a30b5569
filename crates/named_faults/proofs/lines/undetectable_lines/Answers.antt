use Rattle.named_faults.proofs.Selected.{all_places, all_undetectable}
use Rattle.named_faults.proofs.lines.undetectable_lines.Goals as goal

pub lines_of-requires-clause-places : goal.lines_of-requires-clause-places
lines_of-requires-clause-places c =
    all_places c.args.net.now c.args.faults.now (λ fault at. (c.fault_laws.ensures.places c.args.net.now fault c.valid_law.ensures).0 at) c.requires

pub lines_of-requires-clause-undetectable : goal.lines_of-requires-clause-undetectable
lines_of-requires-clause-undetectable c = all_undetectable c.args.net.now c.args.faults.now c.requires

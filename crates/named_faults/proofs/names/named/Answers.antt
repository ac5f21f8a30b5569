use Rattle.named_faults.proofs.Sites.{place_within}
use Rattle.named_faults.proofs.names.named.Goals as goal

pub place_name-requires : goal.place_name-requires
place_name-requires c =
    let n = c.args.net.now in
    let valid = c.valid_law.ensures in
    place_within n valid (c.fault_laws.ensures.read n valid) c.args.fault.place c.requires

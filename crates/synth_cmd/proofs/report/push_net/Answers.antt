use Rattle.std.proofs.Common.{◌∷◌, [], ◌++◌}
use Rattle.std.specs.Prelude.{codes}
use Rattle.std.specs.Fmt.{decimal}
use Rattle.synth_cmd.proofs.report.push_net.Goals as goal

pub returns : goal.returns
returns c =
    let s = c.args.summary.now in
    let gates = (codes "gates" ∷ decimal s.gates ∷ []) ∷ [] in
    let faults = (codes "faults" ∷ decimal s.faults ∷ []) ∷ [] in
    let vectors = (codes "vectors" ∷ decimal s.vectors ∷ []) ∷ [] in
    let unchanged = (codes "unchanged" ∷ decimal s.unchanged ∷ []) ∷ [] in
    c.line_law.ensures.more c.args.out.now.items c.push_count.new.out.items c.push_count-4.new.out.items gates ((codes "faults" ∷ decimal s.faults ∷ []) ∷ (codes "vectors" ∷ decimal s.vectors ∷ []) ∷ unchanged)
    c.in_ok-push_count.ensures
    (c.line_law.ensures.more c.push_count.new.out.items c.push_count-2.new.out.items c.push_count-4.new.out.items faults ((codes "vectors" ∷ decimal s.vectors ∷ []) ∷ unchanged)
    c.in_ok-push_count-2.ensures
    (c.line_law.ensures.more c.push_count-2.new.out.items c.push_count-3.new.out.items c.push_count-4.new.out.items vectors unchanged c.in_ok-push_count-3.ensures c.in_ok-push_count-4.ensures))

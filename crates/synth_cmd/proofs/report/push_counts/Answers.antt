use Rattle.std.proofs.Common.{◌∷◌, [], ◌++◌}
use Rattle.std.specs.Prelude.{codes}
use Rattle.std.specs.Fmt.{decimal}
use Rattle.synth_cmd.specs.Lines.{cubes_lines, net_lines}
use Rattle.synth_cmd.proofs.report.push_counts.Goals as goal

pub returns : goal.returns
returns c =
    let s = c.args.summary.now in
    let terms = (codes "terms" ∷ decimal s.terms ∷ []) ∷ [] in
    c.line_law.ensures.more c.args.out.now.items c.push_count.new.out.items c.push_net.new.out.items terms (cubes_lines s.form s ++ net_lines s) c.in_ok-push_count.ensures
    (c.line_law.ensures.more c.push_count.new.out.items c.push_cubes.new.out.items c.push_net.new.out.items (cubes_lines s.form s) (net_lines s) c.in_ok-push_cubes.ensures c.in_ok-push_net.ensures)

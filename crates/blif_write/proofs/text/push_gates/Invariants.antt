use Rattle.std.proofs.Common.{◌≡◌, ◌++◌, take}
use Rattle.std.specs.List.{flat_map}
use Rattle.ae_base.specs.Text.{text_of}
use Rattle.ae_net.specs.Blif as text
use Rattle.blif_write.proofs.text.push_gates.Given as goal

abbrev pub invariant-loop-i : goal.invariant-loop-i
invariant-loop-i l = l.out.items ≡ l.fn.out.items ++ text_of (flat_map (text.gate_lines (text.signal_names l.net)) (take l.i l.net.gates))

-- The simulation of a subcube as the code works it out, gate by gate: it is the evaluation over lines. The law of evidence ties it to the
-- relation.
use Rattle.std.specs.Prelude.{Bool, false, not, ◌||◌, Some, None, List, length}
use Rattle.ae_base.specs.Mask.{differ}
use Rattle.ae_net.specs.declared.net.Fault.{Fault}
use Rattle.ae_net.specs.Evaluation.{Domain, values_of}
use Rattle.ae_net.specs.Network.{Network}
use Rattle.redundancy.specs.declared.lines.Line.{Line}
use Rattle.redundancy.specs.declared.lines.Subcube.{Subcube}
use Rattle.redundancy.specs.Simulation.{Known, each_below, held, input_line, gate_line}
use Rattle.redundancy.specs.Leaf.{line_at, port_line}

-- what is known of lines, as a kind of values
abbrev pub known_lines : Fault → Subcube → Domain Line
known_lines fault d = record { nothing = record { good = None; faulty = None; quiet = false }; input = input_line d; table = gate_line; seen = held fault }

-- the lines of all signals
unfoldable pub lines_in : Network → Fault → Subcube → List Line
lines_in n fault d = values_of (known_lines fault d) n

-- known to be b
abbrev pub is_known : Bool → Known → Bool
is_known b None = false
is_known b (Some c) = not (differ b c)

-- both known, with one value
abbrev pub are_same : Known → Known → Bool
are_same None known = false
are_same (Some b) known = is_known b known

abbrev pub is_untouched : Line → Bool
is_untouched line = line.quiet || are_same line.good line.faulty

-- whether the leaf holds, by the lines
abbrev pub holds_by : Network → Fault → List Line → Bool
holds_by n fault lines = is_known fault.value (line_at n lines fault.place).good || each_below (length n.outputs) (λ o. is_untouched (port_line n fault lines o))

unfoldable pub leaf_holds : Network → Fault → Subcube → Bool
leaf_holds n fault d = holds_by n fault (lines_in n fault d)

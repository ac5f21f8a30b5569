-- The tests of a network: a point for each fault that no earlier point detects and some point does.
use Rattle.std.specs.Prelude.{◌==◌, ℕ, Bool, not, if◌then◌else◌, Option, Some, None, List, [], ◌++◌, length, fold}
use Rattle.std.specs.List.{list_any}
use Rattle.std.specs.Option.{option_to_list}
use Rattle.ae_base.specs.Mask.{Set, differ, has}
use Rattle.ae_base.specs.Cube.{Signs}
use Rattle.ae_net.specs.declared.net.Fault.{Fault}
use Rattle.ae_net.specs.Faults.{fault_list}
use Rattle.ae_net.specs.Network.{Network}
use Rattle.ae_net.specs.Out.{out}
use Rattle.test_gen.specs.Points.{first_one}

-- the outputs with the fault differ from those without it
abbrev pub detects : Network → Fault → Set → Bool
detects n fault x = not (out n (Some fault) x == out n None x)

-- output o with the fault differs from that without it
abbrev pub changes : Network → Fault → ℕ → Set → Bool
changes n fault o x = differ (has (out n None x) o) (has (out n (Some fault) x) o)

-- the test for a fault: the least point at which the first output that the fault changes anywhere is changed
unfoldable pub test_for : Network → Signs → Fault → Option Set
test_for n p fault = first_one p (length n.outputs) (changes n fault)

-- with the test for the fault at the end, where no point of the list detects it
abbrev pub with_test : Network → Signs → List Set → Fault → List Set
with_test n p points fault = if list_any (detects n fault) points then points else points ++ option_to_list (test_for n p fault)

-- no points at first, and then fault by fault in fault order
unfoldable pub tests_of : Network → Signs → List Set
tests_of n p = fold (with_test n p) [] (fault_list n)

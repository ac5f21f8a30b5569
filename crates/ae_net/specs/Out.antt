-- The outputs of a network as the code works them out, gate by gate. The law of the one run ties them to the relation of runs.
use Rattle.std.specs.Prelude.{◌≡◌, ◌≢◌, ℕ, zero, suc, ◌+◌, Option, Some, None, Bool, List, [], ◌∷◌, ◌++◌, length, map}
use Rattle.std.specs.List.{range_with_len}
use Rattle.ae_base.specs.Mask.{Set, has}
use Rattle.ae_net.specs.declared.net.Fault.{Fault}
use Rattle.ae_net.specs.declared.net.Place.TheVariants.{Stem}
use Rattle.ae_net.specs.Network.{Network, gate_at}
use Rattle.ae_net.specs.Run.{table, seen, ones_seen, IsRun, ports_of}

-- the values of the inputs and of the first k gates, each gate's from those before it
unfoldable pub run_to : Network → Option Fault → Set → ℕ → List Bool
run_to n fault x zero = map (λ j. seen fault (Stem j) (has x j)) (range_with_len 0 (length n.inputs))
run_to n fault x (suc k) = let w = run_to n fault x k in w ++ seen fault (Stem (length n.inputs + k)) (table (gate_at n k) (ones_seen fault w k (gate_at n k))) ∷ []

unfoldable pub run : Network → Option Fault → Set → List Bool
run n fault x = run_to n fault x (length n.gates)

-- the outputs that show 1
unfoldable pub out : Network → Option Fault → Set → Set
out n fault x = ports_of n fault (run n fault x)

-- the outputs with the fault differ from those without it
abbrev pub Differs : Network → Fault → Set → Type 0
Differs n fault x = out n (Some fault) x ≢ out n None x

-- There is a run, and no other.
abbrev pub HasOneRun : Network → Option Fault → Set → Type 0
HasOneRun n fault x = (w : List Bool) × IsRun n fault x w × ((v : List Bool) → IsRun n fault x v → v ≡ w)

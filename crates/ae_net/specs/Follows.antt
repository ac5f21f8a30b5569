-- Gates that have the values of their tables, a gate and a list of gates at a time.
use Rattle.std.proofs.Common.{◌≡◌, ℕ, ◌+◌, Bool, List}
use Rattle.std.specs.Prelude.{Option}
use Rattle.ae_base.proofs.EachAt.{EachAt}
use Rattle.ae_net.specs.declared.net.Gate.{Gate}
use Rattle.ae_net.specs.declared.net.Place.TheVariants.{Stem}
use Rattle.ae_net.specs.declared.net.Fault.{Fault}
use Rattle.ae_net.specs.Run.{table, seen, value_of, ones_seen}

-- gate g, in place i, has the value of its table; m inputs stand before the gates
abbrev pub Fits : Option Fault → List Bool → ℕ → ℕ → Gate → Type 0
Fits fault w m i g = value_of w (m + i) ≡ seen fault (Stem (m + i)) (table g (ones_seen fault w i g))

-- so have all gates of the list
abbrev pub Follows : Option Fault → List Bool → ℕ → ℕ → List Gate → Type 0
Follows fault w m i gs = EachAt (Fits fault w m) i gs

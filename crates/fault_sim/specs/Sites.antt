-- The faults of a pass by the sites of their places. For private contracts alone.
use Rattle.std.specs.Prelude.{◌≡◌, ◌≢◌, ℕ, ◌+◌, ◌-◌, ◌<◌, ◌≤◌, Bool, true, false, if◌then◌else◌, Option, List, length, slice_get, slice_index, slice_index_or}
use Rattle.ae_net.specs.declared.net.Fault.{Fault}
use Rattle.ae_net.specs.declared.net.Place.{Place}
use Rattle.ae_net.specs.declared.net.Place.TheVariants.{Stem, Pin, Port}
use Rattle.ae_net.specs.Network.{Network, signals}
use Rattle.fault_sim.specs.declared.held.Held.{Held}
use Rattle.fault_sim.specs.declared.words.TheConstants.{LANES}

-- the signal of a stem, the signal of the gate of a pin, or past the signals a port
abbrev pub site : Network → Place → ℕ
site n (Stem s) = s
site n (Pin i k) = length n.inputs + i
site n (Port o) = signals n + o

abbrev pub sites : Network → ℕ
sites n = signals n + length n.outputs

-- the site of the fault in place e
abbrev pub site_at : Network → List Fault → ℕ → ℕ
site_at n faults e = site n (slice_index_or faults e (record { place = Stem 0; value = false })).place

-- Of the first m faults the last at site s is in place b - 1, or b is 0 and there is none.
pub record IsLast (n : Network) (faults : List Fault) (s m b : ℕ) : Type 0 where
  pub within : b ≤ m
  pub at : 0 < b → site_at n faults (b - 1) ≡ s
  pub others : (e : ℕ) → b ≤ e → e < m → site_at n faults e ≢ s

-- so many faults have lanes
abbrev pub room : Bool → ℕ
room all = if all then 1 else LANES

-- The chain of each site has the faults there, and each fault has a lane.
pub record IsHeld (n : Network) (held : Held) : Type 0 where
  pub count : length held.last.items ≡ sites n
  pub before : length held.before.items ≡ length held.faults.items
  pub few : length held.faults.items ≤ room held.all
  pub last : (s : ℕ) → s < sites n → IsLast n held.faults.items s (length held.faults.items) (slice_index held.last.items s)
  pub earlier : (e : ℕ) → e < length held.faults.items → site_at n held.faults.items e < sites n → IsLast n held.faults.items (site_at n held.faults.items e) e (slice_index held.before.items e)

-- the place of the fault that has lane l
abbrev pub entry : Bool → ℕ → ℕ
entry all l = if all then 0 else l

-- the fault that has lane l, if there is one
abbrev pub fault_in : Held → ℕ → Option Fault
fault_in held l = slice_get held.faults.items (entry held.all l)

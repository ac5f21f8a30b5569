-- The fault sites of a valid network.
use Rattle.std.proofs.Common.{◌≡◌, ◌<◌, ◌≤◌, ℕ, true, length, subst, arith}
use Rattle.std.proofs.lemmas.Option.{slice_get_within}
use Rattle.ae_base.specs.declared.limits.TheConstants.{PINS}
use Rattle.ae_net.specs.declared.net.Place.{Place}
use Rattle.ae_net.specs.declared.net.Place.TheVariants.{Stem, Pin, Port}
use Rattle.ae_net.specs.Faults.{IsPlace, is_read}
use Rattle.ae_net.specs.Network.{Network, signals}
use Rattle.ae_net.specs.Valid.{IsValid}
use Rattle.named_faults.specs.Within.{IsWithin}

pub place_within : (n : Network) → IsValid n → ((s : ℕ) → is_read n s ≡ true → s < signals n) → (p : Place) → IsPlace n p → IsWithin n p
place_within n valid read (Stem s) h = read s h
place_within n valid read (Pin i k) (gate, there, low) = (slice_get_within n.gates i gate there, omega (arith, low, (valid.gates i gate there).few_pins))
place_within n valid read (Port o) h = h

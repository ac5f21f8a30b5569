-- What a gate sees of the bytes of a scratch, 1 for true. For private contracts alone.
use Rattle.std.specs.Prelude.{ℕ, ◌==◌, Option, List, length, slice_index}
use Rattle.ae_base.specs.Mask.{Set, where_below}
use Rattle.ae_net.specs.declared.net.Gate.{Gate}
use Rattle.ae_net.specs.declared.net.Place.TheVariants.{Pin}
use Rattle.ae_net.specs.declared.net.Fault.{Fault}
use Rattle.ae_net.specs.Run.{seen}

-- the positions of the pins that see 1 where the signals have these bytes
abbrev pub ones_kept : Option Fault → List ℕ → ℕ → Gate → Set
ones_kept fault bytes i gate = where_below (length gate.pins) (λ k. seen fault (Pin i k) (slice_index bytes (slice_index gate.pins k) == 1))

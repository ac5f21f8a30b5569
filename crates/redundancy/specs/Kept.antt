-- What the bytes of a scratch keep while a leaf is worked out: a line in each. For private contracts alone.
use Rattle.std.specs.Prelude.{◌≡◌, ℕ, ◌+◌, ◌*◌, ◌/◌, ◌%◌, ◌<◌, ◌==◌, not, nat_lt, if◌then◌else◌, Some, None, List, length, slice_index}
use Rattle.ae_net.specs.declared.net.Gate.{Gate}
use Rattle.ae_net.specs.declared.net.Place.{Place}
use Rattle.ae_net.specs.declared.net.Place.TheVariants.{Stem, Pin, Port}
use Rattle.ae_net.specs.declared.net.Fault.{Fault}
use Rattle.ae_net.specs.Network.{Network, gate_at}
use Rattle.redundancy.specs.declared.lines.Line.{Line}
use Rattle.redundancy.specs.declared.lines.View.{View}
use Rattle.redundancy.specs.declared.lines.View.TheVariants.{Good, Faulty, Quiet}
use Rattle.redundancy.specs.Simulation.{Known, held, line_of}

-- unknown, known 0, known 1
abbrev pub digit : Known → ℕ
digit None = 0
digit (Some b) = if b then 2 else 1

abbrev pub known_digit : ℕ → Known
known_digit n = if n == 0 then None else Some (not (n == 1))

abbrev pub byte_of : Line → ℕ
byte_of line = digit line.good + 3 * digit line.faulty + (if line.quiet then 9 else 0)

abbrev pub line_in : ℕ → Line
line_in byte = record { good = known_digit (byte % 3); faulty = known_digit (byte / 3 % 3); quiet = not (nat_lt byte 9) }

-- what pin k of the gate in place i sees, where the signals have these bytes
abbrev pub pin_kept : Fault → List ℕ → ℕ → Gate → ℕ → Line
pin_kept fault bytes i gate k = held fault (Pin i k) (line_in (slice_index bytes (slice_index gate.pins k)))

-- what port o sees
abbrev pub port_kept : Fault → List ℕ → List ℕ → ℕ → Line
port_kept fault bytes outputs o = held fault (Port o) (line_in (slice_index bytes (slice_index outputs o)))

-- the value of a line that is looked at
abbrev pub view_of : View → Line → Known
view_of Good line = line.good
view_of Faulty line = line.faulty
view_of Quiet line = if line.quiet then line.good else None

-- the signal of a place
abbrev pub signal_of : Network → Place → ℕ
signal_of n (Stem s) = s
signal_of n (Pin i k) = slice_index (gate_at n i).pins k
signal_of n (Port o) = slice_index n.outputs o

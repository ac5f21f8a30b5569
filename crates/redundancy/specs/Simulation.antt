-- Three-valued simulation of a network where only the first inputs are known, without and with a stuck-at fault, and which lines are quiet:
-- those that the fault cannot reach. It is a condition on a finished list, as a run is.
use Rattle.std.specs.Prelude.{◌≡◌, ℕ, zero, suc, ◌+◌, ◌<◌, Bool, true, false, not, ◌&&◌, ◌||◌, if◌then◌else◌, nat_lt, Option, Some, None, is_some, List, length, slice_get, slice_index, slice_index_or}
use Rattle.std.specs.List.{list_any, list_all}
use Rattle.ae_base.specs.Mask.{has, inside, where_below}
use Rattle.ae_base.specs.Cube.{Product, meet}
use Rattle.ae_net.specs.declared.net.Gate.{Gate}
use Rattle.ae_net.specs.declared.net.Place.{Place}
use Rattle.ae_net.specs.declared.net.Place.TheVariants.{Stem, Pin}
use Rattle.ae_net.specs.declared.net.Fault.{Fault}
use Rattle.ae_net.specs.Network.{Network, signals}
use Rattle.ae_net.specs.Run.{same_place}
use Rattle.redundancy.specs.declared.lines.Line.{Line}
use Rattle.redundancy.specs.declared.lines.Subcube.{Subcube}

-- known 0, known 1, or unknown
abbrev pub Known : Type 0
Known = Option Bool

abbrev pub is_one : Known → Bool
is_one None = false
is_one (Some b) = b

abbrev pub is_zero : Known → Bool
is_zero None = false
is_zero (Some b) = not b

-- each number below n passes the test
abbrev pub each_below : ℕ → (ℕ → Bool) → Bool
each_below zero p = true
each_below (suc n) p = p n && each_below n p

-- of n pins, those that are known to see 1 and those that are known to see 0: a cube over the positions
abbrev pub known_pins : ℕ → (ℕ → Known) → Product
known_pins n sees = record { pos = where_below n (λ k. is_one (sees k)); neg = where_below n (λ k. is_zero (sees k)) }

-- each literal's pin is known to agree
abbrev pub surely_holds : Product → Product → Bool
surely_holds row pins = inside row.pos pins.pos && inside row.neg pins.neg

-- some literal's pin is known to disagree: the row and what is known of the pins have no point in common
abbrev pub surely_fails : Product → Product → Bool
surely_fails row pins = not (meet row pins)

-- what is known of a gate's value: where some row surely holds, and where every row surely fails
unfoldable pub known_table : Gate → Product → Known
known_table gate pins = if list_any (λ row. surely_holds row pins) gate.rows then Some gate.on else (if list_all (λ row. surely_fails row pins) gate.rows then Some (not gate.on) else None)

-- The place of the fault has the stuck value with the fault, and is not quiet.
abbrev pub held : Fault → Place → Line → Line
held fault at line = if same_place fault.place at then record { good = line.good; faulty = Some fault.value; quiet = false } else line

-- input j by itself
abbrev pub input_line : Subcube → ℕ → Line
input_line d j = let known = if nat_lt j d.depth then Some (has d.point j) else None in record { good = known; faulty = known; quiet = true }

-- A gate by itself, from the lines of its pins. It is quiet where all its pins are, or where it is known from its quiet pins alone.
abbrev pub gate_line : Gate → (ℕ → Line) → Line
gate_line gate pins =
    let n = length gate.pins in
    record {
      good = known_table gate (known_pins n (λ k. (pins k).good));
      faulty = known_table gate (known_pins n (λ k. (pins k).faulty));
      quiet = each_below n (λ k. (pins k).quiet) || is_some (known_table gate (known_pins n (λ k. if (pins k).quiet then (pins k).good else None)));
    }

-- the line of a signal in a list of all signals' lines
abbrev pub line_of : List Line → ℕ → Line
line_of lines s = slice_index_or lines s (record { good = None; faulty = None; quiet = false })

-- pin k of the gate in place i
abbrev pub pin_line : Fault → List Line → ℕ → Gate → ℕ → Line
pin_line fault lines i gate k = held fault (Pin i k) (line_of lines (slice_index gate.pins k))

-- A list of lines, one for each signal, is the simulation of the subcube: each input and each gate has its line, but the fault's stem is held.
pub record IsSimulation (n : Network) (fault : Fault) (d : Subcube) (lines : List Line) : Type 0 where
  pub all : length lines ≡ signals n
  pub inputs : (j : ℕ) → j < length n.inputs → line_of lines j ≡ held fault (Stem j) (input_line d j)
  pub gates : (i : ℕ) (gate : Gate) → slice_get n.gates i ≡ Some gate → line_of lines (length n.inputs + i) ≡ held fault (Stem (length n.inputs + i)) (gate_line gate (pin_line fault lines i gate))

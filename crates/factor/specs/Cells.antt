-- The gates of a sum, before they have names.
use Rattle.std.specs.Prelude.{ℕ, suc, ◌+◌, ◌-◌, ◌==◌, Bool, not, if◌then◌else◌, List, [], ◌∷◌, ◌++◌, length, map, slice_index}
use Rattle.std.specs.List.{list_all, position_or_len}
use Rattle.ae_base.specs.Mask.{has, either, members}
use Rattle.ae_base.specs.Cube.{Product, meet}
use Rattle.ae_net.specs.declared.gates.Cell.{Cell}
use Rattle.ae_net.specs.declared.gates.Cell.TheVariants.{Zero, One, Inverter, Buffer, And, Exor, Or}
use Rattle.factor.specs.declared.parts.Factor.{Factor}
use Rattle.factor.specs.declared.parts.Wires.{Wires}
use Rattle.factor.specs.Sums.{Summands, has_constant}
use Rattle.factor.specs.Sums.Summands.{end, literals, factored}

-- ---- literals

-- the signal of a literal of input j: the input where it is plain, else its inverter
unfoldable pub literal_signal : Wires → Bool → ℕ → ℕ
literal_signal w plain j = if plain then j else w.inputs + position_or_len (λ i. i == j) w.turned

-- the signals of a product's literals, in input order
unfoldable pub literal_signals : Wires → Product → List ℕ
literal_signals w c = map (λ j. literal_signal w (has c.pos j) j) (members (either c.pos c.neg))

-- ---- summands

-- gates, and the signal that they come to
pub record Part : Type 0 where
  pub cells : List Cell
  pub signal : ℕ

-- the gates of summands, and for each summand its direct factors and its signal
pub record Parts : Type 0 where
  pub cells : List Cell
  pub factors : List Factor

-- a literal alone has no gate; other products of literals have an AND gate, whose signal is k
abbrev pub product_of : ℕ → List ℕ → Part
product_of k signals = if length signals == 1 then record { cells = []; signal = slice_index signals 0 } else record { cells = And signals ∷ []; signal = k }

-- the gates of an inner sum, and then an AND gate of the literals and of the inner sum
abbrev pub product_with : ℕ → List ℕ → Part → Part
product_with k signals inner = record { cells = inner.cells ++ And (signals ++ inner.signal ∷ []) ∷ []; signal = k + length inner.cells }

-- a summand before others
abbrev pub before : Product → Part → Parts → Parts
before ls part rest = record { cells = part.cells ++ rest.cells; factors = record { literals = ls; signal = part.signal } ∷ rest.factors }

-- ---- joining

-- each earlier summand excludes the product: some input is a direct factor of the one in plain form and of the other in complemented form
abbrev pub are_excluded : List Factor → Product → Bool
are_excluded earlier ls = list_all (λ e. not (meet e.literals ls)) earlier

-- an OR where each earlier summand excludes this one, else an EXOR
abbrev pub join : List Factor → ℕ → Factor → Cell
join earlier line f = if are_excluded earlier f.literals then Or line f.signal else Exor line f.signal

-- the gates, the first of them with the signal k, that join the summands to the line, which joins the earlier ones
abbrev pub joins : ℕ → ℕ → List Factor → List Factor → List Cell
joins k line earlier [] = []
joins k line earlier (f ∷ fs) = join earlier line f ∷ joins (suc k) k (earlier ++ f ∷ []) fs

-- the signal of the last of n gates from k on, or the line where there is none
abbrev pub last_of : ℕ → ℕ → ℕ → ℕ
last_of k line n = if n == 0 then line else k + n - 1

-- the gates, the first of them with the signal k, that join the summands
abbrev pub chain_of : ℕ → List Factor → Part
chain_of k [] = record { cells = []; signal = k }
chain_of k (f ∷ fs) = record { cells = joins k f.signal (f ∷ []) fs; signal = last_of k f.signal (length fs) }

-- the constant turns the chain: an inverter
abbrev pub turned_by : Bool → ℕ → Part → Part
turned_by constant k chain = if constant then record { cells = chain.cells ++ Inverter chain.signal ∷ []; signal = k + length chain.cells } else chain

-- The gates, the first of them with the signal k, that join the summands, and the inverter where the sum has the constant. Where there is
-- no summand, a gate of the constant.
abbrev pub closing : ℕ → Bool → List Factor → Part
closing k constant factors = if length factors == 0 then record { cells = (if constant then One else Zero) ∷ []; signal = k } else turned_by constant k (chain_of k factors)

-- the gates of a sum: those of its summands, the first of them with the signal k, and those that join them
abbrev pub closed : ℕ → Bool → Parts → Part
closed k constant summands =
    let end = closing (k + length summands.cells) constant summands.factors in
    record { cells = summands.cells ++ end.cells; signal = end.signal }

-- the gates of the summands of a sum, the first of them with the signal k
unfoldable pub parts : Wires → ℕ → Summands → Parts
parts w k (end b) = record { cells = []; factors = [] }
parts w k (literals ls rest) =
    let part = product_of k (literal_signals w ls) in
    before ls part (parts w (k + length part.cells) rest)
parts w k (factored ls inner rest) =
    let part = product_with k (literal_signals w ls) (closed k (has_constant inner) (parts w k inner)) in
    before ls part (parts w (k + length part.cells) rest)

-- the gates of a sum, the first of them with the signal k
unfoldable pub sum_part : Wires → ℕ → Summands → Part
sum_part w k s = closed k (has_constant s) (parts w k s)

-- the gates of an output's sum: where the sum is the signal of one literal alone, a buffer of it
abbrev pub with_buffer : Part → List Cell
with_buffer part = if length part.cells == 0 then Buffer part.signal ∷ [] else part.cells

unfoldable pub output_cells : Wires → ℕ → Summands → List Cell
output_cells w k s = with_buffer (sum_part w k s)

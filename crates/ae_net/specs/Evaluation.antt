-- The evaluation of a network over any kind of values: truth values, what is known of them, functions, rows of truth values. For laws and
-- private contracts alone: a run is said in words of its own, and the law of runs ties it to these.
use Rattle.std.specs.Prelude.{◌≡◌, ℕ, zero, suc, ◌+◌, ◌<◌, Bool, false, Option, Some, List, [], ◌∷◌, ◌++◌, length, map, slice_get, slice_index, slice_index_or}
use Rattle.std.specs.List.{range_with_len}
use Rattle.ae_base.specs.Mask.{Set, has, where_below}
use Rattle.ae_net.specs.declared.net.Gate.{Gate}
use Rattle.ae_net.specs.declared.net.Place.{Place}
use Rattle.ae_net.specs.declared.net.Place.TheVariants.{Stem, Pin, Port}
use Rattle.ae_net.specs.declared.net.Fault.{Fault}
use Rattle.ae_net.specs.Network.{Network, signals, gate_at}
use Rattle.ae_net.specs.Run as run
use Rattle.ae_net.specs.Valid.{IsGate, IsValid}

-- A kind of values: the value of an input, that of a gate from what its pins see, and what is seen at a place where a value would be seen
-- without the fault. Where there is no signal, there is `nothing`.
pub record Domain (V : Type 0) : Type 0 where
  pub nothing : V
  pub input : ℕ → V
  pub table : Gate → (ℕ → V) → V
  pub seen : Place → V → V

-- what pin k of the gate in place i sees, where the signals have these values
abbrev pub pin_seen : {V : Type 0} → Domain V → (ℕ → V) → ℕ → Gate → ℕ → V
pin_seen d value i gate k = d.seen (Pin i k) (value (slice_index gate.pins k))

-- what port o shows
abbrev pub port_seen : {V : Type 0} → Domain V → Network → (ℕ → V) → ℕ → V
port_seen d n value o = d.seen (Port o) (value (slice_index n.outputs o))

-- The signals have these values: an input its own, and a gate that of its table on what its pins see. The stem of the fault has what is
-- seen there.
pub record IsEvaluation {V : Type 0} (d : Domain V) (n : Network) (value : ℕ → V) : Type 0 where
  pub inputs : (j : ℕ) → j < length n.inputs → value j ≡ d.seen (Stem j) (d.input j)
  pub gates : (i : ℕ) (gate : Gate) → slice_get n.gates i ≡ Some gate → value (length n.inputs + i) ≡ d.seen (Stem (length n.inputs + i)) (d.table gate (pin_seen d value i gate))

-- ---- relations

-- the value of a gate follows from what its pins see
abbrev pub IsLocal : {V : Type 0} → Domain V → Type 0
IsLocal {V} d = (gate : Gate) (p q : ℕ → V) → ((k : ℕ) → k < length gate.pins → p k ≡ q k) → d.table gate p ≡ d.table gate q

-- A relation between the values of two domains holds at the inputs of the network, and is kept by the tables of gates and by the fault.
pub record IsKept {V W : Type 0} (R : V → W → Type 0) (n : Network) (d : Domain V) (e : Domain W) : Type 0 where
  pub inputs : (j : ℕ) → j < length n.inputs → R (d.input j) (e.input j)
  pub tables : (s : ℕ) (gate : Gate) → IsGate s gate → (p : ℕ → V) (q : ℕ → W) → ((k : ℕ) → k < length gate.pins → R (p k) (q k)) → R (d.table gate p) (e.table gate q)
  pub places : (at : Place) (a : V) (b : W) → R a b → R (d.seen at a) (e.seen at b)

-- It holds between the values of each signal of the network, and between what each port shows.
pub record HoldsAtEach {V W : Type 0} (R : V → W → Type 0) (n : Network) (d : Domain V) (e : Domain W) (v : ℕ → V) (w : ℕ → W) : Type 0 where
  pub signals : (s : ℕ) → s < signals n → R (v s) (w s)
  pub ports : (o : ℕ) → o < length n.outputs → R (port_seen d n v o) (port_seen e n w o)

-- a relation holds wherever it is kept
abbrev pub HoldsWhereKept : {V W : Type 0} → (V → W → Type 0) → Type 0
HoldsWhereKept {V} {W} R = (n : Network) (d : Domain V) (e : Domain W) (v : ℕ → V) (w : ℕ → W) → IsValid n → IsKept R n d e → IsEvaluation d n v → IsEvaluation e n w → HoldsAtEach R n d e v w

-- ---- values as they are worked out

-- the value of a signal in a list
abbrev pub value_in : {V : Type 0} → Domain V → List V → ℕ → V
value_in d values s = slice_index_or values s d.nothing

-- the value of the gate in place k, from the values of the signals before it
abbrev pub next_value : {V : Type 0} → Domain V → Network → List V → ℕ → V
next_value d n values k = d.seen (Stem (length n.inputs + k)) (d.table (gate_at n k) (pin_seen d (value_in d values) k (gate_at n k)))

-- the values of the inputs and of the first k gates, each gate's from those before it
unfoldable pub values_to : {V : Type 0} → Domain V → Network → ℕ → List V
values_to d n zero = map (λ j. d.seen (Stem j) (d.input j)) (range_with_len 0 (length n.inputs))
values_to d n (suc k) = let values = values_to d n k in values ++ next_value d n values k ∷ []

-- the value of each signal
unfoldable pub values_of : {V : Type 0} → Domain V → Network → List V
values_of d n = values_to d n (length n.gates)

-- There are values of all signals, and no others: those that are worked out.
pub record HasOneEvaluation {V : Type 0} (d : Domain V) (n : Network) : Type 0 where
  pub count : length (values_of d n) ≡ signals n
  pub is : IsEvaluation d n (value_in d (values_of d n))
  pub only : (value : ℕ → V) → IsEvaluation d n value → (s : ℕ) → s < signals n → value s ≡ value_in d (values_of d n) s

-- the values of the signals that a gate reads are kept in these cells
abbrev pub AreKept : {V C : Type 0} → (C → V) → Gate → List C → (ℕ → V) → Type 0
AreKept {V} {C} told gate cells value = (k : ℕ) (cell : C) → k < length gate.pins → slice_get cells (slice_index gate.pins k) ≡ Some cell → told cell ≡ value (slice_index gate.pins k)

-- each signal's value is kept in its cell
abbrev pub AreAllKept : {V C : Type 0} → (C → V) → Domain V → Network → List C → Type 0
AreAllKept {V} {C} told d n cells = (s : ℕ) (cell : C) → s < signals n → slice_get cells s ≡ Some cell → told cell ≡ value_in d (values_of d n) s

-- ---- runs

-- truth values at a point, with a fault or without
abbrev pub truths : Option Fault → Set → Domain Bool
truths fault x = record { nothing = false; input = has x; table = λ gate sees. run.table gate (where_below (length gate.pins) sees); seen = run.seen fault }

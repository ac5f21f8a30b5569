-- The pass of a fault: which signals have their words with it, and which gates are still to be visited. For private contracts alone.
use Rattle.std.specs.Prelude.{◌≡◌, ◌≢◌, ◌⊎◌, ℕ, ◌+◌, ◌*◌, ◌^◌, ◌<◌, ◌≤◌, true, false, Option, Some, List, [], length, slice_get, slice_index, slice_index_or}
use Rattle.ae_base.specs.Mask.{Set, has}
use Rattle.ae_base.specs.declared.limits.TheConstants.{PINS}
use Rattle.ae_net.specs.declared.net.Fault.{Fault}
use Rattle.ae_net.specs.declared.net.Gate.{Gate}
use Rattle.ae_net.specs.declared.net.Place.TheVariants.{Stem}
use Rattle.ae_net.specs.Network.{Network, signals}
use Rattle.ae_net.specs.Run.{seen}
use Rattle.fault_sim.specs.declared.cone.Cone.{Cone}
use Rattle.fault_sim.specs.declared.held.Held.{Held}
use Rattle.fault_sim.specs.declared.words.TheConstants.{LANES}
use Rattle.fault_sim.specs.Lanes.{IsFaulty, IsFree, ReadsGood}
use Rattle.fault_sim.specs.Sites.{fault_in, site_at}
use Rattle.fault_sim.specs.Polynomials.{ArePolynomials}
use Rattle.fault_sim.specs.Marks.{IsAmong, IsUnmarked, is_marked}

-- the gates that read a signal
abbrev pub row : List (List ℕ) → ℕ → List ℕ
row readers s = slice_index_or readers s []

-- For each signal the places of the gates that read it, which stand after it.
pub record AreReaders (n : Network) (readers : List (List ℕ)) : Type 0 where
  pub all : length readers ≡ signals n
  pub later : (s i : ℕ) → IsAmong (row readers s) i → (s < length n.inputs + i) × (i < length n.gates)
  pub each : (i : ℕ) (gate : Gate) (k : ℕ) → slice_get n.gates i ≡ Some gate → k < length gate.pins → IsAmong (row readers (slice_index gate.pins k)) i

-- A cone with room for the signals and gates of the network.
pub record IsCone (n : Network) (cone : Cone) : Type 0 where
  pub words : length cone.words.items ≡ signals n
  pub seen : PINS ≤ length cone.seen.items
  pub marked : length n.gates ≤ 64 * length cone.marked.items
  pub changed : signals n ≤ 64 * length cone.changed.items
  pub few_marked : length cone.marked.items < 2 ^ 32
  pub few_changed : length cone.changed.items < 2 ^ 32
  pub polynomials : ArePolynomials n cone.polynomials.items

-- Between two faults: the words are those without a fault, and nothing is marked.
pub record IsAtRest (good : List ℕ) (cone : Cone) : Type 0 where
  pub words : cone.words.items ≡ good
  pub marked : IsUnmarked cone.marked.items
  pub changed : IsUnmarked cone.changed.items

-- Gates are marked from place j on, and signals are changed.
pub record AreMarks (n : Network) (cone : Cone) (j : ℕ) : Type 0 where
  pub marked : (k : ℕ) → is_marked cone.marked.items k ≡ true → (j ≤ k) × (k < length n.gates)
  pub changed : (s : ℕ) → is_marked cone.changed.items s ≡ true → s < signals n

-- a signal that is not marked as changed has its word without the fault
abbrev pub AreChanged : List ℕ → Cone → Type 0
AreChanged good cone = (s : ℕ) → is_marked cone.changed.items s ≡ false → slice_index cone.words.items s ≡ slice_index good s

-- The first i gates have their words with the faults, and the others those without. A gate from place j on that is not marked has no fault,
-- and reads no signal that differs.
pub record IsSpread (n : Network) (faults : ℕ → Option Fault) (good : List ℕ) (cone : Cone) (i j : ℕ) : Type 0 where
  pub faulty : IsFaulty n faults good (length n.inputs + i) cone.words.items
  pub rest : (s : ℕ) → length n.inputs + i ≤ s → slice_index cone.words.items s ≡ slice_index good s
  pub quiet : (k : ℕ) (gate : Gate) → slice_get n.gates k ≡ Some gate → j ≤ k → is_marked cone.marked.items k ≡ false → ReadsGood good cone.words.items gate × IsFree n faults k
  pub changed : AreChanged good cone

-- The first e faults have their inputs written and their gates marked: an input at which the last fault is among them has the words that are
-- seen there, and each other signal has its word without a fault.
pub record IsBegun (n : Network) (held : Held) (good : List ℕ) (cone : Cone) (e : ℕ) : Type 0 where
  pub inputs : (s : ℕ) → s < length n.inputs → slice_index held.last.items s ≤ e → (l : ℕ) → l < LANES → has (slice_index cone.words.items s) l ≡ seen (fault_in held l) (Stem s) (has (slice_index good s) l)
  pub left : (s : ℕ) → e < slice_index held.last.items s → slice_index cone.words.items s ≡ slice_index good s
  pub rest : (s : ℕ) → length n.inputs ≤ s → slice_index cone.words.items s ≡ slice_index good s
  pub quiet : (k : ℕ) (gate : Gate) → slice_get n.gates k ≡ Some gate → is_marked cone.marked.items k ≡ false → ReadsGood good cone.words.items gate
  pub sites : (k d : ℕ) → k < length n.gates → d < e → is_marked cone.marked.items k ≡ false → site_at n held.faults.items d ≢ length n.inputs + k
  pub changed : AreChanged good cone

-- A signal has its word, and where that differs its readers are marked.
pub record IsPut (good readers : List ℕ) (s word : ℕ) (before after : Cone) : Type 0 where
  pub writes : slice_index before.words.items s ≡ slice_index good s → slice_index after.words.items s ≡ word
  pub others : (t : ℕ) → t ≢ s → slice_index after.words.items t ≡ slice_index before.words.items t
  pub kept : (j : ℕ) → is_marked before.marked.items j ≡ true → is_marked after.marked.items j ≡ true
  pub only : (j : ℕ) → is_marked after.marked.items j ≡ true → is_marked before.marked.items j ≡ false → IsAmong readers j
  pub spread : (word ≡ slice_index good s) ⊎ ((is_marked after.changed.items s ≡ true) × ((k : ℕ) → k < length readers → is_marked after.marked.items (slice_index readers k) ≡ true))
  pub unchanged : (t : ℕ) → is_marked after.changed.items t ≡ false → is_marked before.changed.items t ≡ false
  pub changed : (t : ℕ) → is_marked after.changed.items t ≡ true → is_marked before.changed.items t ≡ false → t ≡ s

-- each list has as many elements as before, and the polynomials are the same
abbrev pub IsAsLong : Cone → Cone → Type 0
IsAsLong before after = (length after.words.items ≡ length before.words.items) × (length after.seen.items ≡ length before.seen.items) × (length after.marked.items ≡ length before.marked.items) × (length after.changed.items ≡ length before.changed.items) × (after.polynomials ≡ before.polynomials)

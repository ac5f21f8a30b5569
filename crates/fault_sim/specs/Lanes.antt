-- Words of lanes, each with the values of a run of its own: a word is the set of the lanes that show 1. For private contracts alone.
use Rattle.std.specs.Prelude.{◌≡◌, ◌≢◌, ◌↔◌, ℕ, zero, suc, ◌+◌, ◌<◌, ◌≤◌, Bool, true, false, not, ◌&&◌, ◌||◌, Option, Some, None, List, length, slice_get, slice_index}
use Rattle.std.specs.Option.{MatchOption}
use Rattle.ae_base.specs.Cube.{Product}
use Rattle.ae_base.specs.Mask.{Set, differ, has}
use Rattle.ae_net.specs.declared.net.Gate.{Gate}
use Rattle.ae_net.specs.declared.net.Place.TheVariants.{Stem, Pin, Port}
use Rattle.ae_net.specs.declared.net.Fault.{Fault}
use Rattle.ae_net.specs.Network.{Network, signals}
use Rattle.ae_net.specs.Out.{Differs, out}
use Rattle.fault_sim.specs.declared.words.TheConstants.{LANES}
use Rattle.ae_net.specs.Run.{IsRun, same_place, seen, value_of}

-- all numbers below n pass the test
abbrev pub each_below : ℕ → (ℕ → Bool) → Bool
each_below zero p = true
each_below (suc n) p = each_below n p && p n

-- the literals of a row at position k hold where the pin there sees v
abbrev pub allows : Product → ℕ → Bool → Bool
allows row k v = (not (has row.pos k) || v) && (not (has row.neg k) || not v)

-- what pin k sees in lane l
abbrev pub sees : List ℕ → ℕ → ℕ → Bool
sees seen l k = has (slice_index seen k) l

-- what port o shows with the fault of lane l and without differs there
abbrev pub port_differs : List ℕ → Option Fault → List ℕ → List ℕ → ℕ → ℕ → Bool
port_differs outputs fault good words l o = differ (seen fault (Port o) (has (slice_index words (slice_index outputs o)) l)) (has (slice_index good (slice_index outputs o)) l)

-- lane l of the words of the first m signals has their values in the run
abbrev pub HasRun : List Bool → ℕ → ℕ → List ℕ → Type 0
HasRun w l m words = (s : ℕ) → s < m → has (slice_index words s) l ≡ value_of w s

-- lane l has the run without a fault at the point
abbrev pub IsGood : Network → Set → ℕ → List ℕ → Type 0
IsGood n x l good = (w : List Bool) → IsRun n None x w → HasRun w l (signals n) good

-- each lane has the run with its fault wherever it has one without among the good words, of the first m signals
abbrev pub IsFaulty : Network → (ℕ → Option Fault) → List ℕ → ℕ → List ℕ → Type 0
IsFaulty n faults good m words = (l : ℕ) (x : Set) (w v : List Bool) → l < LANES → IsRun n None x w → IsRun n (faults l) x v → HasRun w l (signals n) good → HasRun v l m words

-- the fault, where there is one, is not at the gate in place i
abbrev pub IsElsewhere : Network → Option Fault → ℕ → Type 0
IsElsewhere n None i = Unit {0}
IsElsewhere n (Some fault) i = (same_place fault.place (Stem (length n.inputs + i)) ≡ false) × ((k : ℕ) → same_place fault.place (Pin i k) ≡ false)

-- no lane has its fault at the gate in place i
abbrev pub IsFree : Network → (ℕ → Option Fault) → ℕ → Type 0
IsFree n faults i = (l : ℕ) → l < LANES → IsElsewhere n (faults l) i

-- lane l of the word has the value of signal s with its fault wherever it has those of all signals before it
abbrev pub IsNext : Network → (ℕ → Option Fault) → List ℕ → ℕ → ℕ → Type 0
IsNext n faults words s word = (l : ℕ) (x : Set) (v : List Bool) → l < LANES → IsRun n (faults l) x v → HasRun v l s words → has word l ≡ value_of v s

-- no signal that the gate reads differs
abbrev pub ReadsGood : List ℕ → List ℕ → Gate → Type 0
ReadsGood good words gate = (k : ℕ) → k < length gate.pins → slice_index words (slice_index gate.pins k) ≡ slice_index good (slice_index gate.pins k)

-- each lane of a word tells whether the point in that lane detects the fault in it
abbrev pub Tells : Network → (ℕ → Option Fault) → List ℕ → ℕ → Type 0
Tells n faults good word = (l : ℕ) (x : Set) → l < LANES → IsGood n x l good → (has word l ≡ true) ↔ (out n (faults l) x ≢ out n None x)

-- the first of so many lanes that is set
abbrev pub IsFirstLane : ℕ → ℕ → Option ℕ → Type 0
IsFirstLane word count found = MatchOption found ((l : ℕ) → l < count → has word l ≡ false) (λ l. (l < count) × (has word l ≡ true) × ((k : ℕ) → k < l → has word k ≡ false))

-- ---- the search for the first point that detects each fault

-- vector i of the first b detects the fault, and no earlier one does; or none of them does
abbrev pub IsFirstBelow : Network → List Set → ℕ → Fault → Option ℕ → Type 0
IsFirstBelow n points b fault found = MatchOption found
    ((k : ℕ) → k < b → ¬ Differs n fault (slice_index points k))
    (λ i. (i < b) × Differs n fault (slice_index points i) × ((k : ℕ) → k < i → ¬ Differs n fault (slice_index points k)))

-- what is found of each fault of the list from place i on, and before place j, is its first point of the first b
abbrev pub AreFirstBelow : Network → List Set → ℕ → List Fault → List (Option ℕ) → ℕ → ℕ → Type 0
AreFirstBelow n points b list found i j = (k : ℕ) (fault : Fault) (first : Option ℕ) → i ≤ k → k < j → slice_get list k ≡ Some fault → slice_get found k ≡ Some first → IsFirstBelow n points b fault first

-- nothing is found of any fault
abbrev pub AreNone : List (Option ℕ) → Type 0
AreNone found = (k : ℕ) (first : Option ℕ) → slice_get found k ≡ Some first → first ≡ None

-- each lane has the run without a fault at the point
abbrev pub IsAlone : Network → Set → List ℕ → Type 0
IsAlone n x good = (l : ℕ) → l < LANES → IsGood n x l good

-- lane l has the run at point base + l
abbrev pub IsPass : Network → List Set → ℕ → ℕ → List ℕ → Type 0
IsPass n points base count good = (l : ℕ) → l < count → IsGood n (slice_index points (base + l)) l good

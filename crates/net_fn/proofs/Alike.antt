-- References for the signals of a network with a fault, of those without it.
use Rattle.std.proofs.Common.{◌≡◌, ℕ, ◌+◌, ◌<◌, Bool, true, false, inl, inr, List, length, refl, sym, ap, ◌∙◌, subst, arith}
use Rattle.std.specs.Prelude.{◌↔◌, Option, Some, None, slice_get, slice_index}
use Rattle.std.proofs.lemmas.Bool.{cases_eq, true≢false}
use Rattle.std.proofs.lemmas.Option.{slice_get-get_or}
use Rattle.ae_base.specs.Mask.{Set, has}
use Rattle.ae_base.proofs.Below.{where_below_agree}
use Rattle.ae_net.specs.declared.net.Gate.{Gate}
use Rattle.ae_net.specs.declared.net.Fault.{Fault}
use Rattle.ae_net.specs.declared.net.Place.TheVariants.{Pin}
use Rattle.ae_net.specs.Evaluation.{IsEvaluation, pin_seen}
use Rattle.ae_net.specs.Network.{Network, signals, gate_at}
use Rattle.ae_net.specs.Run.{seen, table}
use Rattle.fn_store.specs.declared.store.FnRef.{FnRef}
use Rattle.fn_store.specs.Functions.{Functions, Shows, Keeps, AgreeAt}
use Rattle.net_fn.proofs.References.{AreLive-kept, ShowEach-kept}
use Rattle.net_fn.specs.Refs.{ShowEach}
use Rattle.net_fn.specs.Seen.{SeeAlike}
use Rattle.net_fn.specs.Signals.{ShowSignals, truth_functions}

pub ShowSignals-kept : (s t : Functions) (n : Network) (fault : Option Fault) (k : ℕ) (refs : List FnRef) → Keeps s t → ShowSignals s n fault k refs → ShowSignals t n fault k refs
ShowSignals-kept s t n fault k refs keeps shown = record {
  count = shown.count;
  live = AreLive-kept s t refs keeps shown.live;
  shows = λ fs is. ShowEach-kept s t refs fs keeps (shown.shows fs is);
}

pub Keeps-itself : (s : Functions) → Keeps s s
Keeps-itself s = record { polarity = refl; live = λ r h. h; terms = λ r h. refl }

-- an input without a fault
pub input-shown : (s : Functions) (n : Network) (good : List FnRef) (j : ℕ) (r : FnRef) (gs : ℕ → Set → Bool) → IsEvaluation (truth_functions None) n gs → ShowSignals s n None (signals n) good → j < length n.inputs → slice_get good j ≡ Some r
    → Shows s r (λ x. has x j)
input-shown s n good j r gs is shown l at = subst (Shows s r) (is.inputs j l) ((shown.shows gs is).each j r at)

-- ---- pins that see the same

-- pin k sees the same exactly where the comparison says so
pub pin-compared : (s : Functions) (fault : Fault) (i : ℕ) (pins : List ℕ) (good refs : List FnRef) (k : ℕ) (q r v : FnRef) (same : Bool) → slice_get refs (slice_index pins k) ≡ Some q → slice_get good (slice_index pins k) ≡ Some r
    → ((f : Set → Bool) → Shows s q f → Shows s v (λ x. seen (Some fault) (Pin i k) (f x)))
    → ((f g : Set → Bool) → Shows s v f → Shows s r g → (same ≡ true) ↔ AgreeAt s.polarity.n f g)
    → (fs gs : ℕ → Set → Bool) → ShowEach s refs fs → ShowEach s good gs
    → (same ≡ true) ↔ AgreeAt s.polarity.n (λ x. seen (Some fault) (Pin i k) (fs (slice_index pins k) x)) (gs (slice_index pins k))
pin-compared s fault i pins good refs k q r v same q_at r_at pin_sees compared fs gs f g =
    compared (λ x. seen (Some fault) (Pin i k) (fs (slice_index pins k) x)) (gs (slice_index pins k))
    (pin_sees (fs (slice_index pins k)) (f.each (slice_index pins k) q q_at)) (g.each (slice_index pins k) r r_at)

-- the first k pins see the same
abbrev pub Alike : Functions → Fault → ℕ → List ℕ → List FnRef → List FnRef → ℕ → Type 0
Alike s fault i pins good refs k = (fs gs : ℕ → Set → Bool) → ShowEach s refs fs → ShowEach s good gs → (j : ℕ) → j < k → AgreeAt s.polarity.n (λ x. seen (Some fault) (Pin i j) (fs (slice_index pins j) x)) (gs (slice_index pins j))

pub Alike-step : (s : Functions) (fault : Fault) (i : ℕ) (pins : List ℕ) (good refs : List FnRef) (k : ℕ) → Alike s fault i pins good refs k
    → ((fs gs : ℕ → Set → Bool) → ShowEach s refs fs → ShowEach s good gs → AgreeAt s.polarity.n (λ x. seen (Some fault) (Pin i k) (fs (slice_index pins k) x)) (gs (slice_index pins k)))
    → Alike s fault i pins good refs (k + 1)
Alike-step s fault i pins good refs k before here fs gs f g j l = elim (cases_eq j k) [
  | inl at ↦ subst (λ m. AgreeAt s.polarity.n (λ x. seen (Some fault) (Pin i m) (fs (slice_index pins m) x)) (gs (slice_index pins m))) (sym at) (here fs gs f g)
  | inr ne ↦ before fs gs f g j (omega (arith, l, ne))
]

-- where pin k sees something else, not all pins see the same
pub apart-at : (n : ℕ) (fault : Fault) (i : ℕ) (pins : List ℕ) (fs gs : ℕ → Set → Bool) (k : ℕ) (same : Bool) → k < length pins → same ≡ false
    → (same ≡ true) ↔ AgreeAt n (λ x. seen (Some fault) (Pin i k) (fs (slice_index pins k) x)) (gs (slice_index pins k))
    → (false ≡ true) ↔ SeeAlike n fault i pins fs gs
apart-at n fault i pins fs gs k same l e compared = (λ never. absurd (true≢false (sym never)), λ alike. absurd (true≢false (sym (compared.1 (alike k l)) ∙ e)))

-- ---- gates

-- the function of the gate in place i under the fault, of those of the signals that its pins read
abbrev pub next_function : Fault → (ℕ → Set → Bool) → ℕ → Gate → Set → Bool
next_function fault fs i gate = (truth_functions (Some fault)).table gate (pin_seen (truth_functions (Some fault)) fs i gate)

-- where each pin sees the same, the table has with the fault the value that the gate has without it
gate-alike : (m : ℕ) (n : Network) (fault : Fault) (i : ℕ) (gate : Gate) (fs gs : ℕ → Set → Bool) → slice_get n.gates i ≡ Some gate → IsEvaluation (truth_functions None) n gs
    → SeeAlike m fault i gate.pins fs gs → AgreeAt m (gs (length n.inputs + i)) (next_function fault fs i gate)
gate-alike m n fault i gate fs gs at is alike x point = ap (λ f. f x) (is.gates i gate at) ∙ ap (table gate) (where_below_agree (length gate.pins) _ _ (λ k l. sym (alike k l x point)))

-- the gate in place k, which is next, by its place
pub at-next : (s : Functions) (n : Network) (fault : Fault) (i k : ℕ) (refs : List FnRef) (r : FnRef) (fs : ℕ → Set → Bool) → length refs ≡ length n.inputs + k → length refs ≡ length n.inputs + i
    → Shows s r (next_function fault fs k (gate_at n k)) → Shows s r (next_function fault fs i (gate_at n i))
at-next s n fault i k refs r fs here there shows =
    let same : k ≡ i = omega (arith, here, there) in
    subst (λ (m : ℕ). Shows s r (next_function fault fs m (gate_at n m))) same shows

-- where the pins of the next gate see the same, its function without the fault is that of its table
pub taken-over : (s : Functions) (n : Network) (fault : Fault) (i k : ℕ) (pins : List ℕ) (good refs : List FnRef) (r : FnRef) (same : Bool) (fs gs : ℕ → Set → Bool)
    → ((f g : Set → Bool) → AgreeAt s.polarity.n f g → Shows s r f → Shows s r g) → ShowSignals s n None (signals n) good → IsEvaluation (truth_functions None) n gs
    → pins ≡ (gate_at n k).pins → k < length n.gates → length refs ≡ length n.inputs + k → slice_get good (length refs) ≡ Some r
    → ((fs gs : ℕ → Set → Bool) → ShowEach s refs fs → ShowEach s good gs → (same ≡ true) ↔ SeeAlike s.polarity.n fault k pins fs gs) → same ≡ true
    → length refs ≡ length n.inputs + i → ShowEach s refs fs → Shows s r (next_function fault fs i (gate_at n i))
taken-over s n fault i k pins good refs r same fs gs agree shown is pins_are below here at compared e there each =
    let before = shown.shows gs is in
    let alike : SeeAlike s.polarity.n fault k (gate_at n k).pins fs gs = subst (λ (ps : List ℕ). SeeAlike s.polarity.n fault k ps fs gs) pins_are ((compared fs gs each before).0 e) in
    at-next s n fault i k refs r fs here there
    (agree (gs (length n.inputs + k)) (next_function fault fs k (gate_at n k))
    (gate-alike s.polarity.n n fault k (gate_at n k) fs gs (slice_get-get_or n.gates k _ below) is alike)
    (subst (λ (m : ℕ). Shows s r (gs m)) here (before.each (length refs) r at)))

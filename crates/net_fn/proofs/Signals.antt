-- References for the signals of a network.
use Rattle.std.proofs.Common.{rules, Bool, cond, ◌&&◌, subst, not, List, [], ◌∷◌, ◌++◌, length, ℕ, ◌+◌, ◌<◌, ◌∙◌, ◌≡◌, ap, refl, sym, arith}
use Rattle.std.specs.Prelude.{Option, slice_index, slice_get, Some}
use Rattle.std.proofs.lemmas.Bool.{lt-ltb}
use Rattle.std.proofs.lemmas.List.{length_push}
use Rattle.std.proofs.lemmas.Option.{slice_get_within}
use Rattle.ae_base.specs.Mask.{Set, has, where_below}
use Rattle.ae_base.specs.Cube.{Product}
use Rattle.ae_base.proofs.Sets.{has-where_below}
use Rattle.ae_net.specs.declared.net.Gate.{Gate}
use Rattle.ae_net.specs.declared.net.Fault.{Fault}
use Rattle.ae_net.specs.declared.net.Place.TheVariants.{Stem, Pin, Port}
use Rattle.ae_net.specs.Evaluation.{IsEvaluation, pin_seen}
use Rattle.ae_net.specs.Network.{Network}
use Rattle.ae_net.specs.Out.{out}
use Rattle.ae_net.specs.Run.{IsRun, seen, table, value_of, ports_of}
use Rattle.fn_store.specs.Cubes.{some_holds}
use Rattle.fn_store.specs.declared.store.FnRef.{FnRef}
use Rattle.fn_store.specs.Functions.{Functions, IsLive, Shows, Keeps}
use Rattle.net_fn.proofs.Kept.{Shows-same}
use Rattle.net_fn.specs.Refs.{ShowEach, ones_at}
use Rattle.net_fn.specs.Seen.{ShowSeen, place_of}
use Rattle.net_fn.specs.Signals.{ShowSignals, truth_functions}
use Rattle.net_fn.specs.declared.nets.Readers.{Readers}
use Rattle.net_fn.specs.declared.nets.Readers.TheVariants.{Pins, Ports}
use Rattle.net_fn.proofs.References.{Shown, AreLive-kept, AreLive-push, ShowEach-kept, ShowEach-push}

-- the functions of the inputs and of the first i gates are there
pub record Made (start now : Functions) (n : Network) (fault : Option Fault) (refs : List FnRef) (i : ℕ) : Type 0 where
  pub keeps : Keeps start now
  pub signals : ShowSignals now n fault (length n.inputs + i) refs

pub Seen-push : (s : Functions) (fault : Option Fault) (readers : Readers) (read : List ℕ) (signals refs : List FnRef) (q r : FnRef) (k : ℕ) → ShowSeen s fault readers read signals k refs → slice_get signals (slice_index read k) ≡ Some q
    → ((f : Set → Bool) → Shows s q f → Shows s r (λ x. seen fault (place_of readers k) (f x))) → IsLive s r → ShowSeen s fault readers read signals (k + 1) (refs ++ r ∷ [])
Seen-push s fault readers read signals refs q r k done at step live = record {
  count = length_push refs r ∙ ap (λ n. n + 1) done.count;
  live = AreLive-push s refs r done.live live;
  shows = λ fs each.
      ShowEach-push s refs r (λ k x. seen fault (place_of readers k) (fs (slice_index read k) x)) (done.shows fs each)
      (rw done.count (step (fs (slice_index read k)) (each.each (slice_index read k) q at)));
}

-- ---- inputs

pub inputs-shown : (start now : Functions) (n : Network) (fault : Option Fault) (refs : List FnRef) (k : ℕ) → k ≡ length n.inputs → Shown start now refs (λ j x. seen fault (Stem j) (has x j)) k → ShowSignals now n fault (length n.inputs) refs
inputs-shown start now n fault refs k all shown = record {
  count = shown.count ∙ all;
  live = record { each = λ j r at. (shown.shows.each j r at).live };
  shows = λ fs is. record {
    each = λ j r at. subst (Shows now r) (sym (is.inputs j (omega (arith, slice_get_within refs j r at, shown.count, all)))) (shown.shows.each j r at);
  };
}

-- ---- gates

-- the pins of the gate in place i that see 1 at a point
abbrev pub ones_of : Option Fault → (ℕ → Set → Bool) → ℕ → Gate → Set → Set
ones_of fault fs i gate x = where_below (length gate.pins) (λ k. pin_seen (truth_functions fault) fs i gate k x)

-- some row holds of what the pins see
pub rows-shown : (s t : Functions) (gate : Gate) (fault : Option Fault) (i : ℕ) (signals refs : List FnRef) (read : List ℕ) (rows : List Product) (gs : ℕ → Set → Bool) (r : FnRef) → read ≡ gate.pins → rows ≡ gate.rows
    → ShowSeen s fault (Pins i) read signals (length read) refs → ShowEach s signals gs
    → ((fs : ℕ → Set → Bool) → ShowEach s refs fs → Shows t r (λ x. some_holds rows (ones_at (length refs) fs x)))
    → Shows t r (λ x. some_holds gate.rows (ones_of fault gs i gate x))
rows-shown s t gate fault i signals refs read rows gs r read_is rows_is pins_see each shows =
    let pins : length refs ≡ length gate.pins = pins_see.count ∙ ap length read_is in
    let here = shows (λ k x. seen fault (Pin i k) (gs (slice_index read k) x)) (pins_see.shows gs each) in
    subst (λ (m : ℕ). Shows t r (λ x. some_holds gate.rows (ones_at m (λ k x. seen fault (Pin i k) (gs (slice_index gate.pins k) x)) x))) pins
    (subst (λ (ps : List ℕ). Shows t r (λ x. some_holds gate.rows (ones_at (length refs) (λ k x. seen fault (Pin i k) (gs (slice_index ps k) x)) x))) read_is
    (subst (λ (cs : List Product). Shows t r (λ x. some_holds cs (ones_at (length refs) (λ k x. seen fault (Pin i k) (gs (slice_index read k) x)) x))) rows_is here))

-- the table by whether some row holds
pub table-rows : (gate : Gate) (ones : Set) → cond gate.on (some_holds gate.rows ones) (not (some_holds gate.rows ones)) ≡ table gate ones
unfolding table
table-rows gate ones = refl

pub Made-start : (start now : Functions) (n : Network) (fault : Option Fault) (refs : List FnRef) → Keeps start now → ShowSignals now n fault (length n.inputs) refs → Made start now n fault refs 0
Made-start start now n fault refs keeps shown = record { keeps = keeps; signals = let z : length n.inputs + 0 ≡ length n.inputs = omega arith in rw z shown }

pub Made-push : (start now next : Functions) (n : Network) (fault : Option Fault) (refs : List FnRef) (i : ℕ) (gate : Gate) (q r : FnRef) → Made start now n fault refs i → slice_get n.gates i ≡ Some gate
    → ((fs : ℕ → Set → Bool) → ShowEach now refs fs → Shows next q ((truth_functions fault).table gate (pin_seen (truth_functions fault) fs i gate))) → Keeps now next
    → ((f : Set → Bool) → Shows next q f → Shows next r (λ x. seen fault (Stem (length refs)) (f x))) → IsLive next r → Made start next n fault (refs ++ r ∷ []) (i + 1)
Made-push start now next n fault refs i gate q r made at value keeps stem live = record {
  keeps = search rules;
  signals = record {
    count = length_push refs r ∙ omega (arith, made.signals.count);
    live = AreLive-push next refs r (AreLive-kept now next refs keeps made.signals.live) live;
    shows = λ fs is.
        let before = made.signals.shows fs is in
        let made_of = (truth_functions fault).table gate (pin_seen (truth_functions fault) fs i gate) in
        ShowEach-push next refs r fs (ShowEach-kept now next refs fs keeps before)
        (subst (λ (m : ℕ). Shows next r (fs m)) (sym made.signals.count)
        (subst (Shows next r) (sym (is.gates i gate at)) (subst (λ (m : ℕ). Shows next r (λ x. seen fault (Stem m) (made_of x))) made.signals.count (stem made_of (value fs before)))));
  };
}

-- the runs at all points are an evaluation over truth functions
pub runs-evaluation : (n : Network) (fault : Option Fault) (w : Set → List Bool) → ((x : Set) → IsRun n fault x (w x)) → IsEvaluation (truth_functions fault) n (λ s x. value_of (w x) s)
runs-evaluation n fault w runs = record { inputs = λ j l k x. (runs x).inputs j l k; gates = λ i gate at k x. (runs x).gates i gate at k }

-- ---- ports

pub ports-shown : (s : Functions) (n : Network) (fault : Option Fault) (k : ℕ) (outputs : List ℕ) (signals refs : List FnRef) (w : Set → List Bool) → ((x : Set) → IsRun n fault x (w x)) → ((x : Set) → out n fault x ≡ ports_of n fault (w x))
    → outputs ≡ n.outputs → ShowSignals s n fault k signals → ShowSeen s fault Ports outputs signals (length outputs) refs
    → ShowEach s refs (λ o x. has (out n fault x) o)
ports-shown s n fault k outputs signals refs w runs outs outputs_are shown ports = record {
  each = λ o r at.
      let l : o < length n.outputs = omega (arith, slice_get_within refs o r at, ports.count, ap length outputs_are) in
      Shows-same s r (λ x. seen fault (Port o) (value_of (w x) (slice_index outputs o))) (λ x. has (out n fault x) o)
      (λ x. ap (λ (ps : List ℕ). seen fault (Port o) (value_of (w x) (slice_index ps o))) outputs_are ∙ sym (port_at o x l))
      ((ports.shows (λ s x. value_of (w x) s) (shown.shows (λ s x. value_of (w x) s) (runs-evaluation n fault w runs))).each o r at);
}
  where
    port_at : (o : ℕ) (x : Set) → o < length n.outputs → has (out n fault x) o ≡ seen fault (Port o) (value_of (w x) (slice_index n.outputs o))
    port_at o x l = ap (λ ys. has ys o) (outs x) ∙ has-where_below (length n.outputs) (λ o. seen fault (Port o) (value_of (w x) (slice_index n.outputs o))) o ∙ ap (λ b. b && seen fault (Port o) (value_of (w x) (slice_index n.outputs o))) (lt-ltb o (length n.outputs) l)

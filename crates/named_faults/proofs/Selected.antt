-- Selections of a list, and what an undetectable fault has as evidence.
use Rattle.std.proofs.Common.{◌≡◌, ◌<◌, ◌≤◌, ◌+◌, ◌-◌, ◌++◌, ◌&&◌, ◌==◌, not, ℕ, suc, take, Bool, true, false, List, [], ◌∷◌, length, leb, get_or, map, refl, sym, ap, ap₂, ◌∙◌, subst, arith, inl, inr, ne_eqb}
use Rattle.std.specs.Prelude.{All, Contains, None, Option, Some, ◌↔◌}
use Rattle.std.specs.List.{AllByRecursion, AllZip}
use Rattle.std.proofs.lemmas.List.Elements.{All-append, All-from_recursion, All-get_or, All-map, Contains-get_or, recursion_from_All}
use Rattle.std.proofs.lemmas.List.{length-append, length-map}
use Rattle.ae_base.specs.Mask.{Set, both, first, has, inside}
use Rattle.ae_base.specs.Terms.{IsPoint}
use Rattle.ae_base.specs.declared.limits.TheConstants.{PINS}
use Rattle.ae_base.specs.Name.{is_name}
use Rattle.ae_base.proofs.Sets.{has-both, has-first, has-inside}
use Rattle.std.proofs.lemmas.Bool.{and_parts, le-leb, lt-ltb}
use Rattle.std.proofs.lemmas.Option.{slice_get-get_or}
use Rattle.std.proofs.lemmas.Slice.Zip.{all_zipped_more}
use Rattle.std.proofs.Math.Seq.{take-suc}
use Rattle.ae_net.specs.declared.net.Fault.{Fault}
use Rattle.ae_net.specs.Detects.{Detects}
use Rattle.ae_net.specs.Faults.{IsPlace, fault_list}
use Rattle.ae_net.specs.Blif.{signal_names}
use Rattle.ae_net.specs.Implements.{port_names}
use Rattle.ae_net.specs.Network.{Network, gate_at}
use Rattle.ae_net.specs.Run.{IsRun, Shows, seen}
use Rattle.ae_net.specs.declared.net.Place.{Place}
use Rattle.ae_net.specs.declared.net.Place.TheVariants.{Stem, Pin, Port}
use Rattle.ae_net.specs.Valid.{IsValid}
use Rattle.redundancy.specs.Evidence.{Tree, written}
use Rattle.redundancy.specs.Evidence.Tree.{leaf, split}
use Rattle.vec_text.specs.VectorFile.{is_place, is_shown}
use Rattle.vec_text.specs.declared.file.Shown.{Shown}
use Rattle.vec_text.specs.declared.file.Shown.TheVariants as shown
use Rattle.ae_base.specs.declared.step.Step.{Step}
use Rattle.named_faults.specs.Lines.{IsShown}
use Rattle.named_faults.specs.Within.{IsWithin}
use Rattle.named_faults.specs.Names.{named, place_name}
use Rattle.named_faults.specs.declared.names.NamedFault.{NamedFault}
use Rattle.test_gen.specs.Selection.{IsSelection}
use Rattle.test_gen.specs.Selection.IsSelection.{none, taken, left}
use Rattle.test_gen.specs.Undetectable.{IsUndetectable}

-- ---- selections

selected_all : {X : Type 0} (P : X → Type 0) (xs ys : List X) → IsSelection P xs ys → AllByRecursion P ys
selected_all P xs ys none = tt
selected_all P xs ys (taken holds rest) = (holds, selected_all P _ _ rest)
selected_all P xs ys (left other rest) = selected_all P _ _ rest

selected_from : {X : Type 0} (P Q : X → Type 0) (xs ys : List X) → IsSelection P xs ys → AllByRecursion Q xs → AllByRecursion Q ys
selected_from P Q xs ys none all = tt
selected_from P Q xs ys (taken holds rest) all = (all.0, selected_from P Q _ _ rest all.1)
selected_from P Q xs ys (left other rest) all = selected_from P Q _ _ rest all.1

-- ---- the faults that are listed

pub all_undetectable : (n : Network) (faults : List Fault) → IsSelection (IsUndetectable n) (fault_list n) faults → All (IsUndetectable n) faults
all_undetectable n faults is = All-from_recursion _ faults (selected_all (IsUndetectable n) (fault_list n) faults is)

pub all_places : (n : Network) (faults : List Fault) → ((fault : Fault) → Contains (fault_list n) fault → IsPlace n fault.place)
    → IsSelection (IsUndetectable n) (fault_list n) faults → All (λ fault. IsPlace n fault.place) faults
all_places n faults places is =
    All-from_recursion _ faults
    (selected_from (IsUndetectable n) (λ fault. IsPlace n fault.place) (fault_list n) faults is
    (recursion_from_All _ (fault_list n) (λ i d l. places (get_or (fault_list n) i d) (Contains-get_or (fault_list n) i d l))))

-- ---- points of the inputs are all that counts

-- the inputs that are 1
abbrev inputs_of : Network → Set → Set
inputs_of n x = both x (first (length n.inputs))

inputs_point : (n : Network) (x : Set) → IsPoint (length n.inputs) (inputs_of n x)
inputs_point n x =
    has-inside (inputs_of n x) (first (length n.inputs)) (λ j h. (and_parts _ _ (sym (has-both x (first (length n.inputs)) j) ∙ h)).1)

same_input : (n : Network) (x : Set) (j : ℕ) → j < length n.inputs → has x j ≡ has (inputs_of n x) j
same_input n x j l = sym (has-both x (first (length n.inputs)) j ∙ ap (λ b. has x j && b) (has-first (length n.inputs) j ∙ lt-ltb j (length n.inputs) l) ∙ with_true (has x j))
  where
    with_true : (b : Bool) → (b && true) ≡ b
    with_true true = refl
    with_true false = refl

shows_there : (n : Network) (fault : Option Fault) (x ys : Set) → Shows n fault x ys → Shows n fault (inputs_of n x) ys
shows_there n fault x ys shows = record {
  run = shows.run;
  is_run = record { all = shows.is_run.all; inputs = λ j l. shows.is_run.inputs j l ∙ ap (seen fault (Stem j)) (same_input n x j l); gates = shows.is_run.gates };
  ports = shows.ports;
}

detects_there : (n : Network) (fault : Fault) (x : Set) → Detects n fault x → Detects n fault (inputs_of n x)
detects_there n fault x d = record {
  good = d.good;
  shows_good = shows_there n None x d.good d.shows_good;
  faulty = d.faulty;
  shows_faulty = shows_there n (Some fault) x d.faulty d.shows_faulty;
  differ = d.differ;
}

-- so no point at all detects a fault that no point of the inputs does
pub nowhere : (n : Network) (fault : Fault) → IsUndetectable n fault → (x : Set) → ¬ Detects n fault x
nowhere n fault un x d = un (inputs_of n x) (inputs_point n x) (detects_there n fault x d)

-- ---- names

all_named : (n : Network) → IsValid n → All (λ name. is_name name ≡ true) (signal_names n)
all_named n valid =
    All-append (λ name. is_name name ≡ true) n.inputs (map (λ gate. gate.out) n.gates) valid.inputs_named
    (All-map (λ name. is_name name ≡ true) (λ gate. gate.out) n.gates (λ i d l. (valid.gates i (get_or n.gates i d) (slice_get-get_or n.gates i d l)).named))

ports_named : (n : Network) → IsValid n → All (λ name. is_name name ≡ true) (port_names n)
ports_named n valid =
    All-map (λ name. is_name name ≡ true) (λ s. (gate_at n (s - length n.inputs)).out) n.outputs (λ o d l.
    let g = get_or n.outputs o d - length n.inputs in
    let port = valid.ports o d l in
    (valid.gates g (gate_at n g) (slice_get-get_or n.gates g _ (omega (arith, port)))).named)

pub placed_valid : (n : Network) (p : Place) → IsValid n → IsWithin n p → is_place (place_name n p) ≡ true
placed_valid n (Stem s) valid within =
    All-get_or (λ name. is_name name ≡ true) (signal_names n) s [] (omega (arith, within, length-append n.inputs (map (λ gate. gate.out) n.gates), length-map n.gates (λ gate. gate.out))) (all_named n valid)
placed_valid n (Pin i k) valid within =
    rw ((valid.gates i (gate_at n i) (slice_get-get_or n.gates i _ within.0)).named, le-leb 1 (suc k) (omega arith), le-leb (suc k) PINS (omega (arith, within.1))) refl
placed_valid n (Port o) valid within =
    All-get_or (λ name. is_name name ≡ true) (port_names n) o [] (omega (arith, within, length-map n.outputs (λ s. (gate_at n (s - length n.inputs)).out))) (ports_named n valid)

-- a fault's name tells its site
pub named_place : (n : Network) (fault : Fault) (name : NamedFault) → name ≡ named n fault → name.place ≡ place_name n fault.place
unfolding named
named_place n fault name is = ap (λ f. f.place) is

-- ---- lines

pub shown_valid : (n : Network) (fault : Fault) (s : Shown) → IsShown n fault s → is_shown s ≡ true
shown_valid n fault (shown.Tree steps) is = by is.0 steps is.2
  where
    by : (tree : Tree) (steps : List Step) → steps ≡ written tree → not (length steps == 0) ≡ true
    by leaf steps e = ap not (ne_eqb (length steps) 0 (λ z. absurd (omega (arith, z, ap length e))))
    by (split a b) steps e = ap not (ne_eqb (length steps) 0 (λ z. absurd (omega (arith, z, ap length e))))
shown_valid n fault shown.Wide is = refl

-- one more line
pub zip_more : {A B : Type 0} (R : A → B → Type 0) (xs : List A) (k : ℕ) (d : A) (ys new : List B) (y : B) → k < length xs → AllZip R (take k xs) ys → R (get_or xs k d) y → new ≡ ys ++ y ∷ []
    → AllZip R (take (k + 1) xs) new
zip_more R xs k d ys new y l all here is =
    subst (λ t. AllZip R t new) (sym (ap (λ m. take m xs) (next k) ∙ take-suc xs k d l))
    (subst (AllZip R (take k xs ++ get_or xs k d ∷ [])) (sym is) (all_zipped_more R (take k xs) ys (get_or xs k d) y all here))
  where
    next : (m : ℕ) → m + 1 ≡ suc m
    next m = omega arith

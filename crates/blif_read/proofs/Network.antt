-- The network of gates that are placed.
use Rattle.std.proofs.Common.{◌≡◌, ℕ, zero, suc, ◌+◌, ◌-◌, ◌<◌, ◌≤◌, Bool, true, false, not, Some, List, [], ◌∷◌, ◌++◌, length, map, get_or, take, drop, All, refl, sym, ap, subst, ◌∙◌, arith, inl, inr, length-append, append_assoc, append-nil}
use Rattle.std.specs.Prelude.{slice_get}
use Rattle.std.specs.List.{find, list_all, AllByRecursion}
use Rattle.std.proofs.lemmas.Bool.{cases_Bool, cases_lt, cond-true, cond-false, and_parts, not-true}
use Rattle.std.proofs.lemmas.List.{length-map, length_push, length-take-le, map-append, same_lists, get_or_default, get_or-map, get_or_push, get_or_append_left, get_or-append_right, take_all, take-append-le, take-append-drop}
use Rattle.std.proofs.lemmas.List.Elements.{All-append, All-weaker, All-from_recursion}
use Rattle.std.proofs.lemmas.List.Folds.{list_any_none}
use Rattle.ae_base.specs.Name.{is_name}
use Rattle.ae_base.specs.Twins.{is_among}
use Rattle.ae_base.specs.declared.limits.TheConstants.{NET_LINES, GATES}
use Rattle.ae_base.proofs.Apart.{distinct_append}
use Rattle.ae_base.proofs.Distinct.{each-append}
use Rattle.ae_lex.specs.Heads.{Word}
use Rattle.ae_net.specs.declared.net.Gate.{Gate}
use Rattle.ae_net.specs.Implements.{port_names}
use Rattle.ae_net.specs.Network.{gate_at}
use Rattle.ae_net.specs.Named.{NamedGate, place_of, net_of}
use Rattle.ae_net.specs.Named.{gate_of as gate_in}
use Rattle.ae_net.specs.Valid.{IsDistinct, IsRowOf, IsGate, IsValid}
use Rattle.blif_read.specs.declared.fault.NetLimits.{NetLimits}
use Rattle.blif_read.specs.declared.fault.NetLimits.TheVariants.{Source, Written}
use Rattle.blif_read.specs.Words.{most_lines, is_name_under}
use Rattle.blif_read.specs.Limits.{KeepsLimits}
use Rattle.blif_read.specs.Says.{outs, can_go, place}
use Rattle.blif_read.specs.SourceSays.{constant_0}
use Rattle.blif_read.proofs.Words.{name_under}
use Rattle.blif_read.proofs.Sound.{IsSound, distinct_push}
use Rattle.blif_read.proofs.Gates.{IsFit}
use Rattle.blif_read.proofs.Steps.{among_both}
use Rattle.blif_read.proofs.Tables.{place_of-append}
use Rattle.blif_read.proofs.Places.{place_at, place_bound}
use Rattle.blif_read.proofs.Link.{blank, cases_Option, place_some, place_none}
use Rattle.blif_read.proofs.WrittenNames.{AreFresh}

-- ---- gates that are placed

-- a gate that can be one of a network with these inputs
abbrev pub IsFine : NetLimits → List Word → NamedGate → Type 0
IsFine limits i g = IsFit limits g × (is_among g.out i ≡ false)

-- the pins of the gate at a place are inputs and gates before it
abbrev IsReady : List Word → List NamedGate → ℕ → Type 0
IsReady i gs k = list_all (λ pin. is_among pin (i ++ outs (take k gs))) (get_or gs k blank).pins ≡ true

pub record ArePlaced (limits : NetLimits) (i : List Word) (gs : List NamedGate) : Type 0 where
  pub apart : IsDistinct (outs gs)
  pub fine : AllByRecursion (IsFine limits i) gs
  pub ready : (k : ℕ) → k < length gs → IsReady i gs k

placed_push : (limits : NetLimits) (i : List Word) (gs : List NamedGate) (g : NamedGate) → ArePlaced limits i gs → IsFine limits i g → can_go i gs g ≡ true → ArePlaced limits i (gs ++ g ∷ [])
placed_push limits i gs g h fine go =
    let p = and_parts (not (is_among g.out (outs gs))) (list_all (λ pin. is_among pin (i ++ outs gs)) g.pins) go in
    record {
      apart = subst (λ (ws : List Word). IsDistinct ws) (sym (map-append (λ (u : NamedGate). u.out) gs (g ∷ []))) (distinct_push (outs gs) g.out h.apart (not-true _ p.0));
      fine = each-append (IsFine limits i) gs (g ∷ []) h.fine (fine, tt);
      ready = λ k lt. elim (cases_lt k (length gs)) [
        | inl before ↦
            ap (λ (us : List NamedGate). list_all (λ pin. is_among pin (i ++ outs us)) (get_or (gs ++ g ∷ []) k blank).pins) (take-append-le k gs (g ∷ []) (omega arith))
            ∙ ap (λ (u : NamedGate). list_all (λ pin. is_among pin (i ++ outs (take k gs))) u.pins) (get_or_append_left gs (g ∷ []) blank k before) ∙ h.ready k before
        | inr last ↦
            ap (λ (us : List NamedGate). list_all (λ pin. is_among pin (i ++ outs us)) (get_or (gs ++ g ∷ []) k blank).pins) (take-append-le k gs (g ∷ []) (omega (arith, lt, length_push gs g)) ∙ take_all k gs last)
            ∙ ap (λ (u : NamedGate). list_all (λ pin. is_among pin (i ++ outs gs)) u.pins) (get_or_push gs g blank k (omega (arith, lt, last, length_push gs g))) ∙ p.1
      ];
    }

found_is : (Q : NamedGate → Type 0) (p : NamedGate → Bool) (cs : List NamedGate) (g : NamedGate) → AllByRecursion Q cs → find p cs ≡ Some g → (p g ≡ true) × Q g
found_is Q p [] g h e = absurd cc
found_is Q p (c ∷ cs) g h e = elim (cases_Bool (p c)) [
  | inl t ↦ (let same : Some c ≡ Some g = sym (cond-true (p c) (Some c) (find p cs) t) ∙ e in let is : c ≡ g = cc in subst (λ (u : NamedGate). (p u ≡ true) × Q u) is (t, h.0))
  | inr f ↦ found_is Q p cs g h.1 (sym (cond-false (p c) (Some c) (find p cs) f) ∙ e)
]

pub are_placed : (limits : NetLimits) (i : List Word) (cs : List NamedGate) (n : ℕ) (done : List NamedGate) → AllByRecursion (IsFine limits i) cs → ArePlaced limits i done → ArePlaced limits i (place i cs n done) × (length (place i cs n done) ≤ length done + n)
unfolding place
are_placed limits i cs zero done fine h = (h, omega arith)
are_placed limits i cs (suc n) done fine h = elim (cases_Option (find (can_go i done) cs)) [
  | inl e ↦ rw (place_none i cs n done e) (h, omega arith)
  | inr (g, e) ↦
      (let one = found_is (IsFine limits i) (can_go i done) cs g fine e in
      let rest = are_placed limits i cs n (done ++ g ∷ []) fine (placed_push limits i done g h one.1 one.0) in
      rw (place_some i cs n done g e) (rest.0, omega (arith, rest.1, length_push done g)))
]

-- what holds of each gate holds of each placed one
pub placed_each : (Q : NamedGate → Type 0) (i : List Word) (cs : List NamedGate) (n : ℕ) (done : List NamedGate) → AllByRecursion Q cs → AllByRecursion Q done → AllByRecursion Q (place i cs n done)
unfolding place
placed_each Q i cs zero done h k = k
placed_each Q i cs (suc n) done h k = elim (cases_Option (find (can_go i done) cs)) [
  | inl e ↦ rw (place_none i cs n done e) k
  | inr (g, e) ↦ rw (place_some i cs n done g e) (placed_each Q i cs n (done ++ g ∷ []) h (each-append Q done (g ∷ []) k ((found_is Q (can_go i done) cs g h e).1, tt)))
]

-- ---- constants after them

pub outs_with : (gs : List NamedGate) (ws : List Word) → outs (gs ++ map constant_0 ws) ≡ outs gs ++ ws
outs_with gs ws = map-append (λ (g : NamedGate). g.out) gs (map constant_0 ws) ∙ ap (λ (vs : List Word). outs gs ++ vs) (each ws)
  where
    each : (ws : List Word) → outs (map constant_0 ws) ≡ ws
    each [] = refl
    each (w ∷ ws) = ap (λ (vs : List Word). w ∷ vs) (each ws)

-- a name of a constant: short enough, and that of no input
abbrev pub IsIdle : NetLimits → List Word → Word → Type 0
IsIdle limits i w = (is_name_under limits w ≡ true) × (is_among w i ≡ false)

pub zeros_placed : (limits : NetLimits) (i : List Word) (gs : List NamedGate) (ws : List Word) → ArePlaced limits i gs → AllByRecursion (IsIdle limits i) ws → AreFresh (outs gs) ws → ArePlaced limits i (gs ++ map constant_0 ws)
zeros_placed limits i gs [] h k f = subst (ArePlaced limits i) (sym (append-nil gs)) h
zeros_placed limits i gs (w ∷ ws) h k f =
    let fit : IsFit limits (constant_0 w) = record { few = omega arith; out = k.0.0; rows = tt; off_row = λ e. absurd cc } in
    let go : can_go i gs (constant_0 w) ≡ true = rw f.0 refl in
    let rest = subst (λ (had : List Word). AreFresh had ws) (sym (outs_with gs (w ∷ []))) f.1 in
    subst (ArePlaced limits i) (append_assoc gs (constant_0 w ∷ []) (map constant_0 ws)) (zeros_placed limits i (gs ++ constant_0 w ∷ []) ws (placed_push limits i gs (constant_0 w) h (fit, k.0.1) go) k.1 rest)

-- ---- the places of pins and outputs

-- of names that are among the first the places are among the first
pins_earlier : (front back pins : List Word) → list_all (λ pin. is_among pin front) pins ≡ true → AllByRecursion (λ s. s < length front) (map (λ pin. place_of pin (front ++ back)) pins)
pins_earlier front back [] h = tt
pins_earlier front back (pin ∷ pins) h =
    let p = and_parts (is_among pin front) (list_all (λ w. is_among w front) pins) h in
    (omega (arith, place_of-append pin front back ∙ cond-true _ _ _ p.0, place_bound pin front p.0), pins_earlier front back pins p.1)

-- a gate's name among the inputs and the gates
port_at : (i os : List Word) (w : Word) → is_among w i ≡ false → is_among w os ≡ true → (length i ≤ place_of w (i ++ os)) × (place_of w (i ++ os) < length i + length os) × (get_or (i ++ os) (place_of w (i ++ os)) [] ≡ w)
port_at i os w f t =
    let at : place_of w (i ++ os) ≡ length i + place_of w os = place_of-append w i os ∙ cond-false _ _ _ f in
    (omega (arith, at), omega (arith, at, place_bound w os t), (place_at w (i ++ os) (among_both w i os ∙ rw (f, t) refl)).1)

-- ---- the network

pub few_lines : (limits : NetLimits) → most_lines limits ≤ NET_LINES
few_lines Source = omega arith
few_lines Written = omega arith

-- what is known of the inputs, the outputs and the gates of a network
pub record AreParts (limits : NetLimits) (i o d : List Word) (gs : List NamedGate) : Type 0 where
  pub in_part : Bool
  pub sound : IsSound limits in_part i o d
  pub placed : ArePlaced limits i gs
  pub few : length gs ≤ GATES
  pub shown : AllByRecursion (λ w. is_among w (outs gs) ≡ true) o
  pub some_input : 0 < length i
  pub some_output : 0 < length o

gate_valid : (limits : NetLimits) (i : List Word) (gs : List NamedGate) (k : ℕ) → ArePlaced limits i gs → k < length gs → IsGate (length i + k) (gate_in (i ++ outs gs) (get_or gs k blank))
gate_valid limits i gs k h lt =
    let g = get_or gs k blank in
    let fit = (All-from_recursion (IsFine limits i) gs h.fine k blank lt).0 in
    let front = i ++ outs (take k gs) in
    let names : front ++ outs (drop k gs) ≡ i ++ outs gs =
    append_assoc i (outs (take k gs)) (outs (drop k gs)) ∙ ap (λ (ws : List Word). i ++ ws) (sym (map-append (λ (u : NamedGate). u.out) (take k gs) (drop k gs)) ∙ ap outs (take-append-drop k gs)) in
    let long : length front ≡ length i + k = omega (arith, length-append i (outs (take k gs)), length-map (take k gs) (λ (u : NamedGate). u.out), length-take-le k gs (omega arith)) in
    let early : AllByRecursion (λ s. s < length i + k) (map (λ pin. place_of pin (i ++ outs gs)) g.pins) =
    subst (λ n. AllByRecursion (λ s. s < n) (map (λ pin. place_of pin (i ++ outs gs)) g.pins)) long
    (subst (λ (ws : List Word). AllByRecursion (λ s. s < length front) (map (λ pin. place_of pin ws) g.pins)) names (pins_earlier front (outs (drop k gs)) g.pins (h.ready k lt))) in
    let size : length (map (λ pin. place_of pin (i ++ outs gs)) g.pins) ≡ length g.pins = length-map g.pins (λ pin. place_of pin (i ++ outs gs)) in
    record {
      earlier = All-from_recursion (λ s. s < length i + k) _ early;
      named = name_under limits g.out fit.out;
      few_pins = omega (arith, fit.few, size);
      rows = All-from_recursion (IsRowOf (length (map (λ pin. place_of pin (i ++ outs gs)) g.pins))) g.rows (subst (λ n. AllByRecursion (IsRowOf n) g.rows) (sym size) fit.rows);
      off_row = fit.off_row;
    }

get_map : {X Y : Type 0} (f : X → Y) (xs : List X) (k : ℕ) (d : X) (y : Y) → slice_get (map f xs) k ≡ Some y → (k < length xs) × (y ≡ f (get_or xs k d))
get_map f [] k d y h = absurd cc
get_map f (x ∷ xs) zero d y h = (let e : f x ≡ y = cc in (omega arith, sym e))
get_map f (x ∷ xs) (suc k) d y h = (let r = get_map f xs k d y h in (omega (arith, r.0), r.1))

out_of_gates : (names : List Word) (gs : List NamedGate) → map (λ gate. gate.out) (map (gate_in names) gs) ≡ outs gs
out_of_gates names [] = refl
out_of_gates names (g ∷ gs) = ap (λ (ws : List Word). g.out ∷ ws) (out_of_gates names gs)

-- what holds of each gate's name
outs_each : (Q : Word → Type 0) (R : NamedGate → Type 0) → ((g : NamedGate) → R g → Q g.out) → (gs : List NamedGate) → AllByRecursion R gs → All Q (outs gs)
outs_each Q R f gs h = λ k d lt.
    let in' : k < length gs = omega (arith, length-map gs (λ (g : NamedGate). g.out)) in
    subst Q (sym (get_or-map (λ (g : NamedGate). g.out) gs k blank d in')) (f (get_or gs k blank) (All-from_recursion R gs h k blank in'))

-- the ports have the names of the outputs
pub ports_named : (limits : NetLimits) (model : Word) (i o d : List Word) (gs : List NamedGate) → AreParts limits i o d gs → port_names (net_of model i o gs) ≡ o
unfolding net_of
ports_named limits model i o d gs h =
    let names = i ++ outs gs in
    let n = net_of model i o gs in
    let ports : length (map (λ w. place_of w names) o) ≡ length o = length-map o (λ w. place_of w names) in
    same_lists _ _ (length-map n.outputs (λ s. (gate_at n (s - length i)).out) ∙ ports) (λ k d lt.
    let in' : k < length o = omega (arith, length-map n.outputs (λ s. (gate_at n (s - length i)).out), ports) in
    let w = get_or o k [] in
    let p = port_at i (outs gs) w (h.sound.outputs_new k [] in') (All-from_recursion (λ v. is_among v (outs gs) ≡ true) o h.shown k [] in') in
    let s = place_of w names in
    let at : get_or n.outputs k 0 ≡ s = get_or-map (λ v. place_of v names) o k [] 0 in' in
    let gate : s - length i < length gs = omega (arith, p.0, p.1, length-map gs (λ (g : NamedGate). g.out)) in
    get_or-map (λ s. (gate_at n (s - length i)).out) n.outputs k 0 d (omega (arith, ports))
    ∙ ap (λ s. (gate_at n (s - length i)).out) at
    ∙ ap (λ (g : Gate). g.out) (get_or-map (gate_in names) gs (s - length i) blank _ gate)
    ∙ sym (get_or-map (λ (g : NamedGate). g.out) gs (s - length i) blank [] gate)
    ∙ sym (get_or-append_right i (outs gs) (length i) s [] refl p.0) ∙ p.2 ∙ get_or_default o k [] d in')

pub is_valid : (limits : NetLimits) (model : Word) (i o d : List Word) (gs : List NamedGate) → is_name model ≡ true → AreParts limits i o d gs → IsValid (net_of model i o gs)
unfolding net_of
is_valid limits model i o d gs m h =
    let names = i ++ outs gs in
    let port : Word → ℕ = λ w. place_of w names in
    let few = few_lines limits in
    let total : length (outs gs) ≡ length gs = length-map gs (λ (g : NamedGate). g.out) in
    let size : length (map (gate_in names) gs) ≡ length gs = length-map gs (gate_in names) in
    let ports : length (map port o) ≡ length o = length-map o port in
    let port_of = λ (k : ℕ) (lt : k < length o). port_at i (outs gs) (get_or o k []) (h.sound.outputs_new k [] lt) (All-from_recursion (λ w. is_among w (outs gs) ≡ true) o h.shown k [] lt) in
    record {
      model_named = m;
      inputs_named = All-weaker (λ w. is_name_under limits w ≡ true) (λ w. is_name w ≡ true) (name_under limits) i h.sound.inputs.named;
      some_input = h.some_input;
      few_inputs = omega (arith, h.sound.inputs.few, few);
      names = subst (λ (ws : List Word). IsDistinct (i ++ ws)) (sym (out_of_gates names gs))
          (distinct_append i (outs gs) h.sound.inputs.apart h.placed.apart (list_any_none (λ w. is_among w i) (outs gs) (outs_each (λ w. is_among w i ≡ false) (IsFine limits i) (λ g f. f.1) gs h.placed.fine)));
      few_gates = omega (arith, size, h.few);
      gates = λ k gate at. let got = get_map (gate_in names) gs k blank gate at in subst (IsGate (length i + k)) (sym got.1) (gate_valid limits i gs k h.placed got.0);
      some_output = omega (arith, ports, h.some_output);
      few_outputs = omega (arith, ports, h.sound.outputs.few, few);
      ports = λ k d lt.
          let in' : k < length o = omega (arith, ports) in
          let e : get_or (map port o) k d ≡ port (get_or o k []) = get_or-map port o k [] d in' in
          let p = port_of k in' in
          (omega (arith, e, p.0), omega (arith, e, p.1, size, total));
      other_ports = λ a b d lt in'.
          let in-b : b < length o = omega (arith, ports) in
          let in-a : a < length o = omega arith in
          λ e. h.sound.outputs.apart a b [] lt in-b
          (sym (port_of a in-a).2 ∙ ap (λ s. get_or names s []) (sym (get_or-map port o a [] d in-a) ∙ e ∙ get_or-map port o b [] d in-b) ∙ (port_of b in-b).2);
    }

pub within : (limits : NetLimits) (model : Word) (i o d : List Word) (gs : List NamedGate) → AreParts limits i o d gs → KeepsLimits limits (net_of model i o gs)
unfolding net_of
within limits model i o d gs h =
    let names = i ++ outs gs in
    let Q : Word → Type 0 = λ w. is_name_under limits w ≡ true in
    record {
      few_inputs = h.sound.inputs.few;
      few_outputs = omega (arith, length-map o (λ w. place_of w names), h.sound.outputs.few);
      named = subst (λ (ws : List Word). All Q (i ++ ws)) (sym (out_of_gates names gs)) (All-append Q i (outs gs) h.sound.inputs.named (outs_each Q (IsFine limits i) (λ g f. f.0.out) gs h.placed.fine));
    }

-- The text of a network says the network.
use Rattle.std.proofs.Common.{◌≡◌, ℕ, suc, ◌+◌, ◌<◌, ◌≤◌, true, false, not, ◌&&◌, None, Ok, List, [], ◌∷◌, ◌++◌, length, map, drop, codes, get_or, refl, sym, ap, ap₂, subst, ◌∙◌, arith}
use Rattle.std.specs.Prelude.{All, filter}
use Rattle.std.specs.List.{flat_map, AllByRecursion}
use Rattle.std.proofs.lemmas.List.{append_assoc, append-nil, length-append, length-map, get_or_append_left}
use Rattle.std.proofs.lemmas.List.Elements.{recursion_from_All}
use Rattle.ae_base.specs.Name.{is_name}
use Rattle.ae_base.proofs.Distinct.{each-append, each_always}
use Rattle.ae_lex.specs.Words.{last_line, word_lines}
use Rattle.ae_lex.specs.Written.{numbered}
use Rattle.ae_lex.specs.declared.text.Style.TheVariants.{Blif}
use Rattle.ae_lex.proofs.Written.{lines_written}
use Rattle.ae_net.specs.declared.net.Gate.{Gate}
use Rattle.ae_net.specs.Network.{Network}
use Rattle.ae_net.specs.Valid.{IsValid, IsDistinct}
use Rattle.ae_net.specs.Blif.{signal_names, name_of, gate_lines, head_lines, net_lines, blif_text}
use Rattle.blif_read.specs.declared.fault.NetLimits.TheVariants.{Written}
use Rattle.ae_base.specs.Twins.{is_among}
use Rattle.blif_read.specs.Limits.{KeepsLimits}
use Rattle.blif_read.specs.declared.fault.BlifFault.TheVariants as fault
use Rattle.ae_lex.specs.First.{first_of, first_fault}
use Rattle.ae_lex.specs.Heads.{heads}
use Rattle.ae_lex.specs.Reads.{words_of}
use Rattle.blif_read.proofs.Steps.{words_more}
use Rattle.ae_net.specs.Named.{gate_of, net_of, place_of}
use Rattle.blif_read.specs.Says.{some_unknown, inputs_of, outputs_of, gates_of, declared_faults, faults, model_says, blif_says, undefined_pin, undefined_output, placed, unplaced}
use Rattle.blif_read.specs.Words.{gate_name, pin_names}
use Rattle.blif_read.specs.Build.{lines_say}
use Rattle.blif_read.proofs.Whole.{no_line_fault}
use Rattle.blif_read.proofs.Places.{AllBelow}
use Rattle.blif_read.proofs.WrittenNames.{AreFresh, not_among, fresh, fresh_split, names_apart, places_back, signals_apart, each_among}
use Rattle.blif_read.proofs.WrittenPlacing.{placed_in_order}
use Rattle.blif_read.proofs.WrittenLines.{AreFine, fine_lines, Stands, declared_fine, gate_name-snoc, pin_names-snoc, where_no, whole}
use Rattle.blif_read.proofs.WrittenStatements.{end_lines, any_gates, gates_read}
use Rattle.blif_read.proofs.WrittenPlain.{IsFit, net_plain}
use Rattle.blif_read.proofs.WrittenGates.{AreValid, valid_gates, AreNames, all_named, none_unknown, gates_fit, gates_known, named, in_order, outs_named, gates_back}
use Rattle.blif_read.proofs.WrittenFine.{gate_words, stands_gates, gates_fine}

-- ---- what is known of a network that is written

pub record IsKnown (n : Network) : Type 0 where
  pub apart : IsDistinct (signal_names n)
  pub size : length (signal_names n) ≡ length n.inputs + length n.gates
  pub inputs : AreNames n.inputs
  pub gates : AreValid (length n.inputs) n.gates
  pub fit : AllByRecursion (IsFit (signal_names n)) n.gates
  pub outputs : AllBelow (length (signal_names n)) n.outputs
  pub output_names : AreNames (map (name_of (signal_names n)) n.outputs)
  pub output_apart : AreFresh [] (map (name_of (signal_names n)) n.outputs)
  pub output_others : AllByRecursion (λ w. is_among w n.inputs ≡ false) (map (name_of (signal_names n)) n.outputs)
  pub input_apart : AreFresh [] n.inputs
  pub gate_apart : AreFresh n.inputs (map (λ gate. gate.out) n.gates)

named_outs : (s : ℕ) (gates : List Gate) → AreValid s gates → AreNames (map (λ gate. gate.out) gates)
named_outs s [] h = tt
named_outs s (gate ∷ gates) h = (h.0.named, named_outs (suc s) gates h.1)

-- the signal of a gate, not of an input
abbrev IsInner : ℕ → ℕ → ℕ → Type 0
IsInner m n s = (m ≤ s) × (s < n)

-- the name of a gate's signal is no input's
no_input : (inputs outs : List (List ℕ)) (s : ℕ) → IsDistinct (inputs ++ outs) → IsInner (length inputs) (length (inputs ++ outs)) s → is_among (get_or (inputs ++ outs) s []) inputs ≡ false
no_input inputs outs s apart h =
    not_among (get_or (inputs ++ outs) s []) inputs (λ k lt e.
    let long : length (inputs ++ outs) ≡ length inputs + length outs = length-append inputs outs in
    names_apart (inputs ++ outs) k s apart (omega (arith, long, lt)) h.1 (λ same. omega (arith, same, lt, h.0)) (get_or_append_left inputs outs [] k lt ∙ e))

no_inputs : (inputs outs : List (List ℕ)) (ss : List ℕ) → IsDistinct (inputs ++ outs) → AllByRecursion (IsInner (length inputs) (length (inputs ++ outs))) ss → AllByRecursion (λ w. is_among w inputs ≡ false) (map (name_of (inputs ++ outs)) ss)
no_inputs inputs outs [] apart h = tt
no_inputs inputs outs (s ∷ ss) apart h = (no_input inputs outs s apart h.0, no_inputs inputs outs ss apart h.1)

inner_below : (m n : ℕ) (ss : List ℕ) → AllByRecursion (IsInner m n) ss → AllBelow n ss
inner_below m n [] h = tt
inner_below m n (s ∷ ss) h = (h.0.1, inner_below m n ss h.1)

known_of : (n : Network) → IsValid n → IsKnown n
known_of n v =
    let outs = map (λ gate. gate.out) n.gates in
    let names = signal_names n in
    let long : length names ≡ length n.inputs + length n.gates = omega (arith, length-append n.inputs outs, length-map n.gates (λ gate. gate.out)) in
    let gates = valid_gates (length n.inputs) n.gates v.gates in
    let inputs = recursion_from_All (λ w. is_name w ≡ true) n.inputs v.inputs_named in
    let named = each-append (λ w. is_name w ≡ true) n.inputs outs inputs (named_outs (length n.inputs) n.gates gates) in
    let ports : All (IsInner (length n.inputs) (length names)) n.outputs = λ k d lt. let p = v.ports k d lt in (p.0, omega (arith, p.1, long)) in
    let inner = recursion_from_All (IsInner (length n.inputs) (length names)) n.outputs ports in
    let outputs = inner_below (length n.inputs) (length names) n.outputs inner in
    let split = fresh_split [] n.inputs outs (fresh [] names v.names) in
    record {
      apart = v.names;
      size = long;
      inputs = inputs;
      gates = gates;
      fit = gates_fit names (length n.inputs) n.gates named gates (omega (arith, long));
      outputs = outputs;
      output_names = all_named names n.outputs named outputs;
      output_apart = fresh [] (map (name_of names) n.outputs) (signals_apart names n.outputs v.names (λ k d lt. (ports k d lt).1) v.other_ports);
      output_others = no_inputs n.inputs outs n.outputs v.names inner;
      input_apart = split.0;
      gate_apart = split.1;
    }

-- ---- no line is faulty

head_stands : (n : Network) → Stands (head_lines n) n.inputs (map (name_of (signal_names n)) n.outputs) []
unfolding gates_of
head_stands n = record { on = refl; inputs_are = append-nil n.inputs; outputs_are = append-nil (map (name_of (signal_names n)) n.outputs); driven_are = refl }

net_fine : (n : Network) → IsValid n → KeepsLimits Written n → IsKnown n → AreFine Written [] (net_lines n)
unfolding faults gates_of
net_fine n v l k =
    let names = signal_names n in
    let outs = map (name_of names) n.outputs in
    let short : length outs ≡ length n.outputs = length-map n.outputs (name_of names) in
    let apart = subst (λ (b : List (List ℕ)). AreFresh b (map (λ gate. gate.out) n.gates)) (sym (append-nil n.inputs)) k.gate_apart in (
      rw v.model_named refl,
      (
        declared_fine Written fault.TooManyInputs [] [] n.inputs k.inputs (each_always (λ w. is_among w [] ≡ false) (λ w. refl) n.inputs) k.input_apart (omega (arith, l.few_inputs)),
        (
          ap (λ (i : List (List ℕ)). first_of (declared_faults Written fault.TooManyOutputs i [] [] outs)) (append-nil n.inputs) ∙ declared_fine Written fault.TooManyOutputs n.inputs [] outs k.output_names k.output_others k.output_apart (omega (arith, short, l.few_outputs)),
          gates_fine names (head_lines n) n.inputs outs [] n.gates (head_stands n) k.fit (omega (arith, v.few_gates)) apart,
        ),
      ),
    )

-- ---- what the lines say together

at_end : (h : List ℕ) (before : List (List (List ℕ))) (ws : List (List ℕ)) → heads h (codes ".end" ∷ []) ≡ false → flat_map (drop 1) (filter (heads h) before) ≡ ws → flat_map (drop 1) (filter (heads h) (before ++ (codes ".end" ∷ []) ∷ [])) ≡ ws
at_end h before ws e is = words_more h before (codes ".end" ∷ []) ∙ rw (e, is) (append-nil ws)

words_numbered : (k : ℕ) (lines : List (List (List ℕ))) → words_of (numbered k lines) ≡ lines
words_numbered k [] = refl
words_numbered k (line ∷ lines) = ap (λ (ls : List (List (List ℕ))). line ∷ ls) (words_numbered (suc k) lines)

gates_head : (n : Network) → gates_of (net_lines n) ≡ gates_of (flat_map (gate_lines (signal_names n)) n.gates ++ end_lines)
unfolding gates_of
gates_head n = refl

-- a `.names` whose pins are known, or whose gate is among these
pins_known : (names : List (List ℕ)) (gates : List Gate) → AllByRecursion (λ gate. AllBelow (length names) gate.pins) gates → AllByRecursion (λ gate. some_unknown names (pin_names (gate_words names gate)) ≡ false) gates
pins_known names [] h = tt
pins_known names (gate ∷ gates) h = (ap (some_unknown names) (pin_names-snoc (map (name_of names) gate.pins) gate.out) ∙ none_unknown names gate.pins h.0, pins_known names gates h.1)

all_among : (names all : List (List ℕ)) (gates : List Gate) → AllByRecursion (λ w. is_among w all ≡ true) (map (λ gate. gate.out) gates) → AllByRecursion (λ gate. not (is_among (gate_name (gate_words names gate)) all) ≡ false) gates
all_among names all [] h = tt
all_among names all (gate ∷ gates) h = (ap (λ (w : List ℕ). not (is_among w all)) (gate_name-snoc (map (name_of names) gate.pins) gate.out) ∙ ap not h.0, all_among names all gates h.1)

none_shown : (names : List (List ℕ)) (gates : List Gate) → AllByRecursion (λ gate. (heads (codes ".outputs") (codes ".names" ∷ gate_words names gate) && some_unknown names (gate_words names gate)) ≡ false) gates
none_shown names [] = tt
none_shown names (gate ∷ gates) = (refl, none_shown names gates)

net_lines_say : (n : Network) (last : ℕ) → IsValid n → IsKnown n → lines_say last (numbered 1 (net_lines n)) ≡ Ok (net_of n.model n.inputs (map (name_of (signal_names n)) n.outputs) (map (named (signal_names n)) n.gates))
net_lines_say n last v k =
    let names = signal_names n in
    let outs = map (λ gate. gate.out) n.gates in
    let shown = map (name_of names) n.outputs in
    let gs = map (named names) n.gates in
    let lines = numbered 1 (net_lines n) in
    let st = stands_gates names (head_lines n) n.inputs shown [] n.gates (head_stands n) in
    let gates = flat_map (gate_lines names) n.gates in
    let split = λ (f : List (List (List ℕ)) → List (List ℕ)). ap f (sym (append_assoc (head_lines n) gates end_lines)) in
    let known = gates_known names (length n.inputs) n.gates k.gates (omega (arith, k.size)) in
    let some : 0 < length shown = omega (arith, length-map n.outputs (name_of names), v.some_output) in
    let outs_are = outs_named names n.gates in
    let read : gates_of (net_lines n) ≡ gs = gates_head n ∙ gates_read names (length n.inputs) n.gates k.gates in
    let inputs : inputs_of (net_lines n) ≡ n.inputs = split (λ ls. inputs_of ls) ∙ at_end (codes ".inputs") (head_lines n ++ gates) n.inputs refl st.inputs_are in
    let outputs : outputs_of (net_lines n) ≡ shown = split (λ ls. outputs_of ls) ∙ at_end (codes ".outputs") (head_lines n ++ gates) shown refl st.outputs_are in
    let order : placed n.inputs gs ≡ gs = placed_in_order n.inputs gs (in_order names n.inputs (length n.inputs) n.gates k.gates refl refl) (subst (λ (ws : List (List ℕ)). AreFresh n.inputs ws) (sym outs_are) k.gate_apart) in
    let reads : undefined_pin names lines ≡ None = where_no (codes ".names") (λ args. some_unknown names (pin_names args)) fault.Undefined 1 (net_lines n)
    (any_gates (codes ".names") (λ args. some_unknown names (pin_names args)) names n.gates refl refl (pins_known names n.gates known)) in
    let shows : undefined_output names lines ≡ None = where_no (codes ".outputs") (some_unknown names) fault.Undefined 1 (net_lines n)
    (rw (none_unknown names n.outputs k.outputs) (any_gates (codes ".outputs") (some_unknown names) names n.gates refl refl (none_shown names n.gates))) in
    let placed_all : unplaced outs lines ≡ None = where_no (codes ".names") (λ args. not (is_among (gate_name args) outs)) fault.Cycle 1 (net_lines n)
    (any_gates (codes ".names") (λ args. not (is_among (gate_name args) outs)) names n.gates refl refl (all_among names outs n.gates (each_among outs))) in
    whole last lines (net_lines n) n.model n.inputs shown outs gs (words_numbered 1 (net_lines n)) inputs outputs read outs_are refl v.some_input some reads shows order placed_all

-- ---- the network again

net_back : (n : Network) → IsKnown n → net_of n.model n.inputs (map (name_of (signal_names n)) n.outputs) (map (named (signal_names n)) n.gates) ≡ n
unfolding net_of
net_back n k =
    let names = signal_names n in
    let made : List ℕ → List Gate → Network = λ o g. record { model = n.model; inputs = n.inputs; outputs = o; gates = g } in
    ap (λ (ws : List (List ℕ)). made (map (λ o. place_of o (n.inputs ++ ws)) (map (name_of names) n.outputs)) (map (gate_of (n.inputs ++ ws)) (map (named names) n.gates))) (outs_named names n.gates)
    ∙ ap₂ made (places_back names n.outputs k.apart k.outputs) (gates_back names (length n.inputs) n.gates k.apart k.gates (omega (arith, k.size)))

pub says_again : (n : Network) → IsValid n → KeepsLimits Written n → blif_says Written (blif_text n) ≡ Ok n
unfolding blif_text blif_says
says_again n v l =
    let k = known_of n v in
    let names = signal_names n in
    let last = last_line (blif_text n) in
    let read : word_lines Blif (blif_text n) ≡ numbered 1 (net_lines n) = lines_written Blif (net_lines n) (net_plain n v.model_named k.inputs k.output_names k.fit) in
    let fine : first_fault (faults Written None) [] (numbered 1 (net_lines n)) ≡ None = fine_lines Written 1 [] (net_lines n) (net_fine n v l k) in
    ap (model_says Written last) read ∙ no_line_fault Written last (numbered 1 (net_lines n)) fine ∙ net_lines_say n last v k ∙ ap (λ (m : Network). Ok m) (net_back n k)

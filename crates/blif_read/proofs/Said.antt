-- What a text says, where it says a network, is valid and within the limits asked for.
use Rattle.std.proofs.Common.{◌≡◌, ℕ, ◌<◌, ◌≤◌, true, eqb, Option, Some, None, Ok, List, [], ◌++◌, length, map, get_or, refl, sym, ap, ap₂, subst, ◌∙◌, arith}
use Rattle.std.specs.Prelude.{unwrap_or, codes}
use Rattle.std.specs.Option.{option_or}
use Rattle.std.proofs.lemmas.Bool.{eqb-false}
use Rattle.std.proofs.lemmas.List.{length-map, get_or-map}
use Rattle.std.proofs.lemmas.List.Elements.{All-append}
use Rattle.std.proofs.lemmas.Option.{slice_get-get_or}
use Rattle.ae_base.specs.Name.{is_name}
use Rattle.ae_base.specs.declared.limits.TheConstants.{WRITTEN_LINES}
use Rattle.ae_lex.specs.First.{first_fault, at_line, judged}
use Rattle.ae_lex.specs.Heads.{Word}
use Rattle.ae_lex.specs.Reads.{words_of}
use Rattle.ae_lex.specs.Words.{WordLine, word_lines, last_line}
use Rattle.ae_lex.specs.declared.text.Style.TheVariants.{Blif}
use Rattle.ae_net.specs.declared.net.Gate.{Gate}
use Rattle.ae_net.specs.Implements.{port_names}
use Rattle.ae_net.specs.Named.{NamedGate, net_of}
use Rattle.ae_net.specs.NetSource.{FreesOutputs}
use Rattle.ae_net.specs.Network.{Network}
use Rattle.ae_net.specs.Valid.{IsValid}
use Rattle.blif_read.specs.declared.fault.BlifFault.{BlifFault}
use Rattle.blif_read.specs.declared.fault.BlifFault.TheVariants as fault
use Rattle.blif_read.specs.declared.fault.NetLimits.{NetLimits}
use Rattle.blif_read.specs.declared.fault.NetLimits.TheVariants.{Written}
use Rattle.blif_read.specs.declared.seen.Seen.{Seen}
use Rattle.blif_read.specs.Build.{AreFaultless, AreDrafted, ArePart, declared_in, drafts_of, lines_say}
use Rattle.blif_read.specs.Limits.{KeepsLimits}
use Rattle.blif_read.specs.Says.{Declared, inputs_of, outputs_of, model_of, outs, placed, faults, blif_says, undefined_pin, undefined_output, unplaced}
use Rattle.blif_read.specs.SourceSays.{declared_by, part_fault, part_net}
use Rattle.blif_read.specs.Seen as spec
use Rattle.blif_read.proofs.Models.{model_named}
use Rattle.blif_read.proofs.Network.{AreParts, ports_named, is_valid, within}
use Rattle.blif_read.proofs.Steps.{first_none}
use Rattle.blif_read.proofs.Whole.{gates, all_gates, gates_are, inputs_are, outputs_are, model_is, lines_say_is, model_few, placed_said, parts_are, part_few, part_fault_is}

-- ---- an answer that is no fault

pub no_fault : {X : Type 0} (f w : Option (ℕ × BlifFault)) (said got : X) → judged (option_or f w) said ≡ Ok got → (f ≡ None) × (judged w said ≡ Ok got)
no_fault None w said got h = (refl, h)
no_fault (Some f) w said got h = absurd cc

none_at : (number : ℕ) (f : Option BlifFault) → at_line number f ≡ None → f ≡ None
none_at number None h = refl
none_at number (Some f) h = absurd cc

pub all_said : {X : Type 0} (f : Option (ℕ × BlifFault)) (said got : X) → judged f said ≡ Ok got → (f ≡ None) × (said ≡ got)
all_said None said got h = (let e : said ≡ got = cc in (refl, e))
all_said (Some f) said got h = absurd cc

-- ---- the networks of a model and of a don't care part

-- a network of this name, these inputs and these outputs
pub record IsNetOf (limits : NetLimits) (name : Word) (i o : List Word) (n : Network) : Type 0 where
  pub driven : List Word
  pub gates : List NamedGate
  pub named : is_name name ≡ true
  pub parts : AreParts limits i o driven gates
  pub is : n ≡ net_of name i o gates

pub made_valid : (limits : NetLimits) (name : Word) (i o : List Word) (n : Network) → IsNetOf limits name i o n → IsValid n
made_valid limits name i o n h = subst IsValid (sym h.is) (is_valid limits name i o h.driven h.gates h.named h.parts)

pub made_keeps : (limits : NetLimits) (name : Word) (i o : List Word) (n : Network) → IsNetOf limits name i o n → KeepsLimits limits n
made_keeps limits name i o n h = subst (KeepsLimits limits) (sym h.is) (within limits name i o h.driven h.gates h.parts)

pub made_model : (limits : NetLimits) (name : Word) (i o : List Word) (n : Network) → IsNetOf limits name i o n → n.model ≡ name
unfolding net_of
made_model limits name i o n h = ap (λ (m : Network). m.model) h.is

made_inputs : (limits : NetLimits) (name : Word) (i o : List Word) (n : Network) → IsNetOf limits name i o n → n.inputs ≡ i
unfolding net_of
made_inputs limits name i o n h = ap (λ (m : Network). m.inputs) h.is

made_ports : (limits : NetLimits) (name : Word) (i o : List Word) (n : Network) → IsNetOf limits name i o n → port_names n ≡ o
made_ports limits name i o n h = ap port_names h.is ∙ ports_named limits name i o h.driven h.gates h.parts

-- a network that has the names of another
pub made_frees : (limits others : NetLimits) (name : Word) (i o : List Word) (net free : Network) → IsNetOf limits name i o net → IsNetOf others name i o free → FreesOutputs net free
made_frees limits others name i o net free n f = record {
  valid = made_valid others name i o free f;
  model = made_model others name i o free f ∙ sym (made_model limits name i o net n);
  inputs = made_inputs others name i o free f ∙ sym (made_inputs limits name i o net n);
  outputs = made_ports others name i o free f ∙ sym (made_ports limits name i o net n);
}

-- what lines without a fault that say a network have besides
record AreWhole (lines : List WordLine) (seen : Seen) : Type 0 where
  reads : undefined_pin (seen.inputs ++ seen.driven) lines ≡ None
  shows : undefined_output (seen.inputs ++ seen.driven) lines ≡ None
  some_input : 0 < length seen.inputs
  some_output : 0 < length seen.outputs

whole_are : (last : ℕ) (lines : List WordLine) (seen : Seen) (net : Network) → AreFaultless None lines seen → lines_say last lines ≡ Ok net → AreWhole lines seen
whole_are last lines seen net f h =
    let a = no_fault _ _ _ net (sym (lines_say_is last lines seen f) ∙ h) in
    let i = first_none (eqb (length seen.inputs) 0) fault.NoInputs _ (none_at last _ a.0) in
    let o = first_none (eqb (length seen.outputs) 0) fault.NoOutputs None i.1 in
    let b = no_fault (undefined_pin (seen.inputs ++ seen.driven) lines) _ _ net a.1 in
    let c = no_fault (undefined_output (seen.inputs ++ seen.driven) lines) _ _ net b.1 in
    record {
      reads = b.0;
      shows = c.0;
      some_input = omega (arith, eqb-false (length seen.inputs) 0 i.0);
      some_output = omega (arith, eqb-false (length seen.outputs) 0 o.0);
    }

-- what is said of drafted lines
drafts_made : (lines : List WordLine) (seen : Seen) (name : Word) (d : AreDrafted lines seen (drafts_of (seen.inputs ++ seen.driven) 0 lines)) → unplaced (outs (placed seen.inputs (gates lines))) lines ≡ None → is_name name ≡ true
    → IsNetOf d.faultless.limits name seen.inputs seen.outputs (part_net name (declared_in seen) (words_of lines))
drafts_made lines seen name d none named = record {
  driven = seen.driven;
  gates = all_gates lines seen;
  named = named;
  parts = parts_are lines seen (drafts_of (seen.inputs ++ seen.driven) 0 lines) d none;
  is = ap (net_of name seen.inputs seen.outputs) (gates_are lines seen d.faultless);
}

-- the lines of a model that say a network, by what is seen
pub model_seen : (limits : NetLimits) (last : ℕ) (lines : List WordLine) (seen : Seen) (net : Network) (f : AreFaultless None lines seen) → lines_say last lines ≡ Ok net → (0 < length seen.inputs) × (0 < length seen.outputs) × IsNetOf f.limits (model_of (words_of lines)) seen.inputs seen.outputs net
model_seen limits last lines seen net f h =
    let w = whole_are last lines seen net f h in
    let name = unwrap_or seen.model (codes "unnamed") in
    let is : name ≡ model_of (words_of lines) = model_is lines seen f in
    let d : AreDrafted lines seen (drafts_of (seen.inputs ++ seen.driven) 0 lines) = record { model = None; faultless = f; reads = w.reads; drafts_are = refl; some_input = w.some_input; some_output = w.some_output; few = model_few lines seen f w.shows } in
    let p = all_said _ _ net (sym (placed_said last lines seen name f w.some_input w.some_output w.reads w.shows refl) ∙ h) in
    let made = drafts_made lines seen name d p.0 (ap is_name is ∙ model_named f.limits lines f.none) in
    (w.some_input, w.some_output, subst (λ m. IsNetOf f.limits m seen.inputs seen.outputs net) is (subst (IsNetOf f.limits name seen.inputs seen.outputs) p.1 made))

pub lines_made : (limits : NetLimits) (last : ℕ) (lines : List WordLine) (net : Network) → first_fault (faults limits None) [] lines ≡ None → lines_say last lines ≡ Ok net
    → let said = words_of lines in (0 < length (inputs_of said)) × (0 < length (outputs_of said)) × IsNetOf limits (model_of said) (inputs_of said) (outputs_of said) net
lines_made limits last lines net none h =
    let said = words_of lines in
    let seen = spec.seen None said in
    let f : AreFaultless None lines seen = record { limits = limits; of = tt; none = none; seen_is = refl } in
    let i = inputs_are lines seen f in
    let o = outputs_are lines seen f in
    let m = model_seen limits last lines seen net f h in (
      omega (arith, m.0, ap length i),
      omega (arith, m.1, ap length o),
      subst (λ (ws : List Word). IsNetOf limits (model_of said) (inputs_of said) ws net) o (subst (λ (ws : List Word). IsNetOf limits (model_of said) ws seen.outputs net) i m.2),
    )

text_made : (limits : NetLimits) (text : List ℕ) (net : Network) → blif_says limits text ≡ Ok net → let said = words_of (word_lines Blif text) in IsNetOf limits (model_of said) (inputs_of said) (outputs_of said) net
unfolding blif_says
text_made limits text net h = (let p = no_fault (first_fault (faults limits None) [] (word_lines Blif text)) _ _ net h in (lines_made limits (last_line text) (word_lines Blif text) net p.0 p.1).2)

pub said_valid : (limits : NetLimits) (text : List ℕ) (net : Network) → blif_says limits text ≡ Ok net → IsValid net
said_valid limits text net h = made_valid limits _ _ _ net (text_made limits text net h)

pub said_keeps : (limits : NetLimits) (text : List ℕ) (net : Network) → blif_says limits text ≡ Ok net → KeepsLimits limits net
said_keeps limits text net h = made_keeps limits _ _ _ net (text_made limits text net h)

-- ---- a don't care part

-- the lines of a part after a model that says a network
abbrev pub part_are : (limits : NetLimits) (last : ℕ) (lines part : List WordLine) (seen : Seen) (net : Network) → first_fault (faults limits None) [] lines ≡ None → lines_say last lines ≡ Ok net → let model = declared_by (words_of lines) in
    first_fault (faults limits (Some model)) [] part ≡ None → seen ≡ spec.seen (Some model) (words_of part) → ArePart part seen
part_are limits last lines part seen net none h part_none is =
    let model = declared_by (words_of lines) in
    let f : AreFaultless (Some model) part seen = record { limits = limits; of = record { lines = lines; none = none; is = refl }; none = part_none; seen_is = is } in
    let m = lines_made limits last lines net none h in
    record { model = model; faultless = f; some_input = omega (arith, m.0, ap length (inputs_are part seen f)); some_output = omega (arith, m.1, ap length (outputs_are part seen f)) }

-- a part has the inputs and outputs of its model
pub declared_is : (lines : List WordLine) (seen : Seen) (model : Declared) → AreFaultless (Some model) lines seen → declared_in seen ≡ model
declared_is lines seen model f =
    let made : List Word → List Word → Declared = λ i o. record { inputs = i; outputs = o } in
    ap₂ made (inputs_are lines seen f) (outputs_are lines seen f)

pub part_made : (lines : List WordLine) (seen : Seen) (name : Word) (h : ArePart lines seen) → part_fault h.model lines ≡ None → is_name name ≡ true → IsNetOf h.faultless.limits name h.model.inputs h.model.outputs (part_net name h.model (words_of lines))
part_made lines seen name h none named =
    let same = declared_is lines seen h.model h.faultless in
    let p = no_fault (undefined_pin (seen.inputs ++ seen.driven) lines) (unplaced (outs (placed seen.inputs (gates lines))) lines) (declared_in seen) (declared_in seen)
    (sym (part_fault_is lines seen h.model h.faultless (declared_in seen)) ∙ ap (λ (m : Declared). judged (part_fault m lines) (declared_in seen)) same ∙ rw none refl) in
    let d : AreDrafted lines seen (drafts_of (seen.inputs ++ seen.driven) 0 lines) = record { model = Some h.model; faultless = h.faultless; reads = p.0; drafts_are = refl; some_input = h.some_input; some_output = h.some_output; few = part_few lines seen h } in
    let made = drafts_made lines seen name d (all_said _ _ _ p.1).0 named in
    subst (λ (m : Declared). IsNetOf h.faultless.limits name m.inputs m.outputs (part_net name m (words_of lines))) same made

-- a valid network with few inputs and outputs is within the limits of a written one
pub written_keeps : (n : Network) → IsValid n → length n.inputs ≤ WRITTEN_LINES → length n.outputs ≤ WRITTEN_LINES → KeepsLimits Written n
written_keeps n v few_in few_out =
    let blank : Gate = record { out = []; pins = []; rows = []; on = true } in
    record {
      few_inputs = few_in;
      few_outputs = few_out;
      named = All-append (λ w. is_name w ≡ true) n.inputs (map (λ gate. gate.out) n.gates) v.inputs_named (λ k d lt.
          let in' : k < length n.gates = omega (arith, length-map n.gates (λ (gate : Gate). gate.out)) in
          ap is_name (get_or-map (λ (gate : Gate). gate.out) n.gates k blank d in') ∙ (v.gates k (get_or n.gates k blank) (slice_get-get_or n.gates k blank in')).named);
    }

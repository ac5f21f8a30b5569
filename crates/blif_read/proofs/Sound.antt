-- What is true of what lines without a fault say.
use Rattle.std.proofs.Common.{◌≡◌, ◌≢◌, ℕ, ◌-◌, ◌<◌, ◌≤◌, true, false, not, eqb, ltb, leb, ◌||◌, List, [], ◌∷◌, ◌++◌, length, get_or, drop, codes, Option, Some, None, All, refl, sym, ap, subst, ◌∙◌, arith, length-append, append_assoc, append-nil}
use Rattle.std.specs.Prelude.{Bool, bytes_eq, is_some}
use Rattle.std.specs.List.{list_any, list_all, AllByRecursion}
use Rattle.std.specs.Option.{option_or}
use Rattle.std.proofs.lemmas.Bool.{both_ways, or_from, or_parts, not-false, leb-false, ltb-false, eqb-false}
use Rattle.std.proofs.lemmas.List.Elements.{All-push}
use Rattle.std.proofs.lemmas.List.Quantifiers.{all_pairs_push}
use Rattle.std.proofs.lemmas.List.Folds.{list_any-append, list_any_at}
use Rattle.std.proofs.lemmas.Slice.Eq.{bytes_eq-Decides}
use Rattle.ae_base.specs.declared.limits.TheConstants.{PINS, GATES}
use Rattle.ae_base.proofs.Results.{or_none}
use Rattle.ae_base.proofs.Heads.{by_heads}
use Rattle.ae_lex.specs.First.{first_of, first_fault, at_line}
use Rattle.ae_lex.specs.Heads.{Word, heads}
use Rattle.ae_lex.specs.Reads.{words_of}
use Rattle.ae_lex.specs.Words.{WordLine}
use Rattle.ae_net.specs.Valid.{IsDistinct}
use Rattle.blif_read.specs.declared.fault.NetLimits.{NetLimits}
use Rattle.blif_read.specs.declared.fault.BlifFault.{BlifFault}
use Rattle.blif_read.specs.declared.seen.Seen.{Seen}
use Rattle.blif_read.specs.Words.{most_lines, is_name_under, gate_name}
use Rattle.ae_base.specs.Twins.{is_among}
use Rattle.blif_read.specs.declared.fault.BlifFault.TheVariants as fault
use Rattle.blif_read.specs.Seen as spec
use Rattle.blif_read.specs.Seen.{faults_in, with_end, with_line}
use Rattle.blif_read.specs.Build.{IsOf}
use Rattle.blif_read.specs.Says.{Declared, inputs_of, outputs_of, inputs_in, gates_of, outs, declared_faults, heading_faults, names_faults, most_gates, faults}
use Rattle.blif_read.specs.declared.fault.TheConstants.{PART_GATES}
use Rattle.blif_read.proofs.Steps.{headers, first_none, among_both, declared_more, faults_same, seen_push}
use Rattle.ae_base.proofs.Apart.{bytes_apart}
use Rattle.blif_read.proofs.WrittenNames.{bytes_same}
use Rattle.blif_read.proofs.Words.{gate_is_name}

-- ---- names in a list

pub apart_at : (w : List ℕ) (vs : List (List ℕ)) (k : ℕ) (d : List ℕ) → is_among w vs ≡ false → k < length vs → get_or vs k d ≢ w
apart_at w vs k d h lt = λ e. both_ways (is_among w vs) h (list_any_at (bytes_eq w) vs k d lt (ap (bytes_eq w) e ∙ bytes_same w))

pub distinct_push : (vs : List (List ℕ)) (w : List ℕ) → IsDistinct vs → is_among w vs ≡ false → IsDistinct (vs ++ w ∷ [])
distinct_push vs w h f = all_pairs_push (λ x y. x ≢ y) vs w h (λ k d lt. apart_at w vs k d f lt)

-- none of these is among those, nor among one more that is none of these
still_new : (w : List ℕ) (i vs : List (List ℕ)) → is_among w vs ≡ false → All (λ v. is_among v i ≡ false) vs → All (λ v. is_among v (i ++ w ∷ []) ≡ false) vs
still_new w i vs f h = λ k d lt.
    let v = get_or vs k d in
    list_any-append (bytes_eq v) i (w ∷ []) ∙ or_from (is_among v i) (bytes_eq v w || false) (h k d lt) (or_from (bytes_eq v w) false (bytes_apart v w (apart_at w vs k d f lt)) refl)

-- ---- what is sound

-- at most so many names, all different
pub record AreLabels (limits : NetLimits) (most : ℕ) (names : List Word) : Type 0 where
  pub named : All (λ w. is_name_under limits w ≡ true) names
  pub few : length names ≤ most
  pub apart : IsDistinct names

no_labels : (limits : NetLimits) (most : ℕ) → AreLabels limits most []
no_labels limits most = record { named = λ k d lt. absurd (omega arith); few = omega arith; apart = λ i j d lt in'. absurd (omega arith) }

one_label : (limits : NetLimits) (most : ℕ) (names : List Word) (w : Word) → AreLabels limits most names → is_name_under limits w ≡ true → is_among w names ≡ false → leb most (length names) ≡ false → AreLabels limits most (names ++ w ∷ [])
one_label limits most names w h named fresh room = record {
  named = All-push (λ v. is_name_under limits v ≡ true) names w h.named named;
  few = omega (arith, leb-false most (length names) room, length-append names (w ∷ []));
  apart = distinct_push names w h.apart fresh;
}

pub record IsSound (limits : NetLimits) (in_part : Bool) (i o d : List Word) : Type 0 where
  pub inputs : AreLabels limits (most_lines limits) i
  pub outputs : AreLabels limits (most_lines limits) o
  pub driven : AreLabels limits (most_gates in_part) d
  pub driven_new : All (λ w. is_among w i ≡ false) d
  pub outputs_new : All (λ w. is_among w i ≡ false) o

-- a name that is declared without a fault
record IsDeclared (limits : NetLimits) (others gates before : List Word) (w : Word) : Type 0 where
  named : is_name_under limits w ≡ true
  fresh : is_among w before ≡ false
  other : is_among w others ≡ false
  free : is_among w gates ≡ false
  room : leb (most_lines limits) (length before) ≡ false

declared_one : (limits : NetLimits) (many : BlifFault) (others gates before : List Word) (w : Word) → first_of (declared_faults limits many others gates before (w ∷ [])) ≡ None → IsDeclared limits others gates before w
declared_one limits many others gates before w h =
    let a = first_none (not (is_name_under limits w)) _ _ h in
    let b = first_none (is_among w before) _ _ a.1 in
    let c = first_none (is_among w others) _ _ b.1 in
    let e = first_none (is_among w gates) _ _ c.1 in
    record { named = not-false _ a.0; fresh = b.0; other = c.0; free = e.0; room = (first_none _ _ _ e.1).0 }

inputs_sound : (limits : NetLimits) (b : Bool) (i o d ws : List Word) → IsSound limits b i o d → first_of (declared_faults limits fault.TooManyInputs o d i ws) ≡ None → IsSound limits b (i ++ ws) o d
inputs_sound limits b i o d [] s h = subst (λ (xs : List Word). IsSound limits b xs o d) (sym (append-nil i)) s
inputs_sound limits b i o d (w ∷ ws) s h =
    let p = or_none _ _ (sym (declared_more limits fault.TooManyInputs o d i w ws) ∙ h) in
    let one = declared_one limits fault.TooManyInputs o d i w p.0 in
    let next : IsSound limits b (i ++ w ∷ []) o d = record {
      inputs = one_label limits (most_lines limits) i w s.inputs one.named one.fresh one.room;
      outputs = s.outputs;
      driven = s.driven;
      driven_new = still_new w i d one.free s.driven_new;
      outputs_new = still_new w i o one.other s.outputs_new;
    } in
    subst (λ (xs : List Word). IsSound limits b xs o d) (append_assoc i (w ∷ []) ws) (inputs_sound limits b (i ++ w ∷ []) o d ws next p.1)

outputs_sound : (limits : NetLimits) (b : Bool) (i o d ws : List Word) → IsSound limits b i o d → first_of (declared_faults limits fault.TooManyOutputs i [] o ws) ≡ None → IsSound limits b i (o ++ ws) d
outputs_sound limits b i o d [] s h = subst (λ (xs : List Word). IsSound limits b i xs d) (sym (append-nil o)) s
outputs_sound limits b i o d (w ∷ ws) s h =
    let p = or_none _ _ (sym (declared_more limits fault.TooManyOutputs i [] o w ws) ∙ h) in
    let one = declared_one limits fault.TooManyOutputs i [] o w p.0 in
    let next : IsSound limits b i (o ++ w ∷ []) d = record {
      inputs = s.inputs;
      outputs = one_label limits (most_lines limits) o w s.outputs one.named one.fresh one.room;
      driven = s.driven;
      driven_new = s.driven_new;
      outputs_new = All-push (λ v. is_among v i ≡ false) o w s.outputs_new one.other;
    } in
    subst (λ (xs : List Word). IsSound limits b i xs d) (append_assoc o (w ∷ []) ws) (outputs_sound limits b i (o ++ w ∷ []) d ws next p.1)

-- in a don't care part nothing is declared
headed_inputs : (limits : NetLimits) (b : Bool) (i o d ws : List Word) → IsSound limits b i o d → first_of (heading_faults limits b fault.TooManyInputs o d i ws) ≡ None → IsSound limits b (spec.declared_more b i ws) o d
headed_inputs limits true i o d ws s h = s
headed_inputs limits false i o d ws s h = inputs_sound limits false i o d ws s h

headed_outputs : (limits : NetLimits) (b : Bool) (i o d ws : List Word) → IsSound limits b i o d → first_of (heading_faults limits b fault.TooManyOutputs i [] o ws) ≡ None → IsSound limits b i (spec.declared_more b o ws) d
headed_outputs limits true i o d ws s h = s
headed_outputs limits false i o d ws s h = outputs_sound limits false i o d ws s h

-- of `.names` without a fault: it has a word, all are names, and it has not too many pins
pub record AreGateWords (limits : NetLimits) (ws : List (List ℕ)) : Type 0 where
  pub some : 0 < length ws
  pub names : list_all (is_name_under limits) ws ≡ true
  pub out : is_name_under limits (gate_name ws) ≡ true
  pub few : length ws - 1 ≤ PINS

pub gate_words : (limits : NetLimits) (b : Bool) (i d ws : List (List ℕ)) → first_of (names_faults limits b i d ws) ≡ None → AreGateWords limits ws
gate_words limits b i d ws h =
    let a = first_none _ _ _ h in
    let p = or_parts _ _ a.0 in
    let b = first_none _ _ _ a.1 in
    let all : list_all (is_name_under limits) ws ≡ true = not-false _ p.1 in
    let some : 0 < length ws = omega (arith, eqb-false (length ws) 0 p.0) in
    record {
      some = some;
      names = all;
      out = gate_is_name limits ws some all;
      few = ltb-false PINS (length ws - 1) b.0;
    }

headed : (h : Word) (line : List Word) → bytes_eq [] h ≡ false → heads h line ≡ true → h ∷ drop 1 line ≡ line
headed h [] empty e = absurd (both_ways _ empty e)
headed h (w ∷ ws) empty e = ap (λ (v : Word). v ∷ ws) (sym ((bytes_eq-Decides w h).0 e))

names_at : (limits : NetLimits) (model : Option Declared) (done : List (List Word)) (ws : List Word) → first_of (faults limits model done (codes ".names" ∷ ws)) ≡ None → first_of (names_faults limits (is_some model) (inputs_in model done) (outs (gates_of done)) ws) ≡ None
unfolding faults
names_at limits model done ws h = (first_none (list_any (heads (codes ".end")) done) _ _ h).1

-- the words after a `.names`, and those after a `.model`, in a line without a fault
pub names_none : (limits : NetLimits) (model : Option Declared) (done : List (List Word)) (line : List Word) → heads (codes ".names") line ≡ true → first_of (faults limits model done line) ≡ None
    → first_of (names_faults limits (is_some model) (inputs_in model done) (outs (gates_of done)) (drop 1 line)) ≡ None
names_none limits model done line e h = names_at limits model done (drop 1 line) (ap (λ (l : List Word). first_of (faults limits model done l)) (headed (codes ".names") line refl e) ∙ h)

model_at : (limits : NetLimits) (done : List (List Word)) (ws : List Word) → first_of (faults limits None done (codes ".model" ∷ ws)) ≡ None → list_all (is_name_under limits) ws ≡ true
unfolding faults
model_at limits done ws h = not-false _ (or_parts (ltb 1 (length ws)) _ (first_none _ _ _ (first_none (list_any (heads (codes ".end")) done || list_any (heads (codes ".model")) done) _ _ h).1).0).1

pub model_none : (limits : NetLimits) (done : List (List Word)) (line : List Word) → heads (codes ".model") line ≡ true → first_of (faults limits None done line) ≡ None → list_all (is_name_under limits) (drop 1 line) ≡ true
model_none limits done line e h = model_at limits done (drop 1 line) (ap (λ (l : List Word). first_of (faults limits None done l)) (headed (codes ".model") line refl e) ∙ h)

gate_sound : (limits : NetLimits) (b : Bool) (i o d ws : List Word) → IsSound limits b i o d → first_of (names_faults limits b i d ws) ≡ None → IsSound limits b i o (d ++ gate_name ws ∷ [])
gate_sound limits b i o d ws s h =
    let first = first_none (eqb (length ws) 0 || not (list_all (is_name_under limits) ws)) _ _ h in
    let second = first_none (ltb PINS (length ws - 1)) _ _ first.1 in
    let third = first_none (leb (most_gates b) (length d)) _ _ second.1 in
    let last = first_none (is_among (gate_name ws) (i ++ d)) _ _ third.1 in
    let q = or_parts _ _ (sym (among_both (gate_name ws) i d) ∙ last.0) in
    record {
      inputs = s.inputs;
      outputs = s.outputs;
      driven = one_label limits (most_gates b) d (gate_name ws) s.driven (gate_words limits b i d ws h).out q.1 third.0;
      driven_new = All-push (λ v. is_among v i ≡ false) d (gate_name ws) s.driven_new q.0;
      outputs_new = s.outputs_new;
    }

abbrev pub SeenIsSound : NetLimits → Seen → Type 0
SeenIsSound limits seen = IsSound limits seen.in_part seen.inputs seen.outputs seen.driven

abbrev Steps : NetLimits → List Word → Type 0
Steps limits line = (seen : Seen) → SeenIsSound limits seen → first_of (faults_in limits seen line) ≡ None → SeenIsSound limits (with_line seen line)

sound_other : (limits : NetLimits) (line : List Word) → AllByRecursion (λ h. heads h line ≡ false) headers → Steps limits line
unfolding with_line
sound_other limits line (m, (i, (o, (n, (e, u))))) seen s h = rw (i, o, n) s

sound_step : (limits : NetLimits) (line : List Word) → Steps limits line
unfolding faults_in with_line
sound_step limits =
    by_heads (Steps limits) headers refl (
      λ ws seen s h. s,
      (
        λ ws seen s h. headed_inputs limits seen.in_part seen.inputs seen.outputs seen.driven ws s (first_none seen.ended _ _ h).1,
        (
          λ ws seen s h. headed_outputs limits seen.in_part seen.inputs seen.outputs seen.driven ws s (first_none seen.ended _ _ h).1,
          (λ ws seen s h. gate_sound limits seen.in_part seen.inputs seen.outputs seen.driven ws s (first_none seen.ended _ _ h).1, (λ ws seen s h. s, tt)),
        ),
      ),
    )
    (sound_other limits)

pub line_none : (limits : NetLimits) (model : Option Declared) (done : List (List Word)) (line : WordLine) (lines : List WordLine) → first_fault (faults limits model) done (line ∷ lines) ≡ None
    → (first_of (faults limits model done line.words) ≡ None) × (first_fault (faults limits model) (done ++ line.words ∷ []) lines ≡ None)
line_none limits model done line lines h = parts (first_of (faults limits model done line.words)) h
  where
    parts : (o : Option BlifFault) → option_or (at_line line.number o) (first_fault (faults limits model) (done ++ line.words ∷ []) lines) ≡ None → (o ≡ None) × (first_fault (faults limits model) (done ++ line.words ∷ []) lines ≡ None)
    parts None h = (refl, h)
    parts (Some f) h = absurd cc

sound_rest : (limits : NetLimits) (model : Option Declared) (done : List (List Word)) (lines : List WordLine) → SeenIsSound limits (spec.seen model done) → first_fault (faults limits model) done lines ≡ None → SeenIsSound limits (spec.seen model (done ++ words_of lines))
sound_rest limits model done [] h f = subst (λ (ls : List (List Word)). SeenIsSound limits (spec.seen model ls)) (sym (append-nil done)) h
sound_rest limits model done (line ∷ lines) h f =
    let p = line_none limits model done line lines f in
    let none = sym (faults_same line.words limits model done) ∙ p.0 in
    let next : SeenIsSound limits (spec.seen model (done ++ line.words ∷ [])) = subst (SeenIsSound limits) (sym (seen_push limits model done line.words none)) (sound_step limits line.words (spec.seen model done) h none) in
    subst (λ (ls : List (List Word)). SeenIsSound limits (spec.seen model ls)) (append_assoc done (line.words ∷ []) (words_of lines)) (sound_rest limits model (done ++ line.words ∷ []) lines next p.1)

model_sound : (limits : NetLimits) (lines : List (List Word)) → SeenIsSound limits (spec.seen None lines) → IsSound limits true (inputs_of lines) (outputs_of lines) []
unfolding spec.seen
model_sound limits lines s = record { inputs = s.inputs; outputs = s.outputs; driven = no_labels limits PART_GATES; driven_new = λ k d lt. absurd (omega arith); outputs_new = s.outputs_new }

model_start : (limits : NetLimits) → SeenIsSound limits (spec.seen None [])
unfolding spec.seen gates_of
model_start limits = record { inputs = no_labels limits (most_lines limits); outputs = no_labels limits (most_lines limits); driven = no_labels limits GATES; driven_new = λ k d lt. absurd (omega arith); outputs_new = λ k d lt. absurd (omega arith) }

sound_start : (limits : NetLimits) (model : Option Declared) → IsOf limits model → SeenIsSound limits (spec.seen model [])
unfolding spec.seen gates_of
sound_start limits None of = model_start limits
sound_start limits (Some model) of =
    let lines = words_of of.lines in
    subst (λ (m : Declared). IsSound limits true m.inputs m.outputs []) (sym of.is) (model_sound limits lines (sound_rest limits None [] of.lines (model_start limits) of.none))

pub sound_all : (limits : NetLimits) (model : Option Declared) (lines : List WordLine) → IsOf limits model → first_fault (faults limits model) [] lines ≡ None → SeenIsSound limits (spec.seen model (words_of lines))
sound_all limits model lines of f = sound_rest limits model [] lines (sound_start limits model of) f

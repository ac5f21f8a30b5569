-- What lines say with one more line.
use Rattle.std.proofs.Common.{◌≡◌, ℕ, ◌+◌, ◌-◌, ◌<◌, Bool, true, false, not, cond, ◌||◌, List, [], ◌∷◌, ◌++◌, length, get_or, map, take, drop, codes, inl, inr, Option, Some, None, Result, Ok, Err, refl, sym, ap, ◌∙◌, append-nil, append_assoc}
use Rattle.std.specs.Prelude.{bytes_eq, filter, fold, slice_get, slice_index, option_map, unwrap_or, is_some}
use Rattle.std.specs.Borrow.{Bor}
use Rattle.std.specs.List.{list_any, flat_map, concat, AllByRecursion}
use Rattle.std.specs.Option.{option_or}
use Rattle.std.proofs.lemmas.Bool.{cases_Bool, both_ways, eq-eqb, or_parts}
use Rattle.std.proofs.lemmas.Slice.Eq.{bytes_eq-Decides}
use Rattle.std.proofs.lemmas.List.{drop_more, map_more}
use Rattle.std.proofs.lemmas.List.Concat.{flat_map-append}
use Rattle.std.proofs.lemmas.List.Elements.{filter-append}
use Rattle.std.proofs.lemmas.List.Folds.{list_any-append}
use Rattle.ae_base.proofs.Heads.{by_heads}
use Rattle.ae_base.specs.Twins.{is_among}
use Rattle.ae_lex.specs.First.{first_of}
use Rattle.ae_lex.specs.Heads.{Word, word, heads, is_row}
use Rattle.ae_lex.specs.Reads.{Takes}
use Rattle.ae_lex.specs.Slices.{texts}
use Rattle.ae_lex.specs.declared.errors.LineErr.{LineErr}
use Rattle.ae_lex.specs.declared.errors.LineErr.TheVariants as line
use Rattle.blif_read.specs.declared.fault.NetLimits.{NetLimits}
use Rattle.blif_read.specs.declared.fault.BlifFault.{BlifFault}
use Rattle.blif_read.specs.declared.fault.BlifFault.TheVariants as fault
use Rattle.blif_read.specs.declared.seen.OpenCover.{OpenCover}
use Rattle.blif_read.specs.declared.seen.Seen.{Seen}
use Rattle.blif_read.specs.Says.{Declared, inputs_of, outputs_of, inputs_in, outputs_in, gates_of, gate_of, outs, last_cover, declared_faults, listed_faults, row_faults, other_faults, faults}
use Rattle.blif_read.specs.Seen.{open_cover, seen, row_faults_in, faults_in, with_end, with_line}
use Rattle.blif_read.specs.Seen.{declared_more as more}
use Rattle.blif_read.specs.Words.{gate_name, row_end}

pub first_none : {X : Type 0} (b : Bool) (f : X) (rest : Option X) → cond b (Some f) rest ≡ None → (b ≡ false) × (rest ≡ None)
first_none true f rest h = absurd cc
first_none false f rest h = (refl, h)

pub among_both : (w : Word) (xs ys : List Word) → is_among w (xs ++ ys) ≡ (is_among w xs || is_among w ys)
among_both w xs ys = list_any-append (bytes_eq w) xs ys

-- ---- declared names

first_onto : (cs ds : List (Bool × BlifFault)) → first_of (cs ++ ds) ≡ option_or (first_of cs) (first_of ds)
first_onto [] ds = refl
first_onto (c ∷ cs) ds = pick c.0 (first_onto cs ds)
  where
    pick : (b : Bool) → first_of (cs ++ ds) ≡ option_or (first_of cs) (first_of ds) → cond b (Some c.1) (first_of (cs ++ ds)) ≡ option_or (cond b (Some c.1) (first_of cs)) (first_of ds)
    pick true e = refl
    pick false e = e

-- the faults of one name, and those of the names after it
pub declared_more : (limits : NetLimits) (many : BlifFault) (others gates before : List Word) (w : Word) (ws : List Word)
    → first_of (declared_faults limits many others gates before (w ∷ ws)) ≡ option_or (first_of (declared_faults limits many others gates before (w ∷ []))) (first_of (declared_faults limits many others gates (before ++ w ∷ []) ws))
declared_more limits many others gates before w ws = first_onto (declared_faults limits many others gates before (w ∷ [])) (declared_faults limits many others gates (before ++ w ∷ []) ws)

-- the first name with a fault, where `had` are those before it
pub declared_err : (limits : NetLimits) (many : BlifFault) (others gates old had : List Word) (words : List (Bor Word)) (i : ℕ) (d : Bor Word) (e : LineErr BlifFault) → i < length words
    → first_of (declared_faults limits many others gates had (texts (drop i words))) ≡ first_of (declared_faults limits many others gates old (texts words))
    → Takes {X = Unit {0}} (declared_faults limits many others gates had ((get_or words i d).now ∷ [])) (Unit {0}) (Err e) → Takes {X = Unit {0}} (declared_faults limits many others gates old (texts words)) (Unit {0}) (Err e)
declared_err limits many others gates old had words i d (line.Fault f) lt is h =
    sym is ∙ ap (λ (ws : List (Bor Word)). first_of (declared_faults limits many others gates had (texts ws))) (drop_more words i d lt)
    ∙ declared_more limits many others gates had (get_or words i d).now (texts (drop (i + 1) words)) ∙ ap (λ (o : Option BlifFault). option_or o (first_of (declared_faults limits many others gates (had ++ (get_or words i d).now ∷ []) (texts (drop (i + 1) words))))) h
declared_err limits many others gates old had words i d line.Memory lt is h = tt

pub declared_ok : (limits : NetLimits) (many : BlifFault) (others gates old had new : List Word) (words : List (Bor Word)) (i : ℕ) (d : Bor Word) → i < length words → had ≡ old ++ texts (take i words)
    → first_of (declared_faults limits many others gates had (texts (drop i words))) ≡ first_of (declared_faults limits many others gates old (texts words))
    → (first_of (declared_faults limits many others gates had ((get_or words i d).now ∷ [])) ≡ None) × (new ≡ had ++ (get_or words i d).now ∷ [])
    → (new ≡ old ++ texts (take (i + 1) words)) × (first_of (declared_faults limits many others gates new (texts (drop (i + 1) words))) ≡ first_of (declared_faults limits many others gates old (texts words)))
declared_ok limits many others gates old had new words i d lt names is h =
    let w = (get_or words i d).now in
    let rest = texts (drop (i + 1) words) in (
      h.1 ∙ ap (λ (ws : List Word). ws ++ w ∷ []) names ∙ append_assoc old (texts (take i words)) (w ∷ []) ∙ ap (λ (ws : List Word). old ++ ws) (sym (map_more (λ (b : Bor Word). b.now) words i d lt)),
      ap (λ (ws : List Word). first_of (declared_faults limits many others gates ws rest)) h.1 ∙ ap (λ (o : Option BlifFault). option_or o (first_of (declared_faults limits many others gates (had ++ w ∷ []) rest))) (sym h.0)
          ∙ sym (declared_more limits many others gates had w rest) ∙ ap (λ (ws : List (Bor Word)). first_of (declared_faults limits many others gates had (texts ws))) (sym (drop_more words i d lt)) ∙ is,
    )

-- of names that are only to be listed, where those so far have no fault
abbrev Listed : NetLimits → List Word → List (Bor Word) → Option BlifFault
Listed limits known words = first_of (listed_faults limits known (texts words))

listed_more : (limits : NetLimits) (known : List Word) (words : List (Bor Word)) (i : ℕ) (d : Bor Word) → i < length words
    → Listed limits known (drop i words) ≡ option_or (first_of (listed_faults limits known ((get_or words i d).now ∷ []))) (Listed limits known (drop (i + 1) words))
listed_more limits known words i d lt =
    let w = (get_or words i d).now in
    ap (Listed limits known) (drop_more words i d lt) ∙ first_onto (listed_faults limits known (w ∷ [])) (listed_faults limits known (texts (drop (i + 1) words)))

pub listed_err : (limits : NetLimits) (known : List Word) (words : List (Bor Word)) (i : ℕ) (d : Bor Word) (e : LineErr BlifFault) → i < length words → Listed limits known (drop i words) ≡ Listed limits known words
    → Takes {X = Unit {0}} (listed_faults limits known ((get_or words i d).now ∷ [])) (Unit {0}) (Err e) → Takes {X = Unit {0}} (listed_faults limits known (texts words)) (Unit {0}) (Err e)
listed_err limits known words i d (line.Fault f) lt is h = sym is ∙ listed_more limits known words i d lt ∙ ap (λ (o : Option BlifFault). option_or o (Listed limits known (drop (i + 1) words))) h
listed_err limits known words i d line.Memory lt is h = tt

pub listed_ok : (limits : NetLimits) (known : List Word) (words : List (Bor Word)) (i : ℕ) (d : Bor Word) → i < length words → Listed limits known (drop i words) ≡ Listed limits known words
    → first_of (listed_faults limits known ((get_or words i d).now ∷ [])) ≡ None → Listed limits known (drop (i + 1) words) ≡ Listed limits known words
listed_ok limits known words i d lt is h = ap (λ (o : Option BlifFault). option_or o (Listed limits known (drop (i + 1) words))) (sym h) ∙ sym (listed_more limits known words i d lt) ∙ is

-- ---- one more line

pub words_more : (h : Word) (before : List (List Word)) (line : List Word) → flat_map (drop 1) (filter (heads h) (before ++ line ∷ [])) ≡ flat_map (drop 1) (filter (heads h) before) ++ cond (heads h line) (drop 1 line) []
words_more h before line =
    ap (flat_map (drop 1)) (filter-append (heads h) before (line ∷ [])) ∙ flat_map-append (drop 1) (filter (heads h) before) (filter (heads h) (line ∷ []))
    ∙ ap (λ (ws : List Word). flat_map (drop 1) (filter (heads h) before) ++ ws) (alone (heads h line))
  where
    alone : (b : Bool) → flat_map (drop 1) (cond b (line ∷ []) []) ≡ cond b (drop 1 line) []
    alone true = append-nil (drop 1 line)
    alone false = refl

-- the gate of a line
abbrev pub driven_by : List Word → List Word
driven_by line = cond (heads (codes ".names") line) (gate_name (drop 1 line) ∷ []) []

pub outs_cons : (line : List Word) (lines : List (List Word)) → outs (gates_of (line ∷ lines)) ≡ driven_by line ++ outs (gates_of lines)
unfolding gates_of
outs_cons line lines = pick (heads (codes ".names") line) _
  where
    pick : (b : Bool) (rows : List (List ℕ)) → outs (cond b (gate_of (drop 1 line) rows ∷ []) [] ++ gates_of lines) ≡ cond b (gate_name (drop 1 line) ∷ []) [] ++ outs (gates_of lines)
    pick true rows = refl
    pick false rows = refl

pub driven_more : (before : List (List Word)) (line : List Word) → outs (gates_of (before ++ line ∷ [])) ≡ outs (gates_of before) ++ driven_by line
unfolding gates_of
driven_more [] line = outs_cons line [] ∙ append-nil (driven_by line)
driven_more (l ∷ before) line =
    outs_cons l (before ++ line ∷ []) ∙ ap (λ (ws : List Word). driven_by l ++ ws) (driven_more before line)
    ∙ sym (append_assoc (driven_by l) (outs (gates_of before)) (driven_by line)) ∙ ap (λ (ws : List Word). ws ++ driven_by line) (sym (outs_cons l before))

abbrev pub onto : List (List Word) → List Word → List (List Word)
onto cover line = cond (is_row line) (cover ++ line ∷ []) (line ∷ [])

pub cover_more : (cover before : List (List Word)) (line : List Word) → fold onto cover (before ++ line ∷ []) ≡ onto (fold onto cover before) line
cover_more cover [] line = refl
cover_more cover (l ∷ before) line = cover_more (onto cover l) before line

-- a row begins with none of the words of statements
pub no_heads : (h : Word) (line : List Word) → is_row line ≡ true → slice_index h 0 ≡ 46 → heads h line ≡ false
no_heads h line row dot = elim (cases_Bool (heads h line)) [
  | inl t ↦ absurd (both_ways (is_row line) (ap not (eq-eqb _ 46 (ap (λ (w : Word). slice_index w 0) ((bytes_eq-Decides (word line 0) h).0 t) ∙ dot))) row)
  | inr f ↦ f
]

row_onto : (cover : List (List Word)) (line : List Word) → heads (codes ".names") line ≡ false → open_cover (cover ++ line ∷ []) ≡ option_map (with_end (concat line)) (open_cover cover)
row_onto [] line h = rw h refl
row_onto (names ∷ rows) line h = pick (heads (codes ".names") names) rows
  where
    with_rows : Bool → List (List Word) → Option OpenCover
    with_rows b rows = cond b (Some (record { pins = length (drop 1 names) - 1; end_char = option_map row_end (slice_get (map concat rows) 0) })) None

    pick : (b : Bool) (rows : List (List Word)) → with_rows b (rows ++ line ∷ []) ≡ option_map (with_end (concat line)) (with_rows b rows)
    pick true [] = refl
    pick true (row ∷ rows) = refl
    pick false rows = refl

cover_is : (before : List (List Word)) (line : List Word) → open_cover (last_cover (before ++ line ∷ [])) ≡ cond (is_row line) (option_map (with_end (concat line)) (open_cover (last_cover before))) (open_cover (line ∷ []))
cover_is before line = ap open_cover (cover_more [] before line) ∙ pick (is_row line) (λ row. no_heads (codes ".names") line row refl)
  where
    pick : (b : Bool) → (b ≡ true → heads (codes ".names") line ≡ false) → open_cover (cond b (last_cover before ++ line ∷ []) (line ∷ [])) ≡ cond b (option_map (with_end (concat line)) (open_cover (last_cover before))) (open_cover (line ∷ []))
    pick true row = row_onto (last_cover before) line (row refl)
    pick false row = refl

any_more : (h : Word) (before : List (List Word)) (line : List Word) → list_any (heads h) (before ++ line ∷ []) ≡ (heads h line || list_any (heads h) before)
any_more h [] line = refl
any_more h (l ∷ before) line = ap (λ (b : Bool). heads h l || b) (any_more h before line) ∙ turn (heads h l) (heads h line) (list_any (heads h) before)
  where
    turn : (a b c : Bool) → (a || (b || c)) ≡ (b || (a || c))
    turn true true c = refl
    turn true false c = refl
    turn false b c = refl

put : (b : Bool) (xs ys : List Word) → xs ++ cond b ys [] ≡ cond b (xs ++ ys) xs
put true xs ys = refl
put false xs ys = append-nil xs

-- the words of a `.model` stand in a line that is one
no_words : (lines : List (List Word)) → list_any (heads (codes ".model")) lines ≡ false → flat_map (drop 1) (filter (heads (codes ".model")) lines) ≡ []
no_words [] h = refl
no_words (line ∷ lines) h = let p = or_parts (heads (codes ".model") line) (list_any (heads (codes ".model")) lines) h in rw p.0 (no_words lines p.1)

abbrev pub headers : List Word
headers = codes ".model" ∷ codes ".inputs" ∷ codes ".outputs" ∷ codes ".names" ∷ codes ".end" ∷ []

-- no `.model` stands before one without a fault
first_model : (limits : NetLimits) (model : Option Declared) (before : List (List Word)) (line : List Word) → heads (codes ".model") line ≡ true → first_of (faults_in limits (seen model before) line) ≡ None → list_any (heads (codes ".model")) before ≡ false
unfolding faults_in seen
first_model limits model before line e h = (or_parts (is_some model) _ (or_parts (list_any (heads (codes ".end")) before) _ (first_none _ _ _ (rw e at h)).0).1).1

model_more : (before : List (List Word)) (line : List Word) → (heads (codes ".model") line ≡ true → list_any (heads (codes ".model")) before ≡ false)
    → let models = λ (ls : List (List Word)). slice_get (flat_map (drop 1) (filter (heads (codes ".model")) ls)) 0 in models (before ++ line ∷ []) ≡ cond (heads (codes ".model") line) (slice_get (drop 1 line) 0) (models before)
model_more before line first = ap (λ (ws : List Word). slice_get ws 0) (words_more (codes ".model") before line) ∙ pick (heads (codes ".model") line) first
  where
    had : List Word
    had = flat_map (drop 1) (filter (heads (codes ".model")) before)

    pick : (b : Bool) → (b ≡ true → list_any (heads (codes ".model")) before ≡ false) → slice_get (had ++ cond b (drop 1 line) []) 0 ≡ cond b (slice_get (drop 1 line) 0) (slice_get had 0)
    pick true first = ap (λ (ws : List Word). slice_get (ws ++ drop 1 line) 0) (no_words before (first refl))
    pick false first = ap (λ (ws : List Word). slice_get ws 0) (append-nil had)

same_both : (b : Bool) (xs : List Word) → xs ≡ cond b xs xs
same_both true xs = refl
same_both false xs = refl

inputs_more : (model : Option Declared) (before : List (List Word)) (line : List Word) → inputs_in model (before ++ line ∷ []) ≡ cond (heads (codes ".inputs") line) (more (is_some model) (inputs_in model before) (drop 1 line)) (inputs_in model before)
inputs_more None before line = words_more (codes ".inputs") before line ∙ put (heads (codes ".inputs") line) (inputs_of before) (drop 1 line)
inputs_more (Some m) before line = same_both (heads (codes ".inputs") line) m.inputs

outputs_more : (model : Option Declared) (before : List (List Word)) (line : List Word) → outputs_in model (before ++ line ∷ []) ≡ cond (heads (codes ".outputs") line) (more (is_some model) (outputs_in model before) (drop 1 line)) (outputs_in model before)
outputs_more None before line = words_more (codes ".outputs") before line ∙ put (heads (codes ".outputs") line) (outputs_of before) (drop 1 line)
outputs_more (Some m) before line = same_both (heads (codes ".outputs") line) m.outputs

pub seen_push : (limits : NetLimits) (model : Option Declared) (before : List (List Word)) (line : List Word) → first_of (faults_in limits (seen model before) line) ≡ None → seen model (before ++ line ∷ []) ≡ with_line (seen model before) line
unfolding seen with_line
seen_push limits model before line h =
    rw (
      any_more (codes ".end") before line,
      any_more (codes ".model") before line,
      model_more before line (λ e. first_model limits model before line e h),
      inputs_more model before line,
      outputs_more model before line,
      driven_more before line ∙ put (heads (codes ".names") line) (outs (gates_of before)) (gate_name (drop 1 line) ∷ []),
      cover_is before line,
    )
    refl

-- ---- its faults

row_same : (cover : List (List Word)) (r : List ℕ) → first_of (row_faults cover r) ≡ first_of (row_faults_in (open_cover cover) r)
row_same cover r = pick (heads (codes ".names") (get_or cover 0 [])) (ends (map concat (drop 1 cover)))
  where
    ends : (rows : List (List ℕ)) → row_end (get_or rows 0 r) ≡ unwrap_or (option_map row_end (slice_get rows 0)) (row_end r)
    ends [] = refl
    ends (q ∷ rows) = refl

    pick : (b : Bool) → row_end (get_or (map concat (drop 1 cover)) 0 r) ≡ unwrap_or (option_map row_end (slice_get (map concat (drop 1 cover)) 0)) (row_end r)
        → cond (not b) (Some fault.StrayRow) (first_of (drop 1 (row_faults cover r)))
        ≡ first_of (row_faults_in (cond b (Some (record { pins = length (drop 1 (get_or cover 0 [])) - 1; end_char = option_map row_end (slice_get (map concat (drop 1 cover)) 0) })) None) r)
    pick true e = rw e refl
    pick false e = refl

abbrev Same : List Word → Type 0
Same line = (limits : NetLimits) (model : Option Declared) (before : List (List Word)) → first_of (faults limits model before line) ≡ first_of (faults_in limits (seen model before) line)

same_other : (line : List Word) → AllByRecursion (λ h. heads h line ≡ false) headers → Same line
unfolding faults faults_in seen
same_other line (m, (i, (o, (n, (e, u))))) limits model before = rw (m, i, o, n, e) (pick (is_row line) (row_same (last_cover before) (concat line)))
  where
    others : List (Bool × BlifFault)
    others = other_faults (is_some model) line

    pick : (row : Bool) → first_of (row_faults (last_cover before) (concat line)) ≡ first_of (row_faults_in (open_cover (last_cover before)) (concat line))
        → cond (list_any (heads (codes ".end")) before) (Some fault.AfterEnd) (first_of (cond row (row_faults (last_cover before) (concat line)) others))
        ≡ cond (list_any (heads (codes ".end")) before) (Some fault.AfterEnd) (first_of (cond row (row_faults_in (open_cover (last_cover before)) (concat line)) others))
    pick true e = rw e refl
    pick false e = refl

pub faults_same : (line : List Word) → Same line
unfolding faults faults_in seen
faults_same line = by_heads Same headers refl (λ ws limits model before. refl, (λ ws limits model before. refl, (λ ws limits model before. refl, (λ ws limits model before. refl, (λ ws limits model before. refl, tt))))) same_other line

-- ---- what is read

pub takes : (limits : NetLimits) (model : Option Declared) (before : List (List Word)) (ws : List Word) (old new : Seen) (result : Result (Unit {0}) (LineErr BlifFault)) → old ≡ seen model before → Takes (faults_in limits old ws) (new ≡ with_line old ws) result
    → Takes (faults limits model before ws) (new ≡ seen model (before ++ ws ∷ [])) result
takes limits model before ws old new (Ok x) is h =
    let none : first_of (faults_in limits (seen model before) ws) ≡ None = ap (λ (s : Seen). first_of (faults_in limits s ws)) (sym is) ∙ h.0 in
    (faults_same ws limits model before ∙ none, h.1 ∙ ap (λ (s : Seen). with_line s ws) is ∙ sym (seen_push limits model before ws none))
takes limits model before ws old new (Err (line.Fault f)) is h = faults_same ws limits model before ∙ ap (λ (s : Seen). first_of (faults_in limits s ws)) (sym is) ∙ h
takes limits model before ws old new (Err line.Memory) is h = tt

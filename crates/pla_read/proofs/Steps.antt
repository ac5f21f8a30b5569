-- What is seen with one more line, and its faults.
use Rattle.std.proofs.Common.{◌≡◌, suc, Bool, true, false, not, ◌||◌, eqb, cond, List, [], ◌∷◌, ◌++◌, length, map, drop, codes, Option, Some, None, Result, Ok, Err, refl, sym, ap, ap₂, ◌∙◌, inl, inr, arith}
use Rattle.std.specs.Prelude.{unwrap_or, option_map, filter, slice_get, is_some}
use Rattle.std.specs.List.{list_any, AllByRecursion}
use Rattle.std.proofs.lemmas.Bool.{cases_Bool, ne_eqb, or_left, or_right}
use Rattle.std.proofs.lemmas.List.{append-nil, map-append, length-map}
use Rattle.std.proofs.lemmas.List.Elements.{filter-append}
use Rattle.ae_base.proofs.Heads.{by_heads, after_more}
use Rattle.ae_lex.specs.First.{first_of}
use Rattle.ae_lex.specs.Heads.{Word, word, heads, is_row, each_after, after}
use Rattle.ae_lex.specs.Reads.{Takes}
use Rattle.ae_lex.specs.declared.errors.LineErr.{LineErr}
use Rattle.ae_lex.specs.declared.errors.LineErr.TheVariants as line
use Rattle.pla_read.specs.Pla.{count_in, line_faults, faults}
use Rattle.pla_read.specs.Seen.{Seen, seen, is_late, faults_in, with_line}
use Rattle.pla_read.specs.Words.{count_said, kind_said, joined, row_of}
use Rattle.pla_read.specs.declared.fault.PlaFault.{PlaFault}

-- the headers of which a text has one line each
abbrev headers : List Word
headers = codes ".i" ∷ codes ".o" ∷ codes ".ilb" ∷ codes ".ob" ∷ codes ".type" ∷ []

-- what is seen where these are the words after each header, and these are the rows
abbrev seen_by : List (List Word) → List (List Word) → List (List Word) → List (List Word) → List (List Word) → List (List Word) → Seen
seen_by i o x y t rows =
    record {
      inputs = option_map count_said (slice_get i 0);
      outputs = option_map count_said (slice_get o 0);
      input_names = slice_get x 0;
      output_names = slice_get y 0;
      kind = option_map kind_said (slice_get t 0);
      rows = map (λ line. row_of (unwrap_or (option_map count_said (slice_get i 0)) 0) (joined line)) rows;
    }

-- ---- one more line

abbrev one : Word → List Word → List (List Word)
one h line = cond (heads h line) (drop 1 line ∷ []) []

abbrev more : (i o x y t rows : List (List Word)) (line : List Word) → Seen
more i o x y t rows line =
    seen_by (i ++ one (codes ".i") line) (o ++ one (codes ".o") line) (x ++ one (codes ".ilb") line) (y ++ one (codes ".ob") line) (t ++ one (codes ".type") line) (rows ++ cond (is_row line) (line ∷ []) [])

-- what is claimed of one more line
abbrev Steps : List Word → Type 0
Steps line = (i o x y t rows : List (List Word)) → first_of (faults_in (seen_by i o x y t rows) line) ≡ None → more i o x y t rows line ≡ with_line (seen_by i o x y t rows) line

step_inputs : (ws : List Word) → Steps (codes ".i" ∷ ws)
unfolding line_faults with_line
step_inputs ws [] o x y t [] h = rw (append-nil o, append-nil x, append-nil y, append-nil t) refl
step_inputs ws [] o x y t (r ∷ rows) h = absurd (let late = rw (ne_eqb (suc (length (map (λ line. row_of 0 (joined line)) rows))) 0 (λ e. omega (arith, e))) at h in cc)
step_inputs ws (v ∷ i) o x y t rows h = absurd cc

step_outputs : (ws : List Word) → Steps (codes ".o" ∷ ws)
unfolding line_faults with_line
step_outputs ws i [] x y t rows h = rw (append-nil i, append-nil x, append-nil y, append-nil t, append-nil rows) refl
step_outputs ws i (v ∷ o) x y t rows h = absurd cc

step_input_names : (ws : List Word) → Steps (codes ".ilb" ∷ ws)
unfolding line_faults with_line
step_input_names ws i o [] y t rows h = rw (append-nil i, append-nil o, append-nil y, append-nil t, append-nil rows) refl
step_input_names ws i o (v ∷ x) y t rows h = absurd cc

step_output_names : (ws : List Word) → Steps (codes ".ob" ∷ ws)
unfolding line_faults with_line
step_output_names ws i o x [] t rows h = rw (append-nil i, append-nil o, append-nil x, append-nil t, append-nil rows) refl
step_output_names ws i o x (v ∷ y) t rows h = absurd cc

step_type : (ws : List Word) → Steps (codes ".type" ∷ ws)
unfolding line_faults with_line
step_type ws i o x y [] rows h = rw (append-nil i, append-nil o, append-nil x, append-nil y, append-nil rows) refl
step_type ws i o x y (v ∷ t) rows h = absurd cc

-- a line with none of these headers
step_other : (line : List Word) → AllByRecursion (λ h. heads h line ≡ false) headers → Steps line
unfolding with_line
step_other line (a, (b, (c, (d, (e, u))))) i o x y t rows h = rw (a, b, c, d, e, append-nil i, append-nil o, append-nil x, append-nil y, append-nil t) (by_row (is_row line))
  where
    by_row : (row : Bool) → seen_by i o x y t (rows ++ cond row (line ∷ []) []) ≡ cond row (record (seen_by i o x y t rows) { rows = (seen_by i o x y t rows).rows ++ row_of (unwrap_or (seen_by i o x y t rows).inputs 0) (joined line) ∷ [] }) (seen_by i o x y t rows)
    by_row true = ap (λ (rs : List _). record (seen_by i o x y t rows) { rows = rs }) (map-append (λ line. row_of (unwrap_or (option_map count_said (slice_get i 0)) 0) (joined line)) rows (line ∷ []))
    by_row false = rw (append-nil rows) refl

step : (line : List Word) → Steps line
step line = by_heads Steps headers refl (step_inputs, (step_outputs, (step_input_names, (step_output_names, (step_type, tt))))) step_other line

-- what is seen with one more line that has no fault
seen_push : (before : List (List Word)) (line : List Word) → first_of (faults_in (seen before) line) ≡ None → seen (before ++ line ∷ []) ≡ with_line (seen before) line
unfolding seen
seen_push before line h =
    rw (after_more (codes ".i") before line, after_more (codes ".o") before line, after_more (codes ".ilb") before line, after_more (codes ".ob") before line, after_more (codes ".type") before line, filter-append is_row before (line ∷ []))
    (step line (each_after (codes ".i") before) (each_after (codes ".o") before) (each_after (codes ".ilb") before) (each_after (codes ".ob") before) (each_after (codes ".type") before) (filter is_row before) h)

-- ---- its faults

-- some line is a row or has this header
late_same : (h : Word) (before : List (List Word)) → list_any (λ earlier. is_row earlier || heads h earlier) before ≡ (is_some (after h before) || not (eqb (length (filter is_row before)) 0))
late_same h [] = refl
late_same h (line ∷ before) = elim (cases_Bool (heads h line)) [
  | inl e ↦ rw e (or_left _ _ (or_right (is_row line) true refl))
  | inr f ↦ elim (cases_Bool (is_row line)) [
    | inl r ↦ rw (f, r) (sym (or_right (is_some (after h before)) _ (ap not (ne_eqb (suc (length (filter is_row before))) 0 (λ e. omega (arith, e))))))
    | inr n ↦ rw (f, n) (late_same h before)
  ]
]

-- where the reader keeps what it says
late_kept : {X : Type 0} (h : Word) (before : List (List Word)) (kept : Option X) → is_some kept ≡ is_some (after h before)
    → list_any (λ earlier. is_row earlier || heads h earlier) before ≡ (is_some kept || not (eqb (length (seen before).rows) 0))
unfolding seen
late_kept h before kept e = late_same h before ∙ ap₂ (λ b n. b || not (eqb n 0)) (sym e) (sym (length-map (filter is_row before) _))

mapped : {X Y : Type 0} (f : X → Y) (o : Option X) → is_some (option_map f o) ≡ is_some o
mapped f None = refl
mapped f (Some x) = refl

abbrev Same : List Word → Type 0
Same line = (before : List (List Word)) → faults before line ≡ faults_in (seen before) line

by_late : (line : List Word) (before : List (List Word)) → list_any (λ earlier. is_row earlier || heads (word line 0) earlier) before ≡ is_late (seen before) (word line 0) → faults before line ≡ faults_in (seen before) line
unfolding seen
by_late line before e = ap₂ (λ b n. line_faults b (count_in (codes ".i") before) (count_in (codes ".o") before) n line) e (sym (length-map (filter is_row before) _))

same_other : (line : List Word) → AllByRecursion (λ h. heads h line ≡ false) headers → Same line
unfolding seen line_faults
same_other line (a, (b, (c, (d, (e, u))))) before = rw (a, b, c, d, e, length-map (filter is_row before) (λ line. row_of (unwrap_or (count_in (codes ".i") before) 0) (joined line))) refl

faults_same : (line : List Word) → Same line
unfolding seen
faults_same line =
    let one : (h : Word) (ws : List Word) (before : List (List Word)) → list_any (λ earlier. is_row earlier || heads h earlier) before ≡ is_late (seen before) h → faults before (h ∷ ws) ≡ faults_in (seen before) (h ∷ ws) = λ h ws before. by_late (h ∷ ws) before in
    by_heads Same headers refl (
      λ ws before. one (codes ".i") ws before (late_kept (codes ".i") before (count_in (codes ".i") before) (mapped count_said _)),
      (
        λ ws before. one (codes ".o") ws before (late_kept (codes ".o") before (count_in (codes ".o") before) (mapped count_said _)),
        (
          λ ws before. one (codes ".ilb") ws before (late_kept (codes ".ilb") before (after (codes ".ilb") before) refl),
          (
            λ ws before. one (codes ".ob") ws before (late_kept (codes ".ob") before (after (codes ".ob") before) refl),
            (λ ws before. one (codes ".type") ws before (late_kept (codes ".type") before (option_map kind_said (after (codes ".type") before)) (mapped kind_said _)), tt),
          ),
        ),
      ),
    )
    same_other line

-- ---- what is read

pub takes : (before : List (List Word)) (ws : List Word) (old new : Seen) (result : Result (Unit {0}) (LineErr PlaFault)) → old ≡ seen before → Takes (faults_in old ws) (new ≡ with_line old ws) result
    → Takes (faults before ws) (new ≡ seen (before ++ ws ∷ [])) result
takes before ws old new (Ok x) is h =
    let none : first_of (faults_in (seen before) ws) ≡ None = ap (λ (s : Seen). first_of (faults_in s ws)) (sym is) ∙ h.0 in
    (ap first_of (faults_same ws before) ∙ none, h.1 ∙ ap (λ (s : Seen). with_line s ws) is ∙ sym (seen_push before ws none))
takes before ws old new (Err (line.Fault f)) is h = ap first_of (faults_same ws before) ∙ ap (λ (s : Seen). first_of (faults_in s ws)) (sym is) ∙ h
takes before ws old new (Err line.Memory) is h = tt

-- No line of a written gate is faulty.
use Rattle.std.proofs.Common.{◌≡◌, ℕ, suc, ◌+◌, ◌<◌, ◌≤◌, Bool, false, None, List, [], ◌∷◌, ◌++◌, length, map, codes, refl, sym, ap, subst, ◌∙◌, arith}
use Rattle.std.specs.List.{flat_map, AllByRecursion}
use Rattle.std.proofs.lemmas.List.{append_assoc, append-nil, length-append, length-map}
use Rattle.ae_base.specs.declared.limits.TheConstants.{PINS, GATES}
use Rattle.ae_base.specs.Cube.{Product}
use Rattle.ae_base.specs.Text.{digit}
use Rattle.ae_base.specs.Twins.{is_among}
use Rattle.ae_lex.specs.First.{first_of}
use Rattle.ae_lex.specs.Heads.{Word}
use Rattle.ae_net.specs.declared.net.Gate.{Gate}
use Rattle.ae_net.specs.Blif.{name_of, row_words, gate_lines}
use Rattle.blif_read.specs.declared.fault.NetLimits.TheVariants.{Written}
use Rattle.blif_read.specs.Says.{last_cover, faults}
use Rattle.blif_read.proofs.Steps.{onto, cover_more}
use Rattle.blif_read.proofs.WrittenNames.{AreFresh}
use Rattle.blif_read.proofs.WrittenLines.{AreFine, fine_append, Stands, stands_row, stands_names, names_line, row_line, gate_name-snoc, names_fine, EndWith, end_more, row_fine}
use Rattle.blif_read.proofs.WrittenRows.{row_end-row_chars, is_row-row_chars, is_row-row_words, concat-row_words}
use Rattle.blif_read.proofs.WrittenPlain.{IsFit}

-- ---- rows

rows_fine : (before : List (List Word)) (k : ℕ) (on : Bool) (ws : List Word) (rows : List (List Word)) (rest : List Product) (i o d : List Word) → Stands before i o d → length ws ≡ suc k → EndWith (digit on) rows
    → last_cover before ≡ (codes ".names" ∷ ws) ∷ rows → AreFine Written before (map (row_words k on) rest)
rows_fine before k on ws rows [] i o d s e h c = tt
rows_fine before k on ws rows (row ∷ rest) i o d s e h c =
    let line = row_words k on row in
    let is = is_row-row_words k on row in
    let chars = concat-row_words k on row in (
      row_line Written before line is s.on ∙ rw (c, chars) (row_fine k (digit on) _ ws rows e (is_row-row_chars k on row) (row_end-row_chars k on row) h),
      rows_fine (before ++ line ∷ []) k on ws (rows ++ line ∷ []) rest i o d (stands_row before line i o d is s) e (end_more (digit on) rows line h (rw chars (row_end-row_chars k on row)))
          (cover_more [] before line ∙ ap (λ (x : List (List Word)). onto x line) c ∙ rw is refl),
    )

stands_rows : (before : List (List Word)) (k : ℕ) (on : Bool) (rest : List Product) (i o d : List Word) → Stands before i o d → Stands (before ++ map (row_words k on) rest) i o d
stands_rows before k on [] i o d h = subst (λ (b : List (List Word)). Stands b i o d) (sym (append-nil before)) h
stands_rows before k on (row ∷ rest) i o d h =
    subst (λ (b : List (List Word)). Stands b i o d) (append_assoc before (row_words k on row ∷ []) (map (row_words k on) rest))
    (stands_rows (before ++ row_words k on row ∷ []) k on rest i o d (stands_row before (row_words k on row) i o d (is_row-row_words k on row) h))

-- ---- gates

-- the words after `.names`
abbrev pub gate_words : List Word → Gate → List Word
gate_words names gate = map (name_of names) gate.pins ++ gate.out ∷ []

stands_words : (names : List Word) (before : List (List Word)) (i o d : List Word) (gate : Gate) → Stands before i o d → Stands (before ++ (codes ".names" ∷ gate_words names gate) ∷ []) i o (d ++ gate.out ∷ [])
stands_words names before i o d gate h = stands_names before (gate_words names gate) gate.out i o d h (gate_name-snoc (map (name_of names) gate.pins) gate.out)

stands_gate : (names : List Word) (before : List (List Word)) (i o d : List Word) (gate : Gate) → Stands before i o d → Stands (before ++ gate_lines names gate) i o (d ++ gate.out ∷ [])
stands_gate names before i o d gate h =
    let line = codes ".names" ∷ gate_words names gate in
    subst (λ (b : List (List Word)). Stands b i o (d ++ gate.out ∷ [])) (append_assoc before (line ∷ []) (map (row_words (length gate.pins) gate.on) gate.rows))
    (stands_rows (before ++ line ∷ []) (length gate.pins) gate.on gate.rows i o (d ++ gate.out ∷ []) (stands_words names before i o d gate h))

pub stands_gates : (names : List Word) (before : List (List Word)) (i o d : List Word) (gates : List Gate) → Stands before i o d → Stands (before ++ flat_map (gate_lines names) gates) i o (d ++ map (λ gate. gate.out) gates)
stands_gates names before i o d [] h = rw (append-nil before, append-nil d) h
stands_gates names before i o d (gate ∷ gates) h =
    let rest = stands_gates names (before ++ gate_lines names gate) i o (d ++ gate.out ∷ []) gates (stands_gate names before i o d gate h) in
    rw (← append_assoc before (gate_lines names gate) (flat_map (gate_lines names) gates), ← append_assoc d (gate.out ∷ []) (map (λ gate. gate.out) gates)) rest

gate_fine : (names : List Word) (before : List (List Word)) (i o d : List Word) (gate : Gate) → Stands before i o d → IsFit names gate → length d < GATES → is_among gate.out (i ++ d) ≡ false → AreFine Written before (gate_lines names gate)
gate_fine names before i o d gate h fit room fresh =
    let ws = gate_words names gate in
    let line = codes ".names" ∷ ws in
    let few : length (map (name_of names) gate.pins) ≤ PINS = omega (arith, length-map gate.pins (name_of names), fit.few) in
    let long : length ws ≡ suc (length gate.pins) = omega (arith, length-append (map (name_of names) gate.pins) (gate.out ∷ []), length-map gate.pins (name_of names)) in (
      names_line Written before ws i o d h ∙ names_fine Written i d (map (name_of names) gate.pins) gate.out fit.pins fit.out few room fresh,
      rows_fine (before ++ line ∷ []) (length gate.pins) gate.on ws [] gate.rows i o (d ++ gate.out ∷ []) (stands_words names before i o d gate h) long tt (cover_more [] before line),
    )

end_fine : (before : List (List Word)) → first_of (faults Written None before (codes ".end" ∷ [])) ≡ None
unfolding faults
end_fine before = refl

-- the gates, and `.end`
pub gates_fine : (names : List Word) (before : List (List Word)) (i o d : List Word) (gates : List Gate) → Stands before i o d → AllByRecursion (IsFit names) gates → length d + length gates ≤ GATES
    → AreFresh (i ++ d) (map (λ gate. gate.out) gates) → AreFine Written before (flat_map (gate_lines names) gates ++ (codes ".end" ∷ []) ∷ [])
gates_fine names before i o d [] h fit few fresh = (end_fine before, tt)
gates_fine names before i o d (gate ∷ gates) h fit few fresh =
    let first = gate_fine names before i o d gate h fit.0 (omega (arith, few)) fresh.0 in
    let rest = gates_fine names (before ++ gate_lines names gate) i o (d ++ gate.out ∷ []) gates (stands_gate names before i o d gate h) fit.1 (omega (arith, length-append d (gate.out ∷ []), few))
    (subst (λ (x : List Word). AreFresh x (map (λ gate. gate.out) gates)) (append_assoc i d (gate.out ∷ [])) fresh.1) in
    subst (λ (ls : List (List Word)). AreFine Written before ls) (sym (append_assoc (gate_lines names gate) (flat_map (gate_lines names) gates) ((codes ".end" ∷ []) ∷ [])))
    (fine_append Written before (gate_lines names gate) (flat_map (gate_lines names) gates ++ (codes ".end" ∷ []) ∷ []) first rest)

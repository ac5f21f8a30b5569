-- What the lines of the gates of a network say.
use Rattle.std.proofs.Common.{◌≡◌, ℕ, suc, ◌+◌, ◌-◌, Bool, false, not, cond, ◌&&◌, List, [], ◌∷◌, ◌++◌, length, map, take, drop, codes, refl, ap, ap₂, ◌∙◌, arith}
use Rattle.std.specs.Prelude.{slice_index}
use Rattle.std.specs.List.{flat_map, list_any, concat, before_first, prefix_len, AllByRecursion}
use Rattle.std.proofs.lemmas.Bool.{or_from}
use Rattle.std.proofs.lemmas.List.{append_assoc, length-append, length-map}
use Rattle.std.proofs.lemmas.List.Folds.{list_any-append}
use Rattle.ae_base.specs.Cube.{Product}
use Rattle.ae_lex.specs.Heads.{Word, heads, is_row}
use Rattle.ae_net.specs.declared.net.Gate.{Gate}
use Rattle.ae_net.specs.Named.{NamedGate}
use Rattle.ae_net.specs.Valid.{IsGate}
use Rattle.ae_net.specs.Blif.{name_of, row_words, gate_lines}
use Rattle.blif_read.specs.Build.{row_cube, is_on}
use Rattle.blif_read.specs.Says.{gate_of, gates_of}
use Rattle.blif_read.proofs.Steps.{no_heads}
use Rattle.blif_read.proofs.WrittenFine.{gate_words}
use Rattle.blif_read.proofs.WrittenGates.{AreValid, named}
use Rattle.blif_read.proofs.WrittenLines.{gate_name-snoc, pin_names-snoc}
use Rattle.blif_read.proofs.WrittenRows.{row_chars, rows_back, on_back, is_row-row_words, concat-row_words}

abbrev pub end_lines : List (List Word)
end_lines = (codes ".end" ∷ []) ∷ []

-- ---- a test of the words after a first word, which no line of a gate passes

any_rows : (h : Word) (t : List Word → Bool) (k : ℕ) (on : Bool) (rows : List Product) → slice_index h 0 ≡ 46 → list_any (λ line. heads h line && t (drop 1 line)) (map (row_words k on) rows) ≡ false
any_rows h t k on [] dot = refl
any_rows h t k on (row ∷ rows) dot = rw (no_heads h (row_words k on row) (is_row-row_words k on row) dot) (any_rows h t k on rows dot)

pub any_gates : (h : Word) (t : List Word → Bool) (names : List Word) (gates : List Gate) → slice_index h 0 ≡ 46 → heads h (codes ".end" ∷ []) ≡ false → AllByRecursion (λ gate. (heads h (codes ".names" ∷ gate_words names gate) && t (gate_words names gate)) ≡ false) gates
    → list_any (λ line. heads h line && t (drop 1 line)) (flat_map (gate_lines names) gates ++ end_lines) ≡ false
any_gates h t names [] dot e each = rw e refl
any_gates h t names (gate ∷ gates) dot e each =
    let test = λ (line : List Word). heads h line && t (drop 1 line) in
    ap (list_any test) (append_assoc (gate_lines names gate) (flat_map (gate_lines names) gates) end_lines)
    ∙ list_any-append test (gate_lines names gate) (flat_map (gate_lines names) gates ++ end_lines)
    ∙ or_from _ _ (or_from _ _ each.0 (any_rows h t (length gate.pins) gate.on gate.rows dot)) (any_gates h t names gates dot e each.1)

-- ---- gates

-- the rows at the front of lines
abbrev front_rows : List (List Word) → List (List ℕ)
front_rows lines = map concat (before_first (λ l. not (is_row l)) lines)

-- no row stands before the next gate or the end
no_rows : (names : List Word) (gates : List Gate) → front_rows (flat_map (gate_lines names) gates ++ end_lines) ≡ []
no_rows names [] = refl
no_rows names (gate ∷ gates) = refl

rows_read : (k : ℕ) (on : Bool) (rows : List Product) (rest : List (List Word)) → front_rows rest ≡ [] → front_rows (map (row_words k on) rows ++ rest) ≡ map (row_chars k on) rows
rows_read k on [] rest none = none
rows_read k on (row ∷ rows) rest none =
    let lines = map (row_words k on) rows ++ rest in
    let n = prefix_len (λ l. not (not (is_row l))) lines in
    let more : 1 + n ≡ suc n = omega arith in
    ap (λ (b : Bool). map concat (take (cond (not (not b)) (1 + n) 0) (row_words k on row ∷ lines))) (is_row-row_words k on row) ∙ ap (λ j. map concat (take j (row_words k on row ∷ lines))) more
    ∙ ap₂ (λ (r : List ℕ) (rs : List (List ℕ)). r ∷ rs) (concat-row_words k on row) (rows_read k on rows rest none)

gates_rows : (k : ℕ) (on : Bool) (rows : List Product) (rest : List (List Word)) → gates_of (map (row_words k on) rows ++ rest) ≡ gates_of rest
unfolding gates_of
gates_rows k on [] rest = refl
gates_rows k on (row ∷ rows) rest = rw (no_heads (codes ".names") (row_words k on row) (is_row-row_words k on row) refl) (gates_rows k on rows rest)

gate_read : (names : List Word) (s : ℕ) (gate : Gate) → IsGate s gate → gate_of (gate_words names gate) (map (row_chars (length gate.pins) gate.on) gate.rows) ≡ named names gate
gate_read names s gate valid =
    let made : Word → List Word → List Product → Bool → NamedGate = λ out pins rows on. record { out = out; pins = pins; rows = rows; on = on } in
    let chars = map (row_chars (length gate.pins) gate.on) gate.rows in
    let pins = map (name_of names) gate.pins in
    let wide : length (pins ++ gate.out ∷ []) - 1 ≡ length gate.pins = omega (arith, length-append pins (gate.out ∷ []), length-map gate.pins (name_of names)) in
    ap₂ (λ (out : Word) (ps : List Word). made out ps (map (row_cube (length (pins ++ gate.out ∷ []) - 1)) chars) (is_on chars)) (gate_name-snoc pins gate.out) (pin_names-snoc pins gate.out)
    ∙ ap₂ (made gate.out pins) (ap (λ (j : ℕ). map (row_cube j) chars) wide ∙ rows_back (length gate.pins) gate.on gate.rows valid.rows) (on_back (length gate.pins) gate.on gate.rows valid.off_row)

pub gates_read : (names : List Word) (s : ℕ) (gates : List Gate) → AreValid s gates → gates_of (flat_map (gate_lines names) gates ++ end_lines) ≡ map (named names) gates
unfolding gates_of
gates_read names s [] valid = refl
gates_read names s (gate ∷ gates) valid =
    let rest = flat_map (gate_lines names) gates ++ end_lines in
    let rows = map (row_words (length gate.pins) gate.on) gate.rows in
    ap gates_of (append_assoc (gate_lines names gate) (flat_map (gate_lines names) gates) end_lines)
    ∙ ap₂ (λ (g : NamedGate) (gs : List NamedGate). g ∷ gs) (ap (gate_of (gate_words names gate)) (rows_read (length gate.pins) gate.on gate.rows rest (no_rows names gates)) ∙ gate_read names s gate valid.0)
    (gates_rows (length gate.pins) gate.on gate.rows rest ∙ gates_read names (suc s) gates valid.1)

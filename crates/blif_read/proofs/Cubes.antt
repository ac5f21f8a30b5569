-- Rows at the front of lines.
use Rattle.std.proofs.Common.{◌≡◌, ℕ, suc, ◌+◌, ◌<◌, Bool, true, false, not, cond, List, [], ◌∷◌, ◌++◌, length, get_or, take, drop, map, Some, None, refl, sym, ap, ◌∙◌, arith}
use Rattle.std.specs.List.{concat, prefix_len}
use Rattle.std.proofs.lemmas.List.{append-nil, append_assoc}
use Rattle.std.proofs.lemmas.Option.{cond_some}
use Rattle.ae_base.specs.Cube.{Product}
use Rattle.ae_lex.specs.Heads.{is_row}
use Rattle.ae_lex.specs.Reads.{words_of}
use Rattle.ae_lex.specs.Words.{WordLine}
use Rattle.blif_read.specs.Build.{row_chars, rows_of, row_cube}
use Rattle.blif_read.proofs.Drafts.{rest_more}

rows_cons : (line : WordLine) (lines : List WordLine) → rows_of (line ∷ lines) ≡ cond (is_row line.words) (concat line.words ∷ rows_of lines) []
rows_cons line lines = pick (is_row line.words)
  where
    pick : (b : Bool) → map concat (take (cond (not (not b)) (1 + prefix_len (λ l. not (not (is_row l))) (words_of lines)) 0) (line.words ∷ words_of lines)) ≡ cond b (concat line.words ∷ rows_of lines) []
    pick true = (let k = prefix_len (λ l. not (not (is_row l))) (words_of lines) in let more : 1 + k ≡ suc k = omega arith in ap (λ j. map concat (take j (line.words ∷ words_of lines))) more)
    pick false = refl

pub rows_more : (pins : ℕ) (all : List WordLine) (k : ℕ) (line : WordLine) (rows cubes : List Product) (r : List ℕ) → k < length all → get_or all k line ≡ line → row_chars line.words ≡ Some r
    → rows ++ map (row_cube pins) (rows_of (drop k all)) ≡ cubes → (rows ++ row_cube pins r ∷ []) ++ map (row_cube pins) (rows_of (drop (k + 1) all)) ≡ cubes
rows_more pins all k line rows cubes r lt e h t =
    let p = cond_some (is_row line.words) (concat line.words) r h in
    append_assoc rows (row_cube pins r ∷ []) (map (row_cube pins) (rows_of (drop (k + 1) all)))
    ∙ ap (λ (rs : List (List ℕ)). rows ++ map (row_cube pins) rs) (sym (ap rows_of (rest_more all k line lt e) ∙ rows_cons line (drop (k + 1) all) ∙ ap (λ (b : Bool). cond b (concat line.words ∷ rows_of (drop (k + 1) all)) []) p.0 ∙ ap (λ (x : List ℕ). x ∷ rows_of (drop (k + 1) all)) p.1)) ∙ t

pub rows_stop : (pins : ℕ) (all : List WordLine) (k : ℕ) (line : WordLine) (rows cubes : List Product) → k < length all → get_or all k line ≡ line → row_chars line.words ≡ None
    → rows ++ map (row_cube pins) (rows_of (drop k all)) ≡ cubes → rows ≡ cubes
rows_stop pins all k line rows cubes lt e h t =
    sym (append-nil rows) ∙ ap (λ (rs : List (List ℕ)). rows ++ map (row_cube pins) rs) (sym (ap rows_of (rest_more all k line lt e) ∙ rows_cons line (drop (k + 1) all) ∙ none (is_row line.words) h)) ∙ t
  where
    none : (b : Bool) → cond b (Some (concat line.words)) None ≡ None → cond b (concat line.words ∷ rows_of (drop (k + 1) all)) [] ≡ []
    none true h = absurd cc
    none false h = refl

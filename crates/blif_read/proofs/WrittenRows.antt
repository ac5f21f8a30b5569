-- A row that was written is read again.
use Rattle.std.proofs.Common.{◌≡◌, ℕ, zero, suc, not, ◌+◌, ◌-◌, ◌<◌, Bool, true, false, cond, eqb, List, [], ◌∷◌, ◌++◌, length, map, take, get_or, refl, ap, ap₂, ◌∙◌, arith}
use Rattle.std.specs.Prelude.{All}
use Rattle.std.specs.List.{list_all, concat, AllByRecursion}
use Rattle.std.proofs.lemmas.Bool.{eq-eqb, ne_eqb, and_from}
use Rattle.std.proofs.lemmas.List.{length-append, get_or_at, take_at}
use Rattle.std.proofs.lemmas.List.Elements.{recursion_from_All}
use Rattle.ae_base.specs.Cube.{Product}
use Rattle.ae_base.specs.Mask.{has}
use Rattle.ae_base.specs.Text.{digit, cube_text}
use Rattle.ae_base.proofs.ReadBack.{cube_literals, length-cube_text, cube_back as written_back}
use Rattle.ae_lex.specs.Heads as heads
use Rattle.ae_net.specs.Blif.{row_words}
use Rattle.ae_net.specs.Valid.{IsRowOf}
use Rattle.blif_read.specs.Words.{row_end, is_row}
use Rattle.ae_base.specs.Digits.{is_bit, is_literal, cube_said}
use Rattle.blif_read.specs.Build.{row_cube, is_on}

-- the characters of a row
abbrev pub row_chars : ℕ → Bool → Product → List ℕ
row_chars k on row = cube_text k row ++ digit on ∷ []

-- ---- its words

no_dot : (p q : Bool) → eqb (cond p 49 (cond q 48 45)) 46 ≡ false
no_dot true q = refl
no_dot false true = refl
no_dot false false = refl

digit_dot : (on : Bool) → eqb (digit on) 46 ≡ false
digit_dot true = refl
digit_dot false = refl

pub is_row-row_words : (k : ℕ) (on : Bool) (row : Product) → heads.is_row (row_words k on row) ≡ true
is_row-row_words zero on row = ap not (digit_dot on)
is_row-row_words (suc k) on row = ap not (no_dot (has row.pos 0) (has row.neg 0))

pub concat-row_words : (k : ℕ) (on : Bool) (row : Product) → concat (row_words k on row) ≡ row_chars k on row
concat-row_words zero on row = refl
concat-row_words (suc k) on row = refl

-- its characters before the last are those of its cube
front : (k : ℕ) (on : Bool) (row : Product) → take k (row_chars k on row) ≡ cube_text k row
front k on row = take_at (cube_text k row) (digit on ∷ []) k (length-cube_text k row)

cube_back : (k : ℕ) (on : Bool) (row : Product) → IsRowOf k row → row_cube k (row_chars k on row) ≡ row
cube_back k on row valid = ap cube_said (front k on row) ∙ written_back k row (valid.is_product, valid.pos, valid.neg)

each_back : (k : ℕ) (on : Bool) (rows : List Product) → AllByRecursion (IsRowOf k) rows → map (row_cube k) (map (row_chars k on) rows) ≡ rows
each_back k on [] h = refl
each_back k on (row ∷ rows) h = ap₂ (λ r rs. r ∷ rs) (cube_back k on row h.0) (each_back k on rows h.1)

pub rows_back : (k : ℕ) (on : Bool) (rows : List Product) → All (IsRowOf k) rows → map (row_cube k) (map (row_chars k on) rows) ≡ rows
rows_back k on rows h = each_back k on rows (recursion_from_All (IsRowOf k) rows h)

-- ---- it is no faulty row

length-row_chars : (k : ℕ) (on : Bool) (row : Product) → length (row_chars k on row) ≡ k + 1
length-row_chars k on row = omega (arith, length-append (cube_text k row) (digit on ∷ []), length-cube_text k row)

digit_of : (on : Bool) → is_bit (digit on) ≡ true
digit_of true = refl
digit_of false = refl

last_at : (k : ℕ) (on : Bool) (row : Product) → get_or (row_chars k on row) k 0 ≡ digit on
last_at k on row = get_or_at (cube_text k row) (digit on) [] 0 k (length-cube_text k row)

pub row_end-row_chars : (k : ℕ) (on : Bool) (row : Product) → row_end (row_chars k on row) ≡ digit on
row_end-row_chars k on row =
    let e : length (row_chars k on row) - 1 ≡ k = omega (arith, length-row_chars k on row) in
    ap (λ i. get_or (row_chars k on row) i 0) e ∙ last_at k on row

pub is_row-row_chars : (k : ℕ) (on : Bool) (row : Product) → is_row k (row_chars k on row) ≡ true
is_row-row_chars k on row =
    let r = row_chars k on row in
    and_from _ _
    (and_from _ _ (eq-eqb (length r) (k + 1) (length-row_chars k on row)) (ap (list_all is_literal) (front k on row) ∙ cube_literals k row))
    (ap is_bit (last_at k on row) ∙ digit_of on)

-- ---- how the rows end

one_end : (on : Bool) → eqb (digit on) 49 ≡ on
one_end true = refl
one_end false = refl

pub on_back : (k : ℕ) (on : Bool) (rows : List Product) → (on ≡ false → 0 < length rows) → is_on (map (row_chars k on) rows) ≡ on
on_back k true [] h = refl
on_back k false [] h = absurd (omega (arith, h refl))
on_back k on (row ∷ rows) h = rw (ne_eqb (suc (length (map (row_chars k on) rows))) 0 (λ e. omega (arith, e))) (ap (λ c. eqb c 49) (row_end-row_chars k on row) ∙ one_end on)

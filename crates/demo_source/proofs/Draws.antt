-- Draws in turn, and the characters that they give.
use Rattle.std.proofs.Common.{◌≡◌, ℕ, zero, suc, ◌+◌, ◌*◌, List, [], ◌∷◌, ◌++◌, map, refl, sym, ap, ap₂, ◌∙◌, arith}
use Rattle.std.specs.List.{range_with_len}
use Rattle.std.proofs.lemmas.List.Concat.{flat_map-append}
use Rattle.std.proofs.lemmas.List.FromFn.{map-range_with_len_more}
use Rattle.ae_base.specs.Text.{text_of, spaced}
use Rattle.ae_base.proofs.Written.{pushed}
use Rattle.polarity.specs.Draws.{after_draws, drawn, stepped}
use Rattle.demo_source.specs.Demo.{draw, characters, input_char, output_char, demo_row}
use Rattle.demo_source.specs.Rows.{row_from}

-- k draws and then j more
pub draws_on : (k j x : ℕ) → after_draws (k + j) x ≡ after_draws j (after_draws k x)
draws_on k zero x = let e : k + 0 ≡ k = omega arith in ap (λ i. after_draws i x) e
draws_on k (suc j) x = let e : k + suc j ≡ suc (k + j) = omega arith in ap (λ i. after_draws i x) e ∙ ap stepped (draws_on k j x)

-- the draws after k draws are those from the state after them
characters_on : (char : ℕ → ℕ) (x k a n : ℕ) → characters char x (k + a) n ≡ characters char (after_draws k x) a n
characters_on char x k a zero = refl
characters_on char x k a (suc n) =
    let later : suc (k + a) ≡ k + suc a = omega arith in
    let next : k + a + 1 ≡ k + (a + 1) = omega arith in
    ap₂ (λ d (ds : List ℕ). char (drawn d) ∷ ds) (ap (λ i. after_draws i x) later ∙ draws_on k (suc a) x) (ap (λ i. characters char x i n) next ∙ characters_on char x k (a + 1) n)

-- the same from draw 0 on
characters_from : (char : ℕ → ℕ) (x k n : ℕ) → characters char (after_draws k x) 0 n ≡ characters char x k n
characters_from char x k n = let e : k + 0 ≡ k = omega arith in sym (characters_on char x k 0 n) ∙ ap (λ i. characters char x i n) e

-- the row from the state after the rows before it
row_at : (n m x r : ℕ) → row_from n m (after_draws (r * (n + m)) x) ≡ demo_row n m x r
row_at n m x r =
    let k = r * (n + m) in
    ap₂ (λ (ins outs : List ℕ). ins ∷ outs ∷ []) (characters_from input_char x k n)
    (ap (λ y. characters output_char y 0 m) (sym (draws_on k n x)) ∙ characters_from output_char x (k + n) m)

-- ---- one more character, and one more row

-- the state after one more draw, and the text with its character
pub draw_more : (char : ℕ → ℕ) (x k y z d : ℕ) (start now new : List ℕ) → y ≡ after_draws k x → z ≡ stepped y → d ≡ drawn z → now ≡ start ++ characters char x 0 k → new ≡ now ++ char d ∷ []
    → (new ≡ start ++ characters char x 0 (k + 1)) × (z ≡ after_draws (k + 1) x)
draw_more char x k y z d start now new a b c p q =
    let more : k + 1 ≡ suc k = omega arith in
    let state : z ≡ after_draws (suc k) x = b ∙ ap stepped a in (
      pushed start (characters char x 0 k) (char (draw x k) ∷ []) now new (characters char x 0 (k + 1)) p (q ∙ ap (λ e. now ++ char e ∷ []) (c ∙ ap drawn state)) (map-range_with_len_more (λ j. char (draw x j)) 0 k k (omega arith)),
      state ∙ ap (λ i. after_draws i x) (sym more),
    )

-- lines after lines
pub lines_more : (first later : List (List (List ℕ))) → text_of (first ++ later) ≡ text_of first ++ text_of later
lines_more first later = flat_map-append (λ ws. spaced ws ++ 10 ∷ []) first later

pub row_more : (n m x r y z : ℕ) (start now new : List ℕ) → y ≡ after_draws (r * (n + m)) x → z ≡ after_draws (n + m) y → now ≡ start ++ text_of (map (demo_row n m x) (range_with_len 0 r)) → new ≡ now ++ text_of (row_from n m y ∷ [])
    → (new ≡ start ++ text_of (map (demo_row n m x) (range_with_len 0 (r + 1)))) × (z ≡ after_draws ((r + 1) * (n + m)) x)
row_more n m x r y z start now new a b p q =
    let more : r * (n + m) + (n + m) ≡ (r + 1) * (n + m) = grind arith in
    let rows = map (demo_row n m x) (range_with_len 0 r) in
    let row : row_from n m y ≡ demo_row n m x r = ap (row_from n m) a ∙ row_at n m x r in
    let all : text_of (map (demo_row n m x) (range_with_len 0 (r + 1))) ≡ text_of rows ++ text_of (demo_row n m x r ∷ []) =
    ap text_of (map-range_with_len_more (demo_row n m x) 0 r r (omega arith)) ∙ lines_more rows (demo_row n m x r ∷ []) in (
      pushed start (text_of rows) (text_of (demo_row n m x r ∷ [])) now new _ p (q ∙ ap (λ (ws : List (List ℕ)). now ++ text_of (ws ∷ [])) row) all,
      b ∙ ap (after_draws (n + m)) a ∙ sym (draws_on (r * (n + m)) (n + m) x) ∙ ap (λ i. after_draws i x) more,
    )

-- How long the text of the demo is.
use Rattle.std.proofs.Common.{◌≡◌, ℕ, zero, suc, ◌+◌, ◌*◌, List, [], ◌∷◌, ◌++◌, length, map, codes, refl, ap, ◌∙◌, arith}
use Rattle.std.specs.List.{range_with_len}
use Rattle.std.specs.Fmt.{decimal}
use Rattle.std.proofs.lemmas.List.{length-append}
use Rattle.std.proofs.lemmas.List.Concat.{flat_map-append}
use Rattle.std.proofs.lemmas.List.FromFn.{length-map-range_with_len}
use Rattle.ae_base.specs.Text.{text_of, spaced}
use Rattle.demo_source.specs.Demo.{draw, characters, input_char, output_char, demo_row}
use Rattle.demo_source.proofs.Lines.{front, end_line}

length-characters : (char : ℕ → ℕ) (x k n : ℕ) → length (characters char x k n) ≡ n
length-characters char x k n = length-map-range_with_len (λ j. char (draw x j)) k n

-- the bytes of a line of two words
length-two : (v w : List ℕ) → length (spaced (v ∷ w ∷ []) ++ 10 ∷ []) ≡ length v + length w + 2
length-two v w = simp length-append (omega arith)

-- one line and those after it
length-lines : (ws : List (List ℕ)) (lines : List (List (List ℕ))) → length (text_of (ws ∷ lines)) ≡ length (spaced ws ++ 10 ∷ []) + length (text_of lines)
length-lines ws lines = length-append (spaced ws ++ 10 ∷ []) (text_of lines)

-- each row has a byte for each input and output, a blank and a line's end
length-rows : (n m x k a : ℕ) → length (text_of (map (demo_row n m x) (range_with_len a k))) ≡ k * (n + m + 2)
length-rows n m x zero a = omega arith
length-rows n m x (suc k) a =
    let ins = characters input_char x (a * (n + m)) n in
    let outs = characters output_char x (a * (n + m) + n) m in
    let step = length-lines (demo_row n m x a) (map (demo_row n m x) (range_with_len (a + 1) k)) in
    let times : suc k * (n + m + 2) ≡ (n + m + 2) + k * (n + m + 2) = grind arith in
    omega (arith, step, length-two ins outs, length-characters input_char x (a * (n + m)) n, length-characters output_char x (a * (n + m) + n) m, length-rows n m x k (a + 1), times)

-- the two headers, the rows and the last line
pub length-text : (n m x k : ℕ) → length (text_of (front n m (map (demo_row n m x) (range_with_len 0 k)) ++ end_line ∷ [])) ≡ length (decimal n) + length (decimal m) + k * (n + m + 2) + 11
length-text n m x k =
    let rows = map (demo_row n m x) (range_with_len 0 k) in
    let lines = front n m rows in
    let whole : text_of (lines ++ end_line ∷ []) ≡ text_of lines ++ text_of (end_line ∷ []) = flat_map-append (λ ws. spaced ws ++ 10 ∷ []) lines (end_line ∷ []) in
    let end : length (text_of (end_line ∷ [])) ≡ 3 = refl in
    let inputs : length (spaced (codes ".i" ∷ decimal n ∷ []) ++ 10 ∷ []) ≡ length (codes ".i") + length (decimal n) + 2 = length-two (codes ".i") (decimal n) in
    let outputs : length (spaced (codes ".o" ∷ decimal m ∷ []) ++ 10 ∷ []) ≡ length (codes ".o") + length (decimal m) + 2 = length-two (codes ".o") (decimal m) in
    let two : length (codes ".i") ≡ 2 = refl in
    let also_two : length (codes ".o") ≡ 2 = refl in
    omega (
      arith,
      ap length whole ∙ length-append (text_of lines) (text_of (end_line ∷ [])),
      end,
      length-lines (codes ".i" ∷ decimal n ∷ []) ((codes ".o" ∷ decimal m ∷ []) ∷ rows),
      length-lines (codes ".o" ∷ decimal m ∷ []) rows,
      inputs,
      outputs,
      two,
      also_two,
      length-rows n m x k 0,
    )

-- The text of the demo, written piece by piece.
use Rattle.std.proofs.Common.{◌≡◌, ℕ, ◌%◌, ◌^◌, List, [], ◌∷◌, ◌++◌, map, codes, sym, ap, ◌∙◌}
use Rattle.std.specs.List.{range_with_len}
use Rattle.std.specs.Fmt.{decimal}
use Rattle.ae_base.specs.Text.{text_of}
use Rattle.ae_base.specs.declared.form.Form.{Form}
use Rattle.demo_source.specs.Demo.{demo_inputs, demo_outputs, demo_rows, demo_row, demo_text}
use Rattle.demo_source.proofs.Draws.{lines_more}

more : (first later : List (List (List ℕ))) (now new : List ℕ) → now ≡ text_of first → new ≡ now ++ text_of later → new ≡ text_of (first ++ later)
more first later now new p q = q ∙ ap (λ l. l ++ text_of later) p ∙ sym (lines_more first later)

-- the lines of the sizes n, m and k from the state x on
abbrev text_with : ℕ → ℕ → ℕ → ℕ → List ℕ
text_with n m k x = text_of (((codes ".i" ∷ decimal n ∷ []) ∷ (codes ".o" ∷ decimal m ∷ []) ∷ map (demo_row n m x) (range_with_len 0 k)) ++ (codes ".e" ∷ []) ∷ [])

with_sizes : (n m k x a b c y : ℕ) → n ≡ a → m ≡ b → k ≡ c → x ≡ y → text_with n m k x ≡ text_with a b c y
with_sizes n m k x a b c y p q r s = ap (λ i. text_with i m k x) p ∙ ap (λ i. text_with a i k x) q ∙ ap (λ i. text_with a b i x) r ∙ ap (λ i. text_with a b c i) s

-- headers, rows and the last line, one after the other
pub demo_made : (seed : ℕ) (form : Form) (n m k x : ℕ) (start one two three new : List ℕ) → n ≡ demo_inputs form → m ≡ demo_outputs → k ≡ demo_rows form → x ≡ seed % 2 ^ 31 → start ≡ []
    → one ≡ start ++ text_of ((codes ".i" ∷ decimal n ∷ []) ∷ []) → two ≡ one ++ text_of ((codes ".o" ∷ decimal m ∷ []) ∷ []) → three ≡ two ++ text_of (map (demo_row n m x) (range_with_len 0 k)) → new ≡ three ++ codes ".e\n"
    → new ≡ demo_text seed form
unfolding demo_text
demo_made seed form n m k x start one two three new inputs outputs count state none p q r s =
    let i : List (List ℕ) = codes ".i" ∷ decimal n ∷ [] in
    let o : List (List ℕ) = codes ".o" ∷ decimal m ∷ [] in
    let rows = map (demo_row n m x) (range_with_len 0 k) in
    let first = more [] (i ∷ []) start one none p in
    let second = more (i ∷ []) (o ∷ []) one two first q in
    let third = more (i ∷ o ∷ []) rows two three second r in
    more (i ∷ o ∷ rows) ((codes ".e" ∷ []) ∷ []) three new third s ∙ with_sizes n m k x (demo_inputs form) demo_outputs (demo_rows form) (seed % 2 ^ 31) inputs outputs count state

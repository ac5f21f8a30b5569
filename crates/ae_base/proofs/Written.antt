-- Texts that are written piece by piece.
use Rattle.std.proofs.Common.{◌≡◌, ℕ, ◌+◌, List, [], ◌∷◌, ◌++◌, arith, sym, ap, ◌∙◌, append_assoc, map-id}
use Rattle.std.specs.List.{range_with_len}
use Rattle.std.proofs.lemmas.List.FromFn.{map-range_with_len_more}
use Rattle.ae_base.specs.Cube.{Product}
use Rattle.ae_base.specs.Mask.{Set, has}
use Rattle.ae_base.specs.Text.{bits_of, digit, cube_text, literal_text}

-- what is pushed after what stands
pub pushed : {X : Type 0} (start a b now new c : List X) → now ≡ start ++ a → new ≡ now ++ b → c ≡ a ++ b → new ≡ start ++ c
pushed start a b now new c p q r = q ∙ ap (λ l. l ++ b) p ∙ append_assoc start a b ∙ ap (λ l. start ++ l) (sym r)

-- one more number at the end of a range
pub range_more : (k : ℕ) → range_with_len 0 (k + 1) ≡ range_with_len 0 k ++ k ∷ []
range_more k = sym (map-id (range_with_len 0 (k + 1))) ∙ map-range_with_len_more (λ i. i) 0 k k (omega arith) ∙ ap (λ l. l ++ k ∷ []) (map-id (range_with_len 0 k))

-- one more digit of a set, and one more literal of a cube
pub bits_more : (n : ℕ) (s : Set) → bits_of (n + 1) s ≡ bits_of n s ++ digit (has s n) ∷ []
bits_more n s = map-range_with_len_more (λ j. digit (has s j)) 0 n n (omega arith)

pub cube_text_more : (n : ℕ) (c : Product) → cube_text (n + 1) c ≡ cube_text n c ++ literal_text c n ∷ []
cube_text_more n c = map-range_with_len_more (literal_text c) 0 n n (omega arith)

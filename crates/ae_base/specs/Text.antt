-- Texts that are written line by line, and texts of products.
use Rattle.std.specs.Prelude.{ℕ, Bool, if◌then◌else◌, List, [], ◌∷◌, ◌++◌, map}
use Rattle.std.specs.List.{flat_map, range_with_len}
use Rattle.std.specs.Ordering.{nat_cmp}
use Rattle.std.specs.Cmp.Lexicographic.{slice_cmp}
use Rattle.std.specs.declared.cmp.Ordering.{Ordering}
use Rattle.ae_base.specs.declared.limits.TheConstants.{WIDTH}
use Rattle.ae_base.specs.Mask.{Set, has}
use Rattle.ae_base.specs.Cube.{Product}

-- words with one blank between two
abbrev pub spaced : List (List ℕ) → List ℕ
spaced [] = []
spaced (w ∷ ws) = w ++ flat_map (λ v. 32 ∷ v) ws

-- lines of words, byte 10 after each line
abbrev pub text_of : List (List (List ℕ)) → List ℕ
text_of lines = flat_map (λ ws. spaced ws ++ 10 ∷ []) lines

-- the byte of a binary digit
abbrev pub digit : Bool → ℕ
digit b = if b then 49 else 48

-- a digit for each number below n, 1 where it is a member
abbrev pub bits_of : ℕ → Set → List ℕ
bits_of n s = map (λ j. digit (has s j)) (range_with_len 0 n)

-- 1 for a plain literal of input j, 0 for a complemented one, - for none
abbrev pub literal_text : Product → ℕ → ℕ
literal_text c j = if has c.pos j then 49 else (if has c.neg j then 48 else 45)

-- the literals of the inputs below n
abbrev pub cube_text : ℕ → Product → List ℕ
cube_text n c = map (literal_text c) (range_with_len 0 n)

-- the texts compared by bytes, so that - comes before 0 and 0 before 1
unfoldable pub cmp_text : Product → Product → Ordering
cmp_text c d = slice_cmp nat_cmp (cube_text WIDTH c) (cube_text WIDTH d)

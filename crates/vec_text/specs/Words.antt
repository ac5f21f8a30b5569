-- What the words of a line of a vector text say. A line's words are those after its first, unless it is said otherwise.
use Rattle.std.specs.Prelude.{ℕ, ◌+◌, ◌-◌, ◌==◌, Bool, not, ◌&&◌, ◌||◌, nat_le, if◌then◌else◌, List, [], ◌∷◌, length, map, codes, is_some, unwrap_or, bytes_eq}
use Rattle.std.specs.List.{list_all}
use Rattle.ae_base.specs.declared.limits.TheConstants.{PINS, WRITTEN_LINES}
use Rattle.ae_base.specs.Cube.{Signs}
use Rattle.ae_base.specs.Digits.{value, is_number, are_bits, ones, is_literal, cube_said}
use Rattle.ae_base.specs.Form.{form_of}
use Rattle.ae_base.specs.Name.{is_name}
use Rattle.ae_base.specs.Twins.{is_among}
use Rattle.ae_base.specs.declared.form.Form.{Form}
use Rattle.ae_base.specs.declared.form.Form.TheVariants.{Reddy}
use Rattle.ae_base.specs.declared.step.Step.{Step}
use Rattle.ae_base.specs.declared.step.Step.TheVariants.{S, L}
use Rattle.ae_lex.specs.Heads.{Word, word, heads}
use Rattle.vec_text.specs.declared.file.Vector.{Vector}
use Rattle.vec_text.specs.declared.file.EsopLine.{EsopLine}
use Rattle.vec_text.specs.declared.file.PlaceName.{PlaceName}
use Rattle.vec_text.specs.declared.file.PlaceName.TheVariants.{Stem, Pin, Port}
use Rattle.vec_text.specs.declared.file.Shown.{Shown}
use Rattle.vec_text.specs.declared.file.Shown.TheVariants.{Tree, Wide}
use Rattle.vec_text.specs.declared.file.Idle.{Idle}

-- the whole line is the head
abbrev pub is_head : List Word → Bool
is_head line = length line == 2 && heads (codes "andexor-vectors") line && bytes_eq (word line 1) (codes "1")

-- nothing is read after this line
abbrev pub is_end : List Word → Bool
is_end line = heads (codes "end") line

-- ---- the form

-- one of the forms
abbrev pub is_form : List Word → Bool
is_form words = length words == 1 && is_some (form_of (word words 0))

abbrev pub form_said : List Word → Form
form_said words = unwrap_or (form_of (word words 0)) Reddy

-- ---- names and numbers

-- one to WRITTEN_LINES names
unfoldable pub are_names : List Word → Bool
are_names words = nat_le 1 (length words) && nat_le (length words) WRITTEN_LINES && list_all is_name words

-- a number of 1 to 9 digits, from 1 to a limit
abbrev pub is_count : ℕ → Word → Bool
is_count limit word = is_number word && nat_le (value word) limit

-- ---- digits of points, and cubes

-- n characters 1, 0 and -
unfoldable pub is_cube : ℕ → Word → Bool
is_cube n word = length word == n && list_all is_literal word

-- a word of n digits
abbrev pub is_polarity : ℕ → List Word → Bool
is_polarity n words = length words == 1 && are_bits n (word words 0)

-- 1 is a plain literal of the input at its place
abbrev pub polarity_said : List Word → Signs
polarity_said words = record { n = length (word words 0); plain = ones (word words 0) }

-- a word of n digits, and one of m
abbrev pub is_vector : ℕ → ℕ → List Word → Bool
is_vector n m words = length words == 2 && are_bits n (word words 0) && are_bits m (word words 1)

abbrev pub vector_said : List Word → Vector
vector_said words = record { point = ones (word words 0); outs = ones (word words 1) }

-- the number of an output, which counts from 1, and a cube
abbrev pub esop_said : List Word → EsopLine
esop_said words = record { output = value (word words 0) - 1; cube = cube_said (word words 1) }

-- ---- undetectable faults

-- the words of the place: `stem` or `port` and a name, or `pin`, a gate's name and a number
abbrev pub place_len : List Word → ℕ
place_len words = if heads (codes "pin") words then 3 else 2

-- a place, a value and one word more
abbrev pub is_placed : List Word → Bool
is_placed words =
    length words == place_len words + 2 && is_among (word words 0) (codes "stem" ∷ codes "pin" ∷ codes "port" ∷ []) && is_name (word words 1)
    && is_among (word words (place_len words)) (codes "0" ∷ codes "1" ∷ [])

-- the number of a pin is from 1 to the most pins of a gate
abbrev pub is_numbered : List Word → Bool
is_numbered words = not (heads (codes "pin") words) || is_count PINS (word words 2)

abbrev pub place_said : List Word → PlaceName
place_said words = if heads (codes "pin") words then Pin (word words 1) (value (word words 2)) else if heads (codes "stem") words then Stem (word words 1) else Port (word words 1)

-- the tree is the word after the value
abbrev pub tree_at : List Word → Word
tree_at words = word words (place_len words + 1)

-- `wide`, or some letters S and L
unfoldable pub is_tree : Word → Bool
is_tree word = bytes_eq word (codes "wide") || (not (length word == 0) && list_all (λ b. b == 83 || b == 76) word)

abbrev pub step_said : ℕ → Step
step_said b = if b == 83 then S else L

unfoldable pub shown_said : Word → Shown
shown_said word = if bytes_eq word (codes "wide") then Wide else Tree (map step_said word)

abbrev pub idle_said : List Word → Idle
idle_said words = record { place = place_said words; value = bytes_eq (word words (place_len words)) (codes "1"); shown = shown_said (tree_at words) }

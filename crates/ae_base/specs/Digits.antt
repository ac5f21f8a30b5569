-- What the bytes of a word say: a decimal number, a set by its digits, or a cube.
use Rattle.std.specs.Prelude.{ℕ, ◌+◌, ◌-◌, ◌*◌, ◌==◌, Bool, ◌&&◌, ◌||◌, nat_lt, nat_le, List, length, fold, slice_index}
use Rattle.std.specs.List.{list_all}
use Rattle.ae_base.specs.Cube.{Product}
use Rattle.ae_base.specs.Mask.{Set, where_below}
use Rattle.ae_base.specs.declared.digits.TheConstants.{NUMBER_DIGITS}

-- ---- numbers

abbrev pub is_digit : ℕ → Bool
is_digit b = nat_le 48 b && nat_lt b 58

-- the decimal number that digits say; leading zeros are accepted
unfoldable pub value : List ℕ → ℕ
value digits = fold (λ n b. 10 * n + (b - 48)) 0 digits

-- a number of 1 to 9 digits, at least 1
unfoldable pub is_number : List ℕ → Bool
is_number word = nat_le (length word) NUMBER_DIGITS && list_all is_digit word && nat_lt 0 (value word)

-- ---- sets and cubes

abbrev pub is_bit : ℕ → Bool
is_bit b = b == 48 || b == 49

-- n digits 0 and 1
unfoldable pub are_bits : ℕ → List ℕ → Bool
are_bits n word = length word == n && list_all is_bit word

-- the places at which a byte stands
abbrev pub places_of : ℕ → List ℕ → Set
places_of b word = where_below (length word) (λ j. slice_index word j == b)

-- the places of the digit 1
unfoldable pub ones : List ℕ → Set
ones word = places_of 49 word

-- 1, 0 or -
abbrev pub is_literal : ℕ → Bool
is_literal b = is_bit b || b == 45

-- a byte for each input: 1 is its plain literal, 0 the complemented one, any other is none
unfoldable pub cube_said : List ℕ → Product
cube_said word = record { pos = places_of 49 word; neg = places_of 48 word }

-- Sums of products of literals and inner sums: how a list of cubes is factored.
use Rattle.std.specs.Prelude.{◌≡◌, ℕ, suc, ◌+◌, Bool, true, false, not, ◌&&◌, if◌then◌else◌, List, [], ◌∷◌, filter}
use Rattle.std.specs.List.{list_any}
use Rattle.ae_base.specs.Mask.{Set, differ}
use Rattle.ae_base.specs.Cube.{Product, holds, whole}
use Rattle.factor.specs.declared.literals.Literal.{Literal}
use Rattle.factor.specs.Literals.{stands, is_empty, with_literal, holding, others, IsMost, NoneTwice}

-- A sum, its summands one after the other: no further summand, where the sum has the constant or not; a product of literals, and the rest
-- of the sum; a product of literals and an inner sum, and the rest.
pub data Summands : Type 0 where
  end : Bool → Summands
  literals : Product → Summands → Summands
  factored : Product → Summands → Summands → Summands

-- the value at a point: the EXOR of the summands and of the constant
abbrev pub sum_value : Summands → Set → Bool
sum_value (end b) x = b
sum_value (literals ls rest) x = differ (holds ls x) (sum_value rest x)
sum_value (factored ls inner rest) x = differ (holds ls x && sum_value inner x) (sum_value rest x)

-- whether the sum has the constant
abbrev pub has_constant : Summands → Bool
has_constant (end b) = b
has_constant (literals ls rest) = has_constant rest
has_constant (factored ls inner rest) = has_constant rest

-- these products as summands, with the constant or without
abbrev pub plain_sum : List Product → Bool → Summands
plain_sum [] b = end b
plain_sum (c ∷ cs) b = literals c (plain_sum cs b)

-- Each cube that is not empty is a summand, in the order of the list. The empty cube is the constant.
abbrev pub flat_sum : List Product → Summands
flat_sum cs = plain_sum (filter (λ c. not (is_empty c)) cs) (list_any is_empty cs)

-- neither a summand nor the constant
abbrev pub is_nothing : Summands → Bool
is_nothing (end b) = not b
is_nothing (literals ls rest) = false
is_nothing (factored ls inner rest) = false

-- just one summand, and no constant
abbrev pub is_one : Summands → Bool
is_one (end b) = false
is_one (literals ls rest) = is_nothing rest
is_one (factored ls inner rest) = is_nothing rest

-- the literal joins the factors of the first summand, and other summands follow it
abbrev pub flattened : Literal → Summands → Summands → Summands
flattened t (end b) rest = rest
flattened t (literals ls _) rest = literals (with_literal t ls) rest
flattened t (factored ls inner _) rest = factored (with_literal t ls) inner rest

-- The product of the literal and the inner sum is the first summand, and the rest follows. Where the inner sum has just one summand and
-- no constant, the product is flattened.
abbrev pub joined : Literal → Summands → Summands → Summands
joined t inner rest = if is_one inner then flattened t inner rest else factored (with_literal t whole) inner rest

-- The sum of a list of cubes. Where some literal stands in two or more of the cubes, the one that stands in most is taken out: the cubes
-- that hold it form the inner sum, and the other cubes the rest.
pub data IsSum : List Product → Summands → Type 0 where
  flat : (cs : List Product) → NoneTwice cs → IsSum cs (flat_sum cs)
  taken : (cs : List Product) (t : Literal) (inner rest : Summands) → IsMost cs t → IsSum (holding t cs) inner → IsSum (others t cs) rest → IsSum cs (joined t inner rest)

-- no literal stands in both
abbrev pub AreApart : Product → Product → Type 0
AreApart c d = (t : Literal) → stands t c ≡ true → stands t d ≡ false

-- no literal of the product is a direct factor of a summand
abbrev pub IsApart : Product → Summands → Type 0
IsApart c (end b) = Unit {0}
IsApart c (literals ls rest) = AreApart c ls × IsApart c rest
IsApart c (factored ls inner rest) = AreApart c ls × IsApart c rest

-- no literal is a direct factor of two summands, in the sum and in each inner sum
abbrev pub FactorsDiffer : Summands → Type 0
FactorsDiffer (end b) = Unit {0}
FactorsDiffer (literals ls rest) = IsApart ls rest × FactorsDiffer rest
FactorsDiffer (factored ls inner rest) = IsApart ls rest × FactorsDiffer inner × FactorsDiffer rest

-- the number of summands of the sum and of all inner sums
abbrev pub nodes : Summands → ℕ
nodes (end b) = 0
nodes (literals ls rest) = suc (nodes rest)
nodes (factored ls inner rest) = suc (nodes inner + nodes rest)

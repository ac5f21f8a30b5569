-- A sum of the program as its summands, without the places in memory. For private contracts alone.
use Rattle.std.specs.Prelude.{◌≡◌, ℕ, ◌<◌, ◌≤◌, true, if◌then◌else◌, List, [], ◌∷◌, length}
use Rattle.ae_base.specs.declared.limits.TheConstants.{SOURCE_LINES}
use Rattle.ae_base.specs.Cube.{Product, whole}
use Rattle.factor.specs.declared.parts.Wires.{Wires}
use Rattle.factor.specs.declared.sums.Sum.{Sum, End, Literals', Factored'}
use Rattle.factor.specs.declared.literals.Literal.{Literal}
use Rattle.factor.specs.Literals.{stands, is_empty}
use Rattle.factor.specs.Sums.{Summands}
use Rattle.factor.specs.Sums.Summands.{end, literals, factored}

abbrev pub seen : Sum → Summands
seen (End b) = end b
seen (Literals' ls p rest) = literals ls (seen rest)
seen (Factored' ls p inner q rest) = factored ls (seen inner) (seen rest)

-- the direct factors of the first summand, none where there is no summand
abbrev pub first_factors : Summands → Product
first_factors (end b) = whole
first_factors (literals ls rest) = ls
first_factors (factored ls inner rest) = ls

-- the cube before the summands, where it is not empty
abbrev pub with_cube : Product → Summands → Summands
with_cube c s = if is_empty c then s else literals c s

-- the cubes before the summands
abbrev pub with_cubes : List Product → Summands → Summands
with_cubes [] s = s
with_cubes (c ∷ cs) s = with_cube c (with_cubes cs s)

-- it holds of each literal of the sum and of its inner sums
abbrev pub EachLiteral : (Literal → Type 0) → Summands → Type 0
EachLiteral P (end b) = Unit {0}
EachLiteral P (literals ls rest) = ((t : Literal) → stands t ls ≡ true → P t) × EachLiteral P rest
EachLiteral P (factored ls inner rest) = ((t : Literal) → stands t ls ≡ true → P t) × EachLiteral P inner × EachLiteral P rest

-- each literal is of an input below n
abbrev pub IsWithin : ℕ → Summands → Type 0
IsWithin n s = EachLiteral (λ t. t.input < n) s

-- few enough inputs and inverters
pub record AreWires (wires : Wires) : Type 0 where
  pub few_inputs : wires.inputs ≤ SOURCE_LINES
  pub few_turned : length wires.turned ≤ SOURCE_LINES

-- Points, literals, products of literals, and EXOR sums of products (Sasao, "Switching Theory for Logic Synthesis").
use Rattle.std.specs.Prelude.{◌≡◌, ◌==◌, ℕ, Bool, true, false, not, if◌then◌else◌, List, [], ◌∷◌, AllPairs}
use Rattle.std.specs.List.{list_all}
use Rattle.std.specs.Ordering.{is_lt}
use Rattle.std.specs.declared.cmp.Ordering.TheVariants.{Less}
use Rattle.ae_base.specs.Mask.{Set, differ, has, first, inside, members, cmp_terms}
use Rattle.ae_base.specs.Cube.{Signs}

-- A point of n inputs is the set of the inputs that are 1, all of them below n.
abbrev pub IsPoint : ℕ → Set → Type 0
IsPoint n x = inside x (first n) ≡ true

-- the value of the literal of input j at a point: the input where it is plain, else its complement
abbrev pub literal : Signs → ℕ → Set → Bool
literal p j x = if has p.plain j then has x j else not (has x j)

-- the product of the literals of a term's members; the empty term means 1
unfoldable pub product : Signs → Set → Set → Bool
product p t x = list_all (λ j. literal p j x) (members t)

-- the EXOR of what a test says of each element
abbrev pub exor_of : (Set → Bool) → List Set → Bool
exor_of f [] = false
exor_of f (t ∷ ts) = differ (f t) (exor_of f ts)

-- the EXOR of the products of the terms at a point
abbrev pub value : Signs → List Set → Set → Bool
value p ts x = exor_of (λ t. product p t x) ts

-- in term order, without repeats
abbrev pub IsInOrder : List Set → Type 0
IsInOrder ts = AllPairs (λ s t. cmp_terms s t ≡ Less) ts

-- puts a term in its place in a list in term order, where it is not there yet
abbrev pub placed : Set → List Set → List Set
placed t [] = t ∷ []
placed t (u ∷ us) = if t == u then u ∷ us else if is_lt (cmp_terms t u) then t ∷ u ∷ us else u ∷ placed t us

-- the terms of a list in term order, once each
abbrev pub in_order : List Set → List Set
in_order [] = []
in_order (t ∷ ts) = placed t (in_order ts)

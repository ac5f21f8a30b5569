-- The order of the cubes of a list: that of their texts.
use Rattle.std.specs.Prelude.{if◌then◌else◌, List, [], ◌∷◌}
use Rattle.std.specs.Ordering.{is_lt}
use Rattle.ae_base.specs.Cube.{Product}
use Rattle.ae_base.specs.Text.{cmp_text}

-- puts a cube after those that come before it
abbrev pub placed : Product → List Product → List Product
placed c [] = c ∷ []
placed c (d ∷ ds) = if is_lt (cmp_text d c) then d ∷ placed c ds else c ∷ d ∷ ds

-- the cubes of a list in order
abbrev pub in_order : List Product → List Product
in_order [] = []
in_order (c ∷ cs) = placed c (in_order cs)

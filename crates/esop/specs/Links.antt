-- Two cubes near each other, and what replaces them with the same meaning (after the exorlink operation of the AND-EXOR literature).
use Rattle.std.specs.Prelude.{ℕ, ◌||◌, if◌then◌else◌, List, [], ◌∷◌, slice_index}
use Rattle.ae_base.specs.Cube.{Product}
use Rattle.ae_base.specs.Mask.{Set, has, with, without, either, xor, members}
pub use Rattle.esop.specs.declared.links.Link.{Link}

-- the inputs at which the literals of two cubes differ; their distance is the number of these
abbrev pub apart : Product → Product → Set
apart c d = either (xor c.pos d.pos) (xor c.neg d.neg)

-- The first cube, but with the third literal at an input where the two differ: of plain, complemented and none the one that neither has.
-- It is the EXOR of the two literals.
abbrev pub with_third : Product → Product → ℕ → Product
with_third c d j = record {
  pos = if has c.pos j || has d.pos j then without c.pos j else with c.pos j;
  neg = if has c.neg j || has d.neg j then without c.neg j else with c.neg j;
}

-- the EXOR of two cubes at distance 1, as one cube; that of 00- and 000 is 001
abbrev pub merge : Product → Product → Product
merge c d = with_third c d (slice_index (members (apart c d)) 0)

-- of two cubes that differ at p and q: the first one with the third literal at p, and the second one with it at q
abbrev pub link : Product → Product → ℕ → ℕ → Link
link c d p q = record { first = with_third c d p; second = with_third d c q }

abbrev pub links_at : List ℕ → Product → Product → List Link
links_at (p ∷ q ∷ []) c d = link c d p q ∷ link c d q p ∷ []
links_at _ c d = []

-- The two links of cubes at distance 2, the one by the lower input first; no others have any. Those of --- and 10- are
-- 0-- with 11-, and -1- with 00-.
abbrev pub links : Product → Product → List Link
links c d = links_at (members (apart c d)) c d

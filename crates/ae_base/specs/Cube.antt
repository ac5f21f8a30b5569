-- Products of literals, and the signs of inputs.
use Rattle.std.specs.Prelude.{◌≡◌, ℕ, ◌≤◌, ◌<◌, ◌==◌, Bool, true, false, not, ◌&&◌, if◌then◌else◌}
use Rattle.ae_base.specs.declared.limits.TheConstants.{NET_LINES}
use Rattle.ae_base.specs.Mask as set
use Rattle.ae_base.specs.Mask.{Set}

-- the inputs with a plain literal, and those with a complemented one
pub record Product : Type 0 where
  pub pos : Set
  pub neg : Set

-- no input has both literals
abbrev pub IsProduct : Product → Type 0
IsProduct c = (j : ℕ) → set.has c.pos j ≡ true → set.has c.neg j ≡ false

-- every literal is of an input below n
abbrev pub IsOver : ℕ → Product → Type 0
IsOver n c = IsProduct c × (set.inside c.pos (set.first n) ≡ true) × (set.inside c.neg (set.first n) ≡ true)

unfoldable pub whole : Product
whole = record { pos = set.empty; neg = set.empty }

-- the product has no literal of input j
abbrev pub is_free : Product → ℕ → Bool
is_free c j = not (set.has c.pos j) && not (set.has c.neg j)

-- with the literal of input j
abbrev pub with : Product → ℕ → Bool → Product
with c j plain = if plain then record c { pos = set.with c.pos j } else record c { neg = set.with c.neg j }

-- each plain literal is 1 at the point, and each complemented one is 0
unfoldable pub holds : Product → Set → Bool
holds c x = set.inside c.pos x && set.len (set.both c.neg x) == 0

-- every literal is 1 at the point
abbrev pub EachHolds : Product → Set → Type 0
EachHolds c x = ((j : ℕ) → set.has c.pos j ≡ true → set.has x j ≡ true) × ((j : ℕ) → set.has c.neg j ≡ true → set.has x j ≡ false)

-- some point is in both
unfoldable pub meet : Product → Product → Bool
meet c d = set.len (set.both c.pos d.neg) == 0 && set.len (set.both c.neg d.pos) == 0

-- the number of inputs at which the literals differ
unfoldable pub distance : Product → Product → ℕ
distance c d = set.len (set.either (set.xor c.pos d.pos) (set.xor c.neg d.neg))

-- for each of n inputs, whether its literal is plain
pub record Signs : Type 0 where
  pub n : ℕ
  pub plain : Set

abbrev pub IsSigns : Signs → Type 0
IsSigns p = (p.n ≤ NET_LINES) × ((j : ℕ) → set.has p.plain j ≡ true → j < p.n)

-- Words of private contracts alone: the search for the first pair that a step takes.
use Rattle.std.specs.Prelude.{◌≡◌, ◌<◌, ◌⊎◌, ℕ, suc, true, false, ◌-◌, ◌==◌, Bool, List, length, find, Option, is_some, unwrap_or, All}
use Rattle.std.specs.List.{range_with_len}
use Rattle.std.specs.List.Sorted.{IsSorted}
use Rattle.ae_base.specs.declared.limits.TheConstants.{WIDTH}
use Rattle.ae_base.specs.Cube.{Product, IsOver, distance}
use Rattle.ae_base.specs.Text.{cmp_text}
use Rattle.esop.specs.Rewriting.{pairs, useful_link}
use Rattle.esop.specs.Settled.{cube_at}
use Rattle.esop.specs.declared.pairs.Sought.{Sought}
use Rattle.esop.specs.declared.pairs.Sought.TheVariants.{Adjacent, Linked}

-- the cubes stand in the order of their texts, so that equal ones follow each other
pub record IsOrdered (cs : List Product) : Type 0 where
  pub over : All (IsOver WIDTH) cs
  pub order : IsSorted cmp_text cs

-- whether the cubes at a pair of places are as sought
abbrev pub is_sought : Sought → List Product → ℕ × ℕ → Bool
is_sought Adjacent cs p = distance (cube_at cs p.0) (cube_at cs p.1) == 1
is_sought Linked cs p = is_some (useful_link cs p)

-- the first place after i that makes a pair with it as sought
abbrev pub partner : Sought → List Product → ℕ → Option ℕ
partner s cs i = find (λ j. is_sought s cs (i, j)) (range_with_len (suc i) (length cs - suc i))

-- the first pair of places whose cubes are as sought
unfoldable pub first_pair : Sought → List Product → Option (ℕ × ℕ)
first_pair s cs = find (is_sought s cs) (pairs (length cs))

-- Whether a step applied, and the list after it: what the step gives, or the list before.
abbrev pub IsTaken : Option (List Product) → List Product → List Product → Bool → Type 0
IsTaken next before after applied = (applied ≡ is_some next) × (after ≡ unwrap_or next before)

-- The pair passes the test, and no pair before it in lexicographic order does. The law of pairs: this is what is found first in `pairs`.
pub record IsFirstPair (test : ℕ × ℕ → Bool) (n : ℕ) (p : ℕ × ℕ) : Type 0 where
  pub order : p.0 < p.1
  pub within : p.1 < n
  pub passes : test p ≡ true
  pub before : (i j : ℕ) → i < j → j < n → (i < p.0) ⊎ ((i ≡ p.0) × (j < p.1)) → test (i, j) ≡ false

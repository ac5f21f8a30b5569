-- For private contracts alone: what the code keeps between two steps of placing.
use Rattle.std.specs.Prelude.{◌≡◌, ℕ, ◌<◌, ◌==◌, nat_lt, Bool, true, not, ◌&&◌, List, [], length, slice_index, slice_index_or}
use Rattle.std.specs.List.{count_by}
use Rattle.std.specs.Ordering.{nat_cmp}
use Rattle.std.specs.BTreeSet.{BTreeSet, contains}
use Rattle.blif_order.specs.Order.{is_placed, waits, can_go}

abbrev pub count : ℕ → List ℕ → ℕ
count i xs = count_by (λ x. x == i) xs

-- of those in the list, how many aren't placed
abbrev pub count_left : List ℕ → List ℕ → ℕ
count_left placed xs = count_by (λ x. not (is_placed placed x)) xs

-- users has at d each i as often as i waits for d
abbrev pub AreUsers : List (List ℕ) → List (List ℕ) → Type 0
AreUsers needs users = (d i : ℕ) → d < length needs → count i (slice_index_or users d []) ≡ count d (waits needs i)

-- for each number how many are missing that it waits for
abbrev pub AreMissing : List (List ℕ) → List ℕ → List ℕ → Type 0
AreMissing needs placed missing = (i : ℕ) → i < length needs → slice_index missing i ≡ count_left placed (waits needs i)

abbrev pub has : BTreeSet ℕ → ℕ → Bool
has ready i = contains nat_cmp ready i

-- the set has those that can go
abbrev pub AreReady : List (List ℕ) → List ℕ → BTreeSet ℕ → Type 0
AreReady needs placed ready = (i : ℕ) → has ready i ≡ (nat_lt i (length needs) && can_go needs placed i)

-- what the code keeps between two steps
pub record IsState (needs : List (List ℕ)) (placed missing : List ℕ) (ready : BTreeSet ℕ) : Type 0 where
  pub missing_are : AreMissing needs placed missing
  pub settled : (i : ℕ) → i < length needs → is_placed placed i ≡ true → slice_index missing i ≡ 0
  pub ready_are : AreReady needs placed ready

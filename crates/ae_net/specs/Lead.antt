-- The number of underscores of inner names as a function: `lead` meets `IsLead`, and is the only number that does.
use Rattle.std.specs.Prelude.{ℕ, zero, suc, if◌then◌else◌, List, [], ◌∷◌, ◌++◌, map, max, ◌≤◌}
use Rattle.ae_net.specs.Names.{Names, underscores, is_taken}

-- the least number from k on that is not taken, where one of the next `more` is free or the number after them is
abbrev pub free_from : List (List ℕ) → ℕ → ℕ → ℕ
free_from names zero k = k
free_from names (suc more) k = if is_taken names k then free_from names more (suc k) else k

abbrev pub greatest : List ℕ → ℕ
greatest [] = 0
greatest (n ∷ ns) = max n (greatest ns)

-- the number of underscores that inner names begin with: it is at most one more than any source name begins with
unfoldable pub lead : Names → ℕ
lead names = free_from (names.inputs ++ names.outputs) (greatest (map underscores (names.inputs ++ names.outputs))) 1

-- a lowercase letter
abbrev pub IsLetter : ℕ → Type 0
IsLetter b = (97 ≤ b) × (b ≤ 122)

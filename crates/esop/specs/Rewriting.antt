-- Rewriting a list of cubes: pairs of near cubes are merged and linked until the list is settled. The order of the steps is this project's
-- own. Example: ---, 000 and 10- are rewritten to -1- and 001, by the useful link -1-, 00- of the first and the third, and a merge.
use Rattle.std.specs.Prelude.{ℕ, zero, suc, ◌-◌, ◌*◌, ◌==◌, nat_lt, Bool, ◌||◌, List, length, map, find, flat_map, Option, is_some, unwrap_or, option_map, option_and_then}
use Rattle.std.specs.List.{list_any, range_with_len}
use Rattle.std.specs.Option.{option_or}
use Rattle.ae_base.specs.Cube.{Product, distance}
use Rattle.esop.specs.Esop.{Cubes}
use Rattle.esop.specs.Links.{Link, links, merge}
use Rattle.esop.specs.Order.{placed}
use Rattle.esop.specs.Settled.{cube_at, others}

-- the pairs of places below n, the lower place first, in lexicographic order
abbrev pub pairs : ℕ → List (ℕ × ℕ)
pairs n = flat_map (λ i. map (λ j. (i, j)) (range_with_len (suc i) (n - suc i))) (range_with_len 0 n)

-- the first pair of places whose cubes have this distance
abbrev pub first_at : ℕ → List Product → Option (ℕ × ℕ)
first_at k cs = find (λ p. distance (cube_at cs p.0) (cube_at cs p.1) == k) (pairs (length cs))

-- some cube of the list is at a distance below 2
abbrev pub is_near : List Product → Product → Bool
is_near ds c = list_any (λ d. nat_lt (distance c d) 2) ds

-- the first link of a pair that gives a cube at a distance below 2 from a third one
abbrev pub useful_link : List Product → ℕ × ℕ → Option Link
useful_link cs p = find (λ l. is_near (others cs p.0 p.1) l.first || is_near (others cs p.0 p.1) l.second) (links (cube_at cs p.0) (cube_at cs p.1))

-- The first pair of equal cubes goes.
unfoldable pub cancelled : List Product → Option (List Product)
cancelled cs = option_map (λ p. others cs p.0 p.1) (first_at 0 cs)

-- The first pair at distance 1 becomes one cube.
unfoldable pub merged : List Product → Option (List Product)
merged cs = option_map (λ p. placed (merge (cube_at cs p.0) (cube_at cs p.1)) (others cs p.0 p.1)) (first_at 1 cs)

-- The first pair with a useful link becomes that link.
unfoldable pub linked : List Product → Option (List Product)
linked cs = option_and_then (λ p. option_map (λ l. placed l.first (placed l.second (others cs p.0 p.1))) (useful_link cs p)) (find (λ p. is_some (useful_link cs p)) (pairs (length cs)))

-- what the first of these that applies gives, where one does
abbrev pub next_list : List Product → Option (List Product)
next_list cs = option_or (cancelled cs) (option_or (merged cs) (linked cs))

-- A step is the first of these that applies, and keeps the list where none does.
unfoldable pub rewrite_step : List Product → List Product
rewrite_step cs = unwrap_or (next_list cs) cs

abbrev pub steps : ℕ → List Product → List Product
steps zero cs = cs
steps (suc k) cs = steps k (rewrite_step cs)

-- The result of twice as many steps as there are cubes: of any two steps at least one removes a cube, until the list is settled.
unfoldable pub rewritten : List Product → List Product
rewritten cs = steps (2 * length cs) cs

-- each output's list rewritten
abbrev pub rewritten_lists : Cubes → Cubes
rewritten_lists e = record e { outs = map rewritten e.outs }

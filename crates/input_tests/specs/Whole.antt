-- The vectors of the cascade, and how many they are at most.
use Rattle.std.specs.Prelude.{ℕ, ◌+◌, ◌*◌, ◌==◌, not, List, ◌++◌, filter}
use Rattle.std.specs.List.{list_any}
use Rattle.ae_base.specs.Mask.{Set, len}
use Rattle.expansion.specs.Terms.{Terms, used_inputs}
use Rattle.universal_tests.specs.Universal.{universal_vectors}
use Rattle.input_tests.specs.Inputs.{input_vectors_of}

-- the vectors of the second list that are not in the first
abbrev pub new_ones : List Set → List Set → List Set
new_ones xs ys = filter (λ y. not (list_any (λ x. x == y) xs)) ys

-- the universal vectors, and then those of the even inputs that are not among them
unfoldable pub cascade_tests : Terms → List Set
cascade_tests e =
    let universal = universal_vectors e.polarity (used_inputs e) in
    universal ++ new_ones universal (input_vectors_of e)

-- the number n of inputs, 4, and two for each even input
abbrev pub vector_bound : ℕ → Set → ℕ
vector_bound n evens = n + 4 + 2 * len evens

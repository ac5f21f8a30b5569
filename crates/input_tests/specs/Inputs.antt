-- The two vectors of each even input. That two vectors for each even input suffice for several outputs, whatever terms they share, is this
-- project's own, after S. M. Reddy, "Easily Testable Realizations for Logic Functions", 1972.
use Rattle.std.specs.Prelude.{ℕ, false, Option, Some, None, List, [], ◌∷◌}
use Rattle.std.specs.List.{find, flat_map}
use Rattle.ae_base.specs.Mask.{Set, has, xor, members}
use Rattle.ae_base.specs.Cube.{Signs}
use Rattle.ae_base.specs.Lists.{without_repeats}
use Rattle.ae_base.specs.Points.{flipped}
use Rattle.expansion.specs.Even.{even_inputs}
use Rattle.expansion.specs.Terms.{Terms, used_inputs}
use Rattle.cascade.specs.FirstVectors.{literals_at}

-- of the first output whose expansion holds the input, the first term that holds it
abbrev pub first_term : Terms → ℕ → Option Set
first_term e j = find (λ t. has t j) (flat_map (λ ts. ts) e.outs)

-- control 0, the literals of the term at 1 and those of the other used inputs at 0: all literals at 0, but the term's the other way
unfoldable pub term_high : Signs → Set → Set → Set
term_high p used t = xor (literals_at p used false) t

-- the same with the literal of input j at 0
unfoldable pub term_but : Signs → Set → ℕ → Set → Set
term_but p used j t = flipped j (term_high p used t)

abbrev pub pair_at : Signs → Set → ℕ → Option Set → List Set
pair_at p used j None = []
pair_at p used j (Some t) = term_high p used t ∷ term_but p used j t ∷ []

-- The two vectors of each even input in order. A vector that is equal to an earlier one is left out.
unfoldable pub input_vectors_of : Terms → List Set
input_vectors_of e = without_repeats (flat_map (λ j. pair_at e.polarity (used_inputs e) j (first_term e j)) (members (even_inputs e)))

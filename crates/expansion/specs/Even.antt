-- Even inputs: for them the universal vectors of the Reddy form do not suffice (after S. M. Reddy, "Easily Testable Realizations for Logic
-- Functions", 1972; for several outputs this is the project's own).
use Rattle.std.specs.Prelude.{◌≡◌, ◌↔◌, ℕ, ◌<◌, Bool, true, not, ◌&&◌, length}
use Rattle.std.specs.List.{list_any}
use Rattle.ae_base.specs.Mask.{Set, differ, has, where_below}
use Rattle.ae_base.specs.Cube.{Signs}
use Rattle.ae_base.specs.Points.{flipped}
use Rattle.ae_base.specs.Source.{Source, on_set, IsUsed}
use Rattle.ae_base.specs.Terms.{value}
use Rattle.expansion.specs.Terms.{Terms, is_used}

-- the point at which the literal of each input is 1
abbrev pub all_high : Signs → Set
all_high p = where_below p.n (has p.plain)

-- ---- of a source

-- The input is used, and flipping it where all literals are 1 changes no output.
pub record IsEven (s : Source) (p : Signs) (j : ℕ) : Type 0 where
  pub used : IsUsed s j
  pub kept : (o : ℕ) → o < length s.outputs → on_set s o (flipped j (all_high p)) ≡ on_set s o (all_high p)

-- the set of the even inputs
abbrev pub AreEven : Source → Signs → Set → Type 0
AreEven s p evens = (j : ℕ) → (has evens j ≡ true) ↔ IsEven s p j

-- ---- of expansions: the law of even inputs ties the two

-- flipping the input where all literals are 1 changes the value of some output's terms
abbrev pub is_turned : Terms → ℕ → Bool
is_turned e j = list_any (λ ts. differ (value e.polarity ts (all_high e.polarity)) (value e.polarity ts (flipped j (all_high e.polarity)))) e.outs

-- the used inputs whose flip changes no output
unfoldable pub even_inputs : Terms → Set
even_inputs e = where_below e.polarity.n (λ j. is_used e j && not (is_turned e j))

-- What the advisors of this crate propose. For private contracts alone.
use Rattle.std.specs.Prelude.{◌≡◌, ℕ, suc, ◌-◌, nat_lt, List, [], ◌∷◌, ◌++◌, drop, slice_index, Option, Some, None, Result, Ok, Err}
use Rattle.ae_base.specs.Mask.{Set, both, empty, first, where_below}
use Rattle.ae_base.specs.Cube.{Signs}
use Rattle.ae_base.specs.declared.memory.Memory.{Memory}
use Rattle.polarity.specs.Advisors.{entry_of}
use Rattle.polarity.specs.Draws.{after_draws, drawn}
use Rattle.polarity.specs.declared.entry.Entry.{Entry}
use Rattle.polarity.specs.declared.entry.Told.TheVariants.{Untold}

-- A call of next gives p and leaves the advisor as moved. Where it gives none, the advisor is as before.
abbrev pub Moves : {A : Type 0} → Signs → A → A → A → Result (Option Signs) Memory → Type 0
Moves p moved before after (Ok (Some q)) = (q ≡ p) × (after ≡ moved)
Moves p moved before after (Ok None) = after ≡ before
Moves p moved before after (Err _) = after ≡ before

-- the log with one more entry, untold
abbrev pub proposed : List Entry → Signs → List Entry
proposed log p = log ++ entry_of p Untold ∷ []

-- ---- each input complemented

abbrev pub all_complemented : ℕ → Signs
all_complemented n = record { n = n; plain = empty }

-- ---- a walk, by the generator of numbers

-- one draw for each of n inputs in order: the input is plain where it gives 0 or 1
abbrev pub walked : ℕ → ℕ → Signs
walked n x = record { n = n; plain = where_below n (λ j. nat_lt (drawn (after_draws (suc j) x)) 2) }

-- how many proposals are left, the state of the generator, and the log
pub record Walk : Type 0 where
  pub left : ℕ
  pub state : ℕ
  pub log : List Entry

abbrev pub walk_on : ℕ → Walk → Walk
walk_on n w = record { left = w.left - 1; state = after_draws n w.state; log = proposed w.log (walked n w.state) }

-- ---- a list

-- the masks that are left, and the log
pub record Listing : Type 0 where
  pub masks : List Set
  pub log : List Entry

-- the first mask, cut to n inputs
abbrev pub next_listed : ℕ → Listing → Signs
next_listed n l = record { n = n; plain = both (slice_index l.masks 0) (first n) }

abbrev pub list_on : ℕ → Listing → Listing
list_on n l = record { masks = drop 1 l.masks; log = proposed l.log (next_listed n l) }

-- What the calls of advisors give.
use Rattle.std.specs.Prelude.{◌≡◌, ℕ, ◌<◌, Bool, true, false, List, [], ◌∷◌, ◌++◌, Option, Some, None, Result, Ok, Err}
use Rattle.ae_base.specs.Cube.{Signs}
use Rattle.ae_base.specs.declared.memory.Memory.{Memory}
use Rattle.polarity.specs.declared.entry.Entry.{Entry}
use Rattle.polarity.specs.declared.entry.Told.{Told}
use Rattle.polarity.specs.declared.entry.Told.TheVariants.{Untold, Over, Cost}

abbrev pub entry_of : Signs → Told → Entry
entry_of p t = record { polarity = p; cost = t }

abbrev pub is_untold : Told → Bool
is_untold Untold = true
is_untold Over = false
is_untold (Cost c) = false

-- the last entry was not told its cost
abbrev pub ends_untold : List Entry → Bool
ends_untold [] = false
ends_untold (e ∷ []) = is_untold e.cost
ends_untold (e ∷ f ∷ rest) = ends_untold (f ∷ rest)

-- What is left and the log after a call of next: nothing is given exactly where nothing is left, else a polarity of n inputs, which the
-- log has at its end.
abbrev pub NextGives : ℕ → ℕ → List Entry → ℕ → List Entry → Result (Option Signs) Memory → Type 0
NextGives n left log left' log' (Ok None) = (left ≡ 0) × (left' ≡ left) × (log' ≡ log)
NextGives n left log left' log' (Ok (Some p)) = (left' < left) × (p.n ≡ n) × (log' ≡ log ++ entry_of p Untold ∷ [])
NextGives n left log left' log' (Err _) = (left' ≡ left) × (log' ≡ log)

-- what is told by a cost, and by none
abbrev pub told_of : Option ℕ → Told
told_of None = Over
told_of (Some c) = Cost c

-- the entry at the end, which was untold, is told
abbrev pub TellsLast : Option ℕ → List Entry → List Entry → Type 0
TellsLast cost log log' = (front : List Entry) (p : Signs) → log ≡ front ++ entry_of p Untold ∷ [] → log' ≡ front ++ entry_of p (told_of cost) ∷ []

-- The first fault of a line, and of a text: readers tell what makes a line faulty as a list of conditions, each with its fault, in order.
use Rattle.std.specs.Prelude.{ℕ, Bool, if◌then◌else◌, Option, Some, None, Result, Ok, Err, List, [], ◌∷◌, ◌++◌, option_map, unwrap_or}
use Rattle.std.specs.List.{find}
use Rattle.std.specs.Option.{option_or}
use Rattle.ae_lex.specs.Heads.{Word}
use Rattle.ae_lex.specs.Words.{WordLine}

-- the fault of the first condition that holds
abbrev pub first_of : {F : Type 0} → List (Bool × F) → Option F
first_of [] = None
first_of (c ∷ cs) = if c.0 then Some c.1 else first_of cs

-- a fault with the number of its line
abbrev pub at_line : {F : Type 0} → ℕ → Option F → Option (ℕ × F)
at_line number fault = option_map (λ f. (number, f)) fault

-- the number and the fault of the first faulty line, each line judged by its words and the lines before it
abbrev pub first_fault : {F : Type 0} → (List (List Word) → List Word → List (Bool × F)) → List (List Word) → List WordLine → Option (ℕ × F)
first_fault faults before [] = None
first_fault faults before (line ∷ lines) =
    option_or (at_line line.number (first_of (faults before line.words))) (first_fault faults (before ++ line.words ∷ []) lines)

-- of a text with so many lines, the number of the last line that is read: nothing is read after the first that ends it
abbrev pub last_read : (List Word → Bool) → ℕ → List WordLine → ℕ
last_read ends last lines = unwrap_or (option_map (λ line. line.number) (find (λ line. ends line.words) lines)) last

-- a text says this where it has no fault
abbrev pub judged : {F X : Type 0} → Option (ℕ × F) → X → Result X (ℕ × F)
judged None said = Ok said
judged (Some fault) said = Err fault

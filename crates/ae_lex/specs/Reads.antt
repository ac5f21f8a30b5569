-- For private contracts alone: what a reader answers.
use Rattle.std.specs.Prelude.{◌≡◌, ℕ, Bool, Some, None, Result, Ok, Err, List, [], map}
use Rattle.ae_lex.specs.First.{first_of, first_fault}
use Rattle.ae_lex.specs.Heads.{Word}
use Rattle.ae_lex.specs.Words.{WordLine}
use Rattle.ae_lex.specs.declared.errors.LineErr.{LineErr}
use Rattle.ae_lex.specs.declared.errors.LineErr.TheVariants as line
use Rattle.ae_lex.specs.declared.errors.TextErr.{TextErr}
use Rattle.ae_lex.specs.declared.errors.TextErr.TheVariants as text

-- of a text exactly what it says, or its first fault; want of memory is free
abbrev pub Gives : {F X : Type 0} → Result X (ℕ × F) → Result X (TextErr F) → Type 0
Gives said (Ok x) = said ≡ Ok x
Gives said (Err (text.At number what)) = said ≡ Err (number, what)
Gives said (Err text.Memory) = Unit {0}

-- of a line its first fault, or where it has none what then holds
abbrev pub Takes : {F X : Type 0} → List (Bool × F) → Type 0 → Result X (LineErr F) → Type 0
Takes faults next (Ok x) = (first_of faults ≡ None) × next
Takes faults next (Err (line.Fault fault)) = first_of faults ≡ Some fault
Takes faults next (Err line.Memory) = Unit {0}

-- the words of each line
abbrev pub words_of : List WordLine → List (List Word)
words_of lines = map (λ line. line.words) lines

-- of lines the first fault, or where they have none this answer and what then holds
abbrev pub ReadsAll : {F X : Type 0} → (List (List Word) → List Word → List (Bool × F)) → List WordLine → X → (List WordLine → Type 0) → Result X (TextErr F) → Type 0
ReadsAll faults lines answer next (Ok x) = (first_fault faults [] lines ≡ None) × (x ≡ answer) × next lines
ReadsAll faults lines answer next (Err (text.At number what)) = first_fault faults [] lines ≡ Some (number, what)
ReadsAll faults lines answer next (Err text.Memory) = Unit {0}

-- Names of gates, so made that no name stands twice: inner names by letters, and the names of outputs. For laws alone.
use Rattle.std.specs.Prelude.{◌≡◌, ℕ, suc, ◌+◌, ◌<◌, ◌^◌, false, List, [], ◌∷◌, ◌++◌, map, All, sum}
use Rattle.std.specs.List.{flat_map, range_with_len}
use Rattle.std.specs.Fmt.{decimal}
use Rattle.ae_net.specs.Lead.{IsLetter}
use Rattle.ae_net.specs.Names.{is_taken, inner}
use Rattle.ae_net.specs.Valid.{IsDistinct}

-- inner names of one letter, by the texts after it
pub record Group : Type 0 where
  pub letter : ℕ
  pub texts : List (List ℕ)

abbrev pub names_in : ℕ → Group → List (List ℕ)
names_in k group = map (λ text. inner k (group.letter ∷ text)) group.texts

-- n numbers in a row, the first of them being suc c
abbrev pub numbered : ℕ → ℕ → ℕ → ℕ → List (List ℕ)
numbered k letter c n = map (λ i. inner k (letter ∷ decimal (suc i))) (range_with_len c n)

-- before each output's name so many inner names of one letter as its count says, whose numbers go on from output to output
abbrev pub names_to_outputs : ℕ → ℕ → ℕ → List ℕ → List (List ℕ) → List (List ℕ)
names_to_outputs k letter c [] outs = []
names_to_outputs k letter c (n ∷ counts) [] = []
names_to_outputs k letter c (n ∷ counts) (out ∷ outs) = numbered k letter c n ++ (out ∷ names_to_outputs k letter (c + n) counts outs)

-- The names are those of groups, and then those that lead to the outputs. No letter stands for two of these, and no text twice in a group.
pub record AreGateNames (k : ℕ) (outs names : List (List ℕ)) : Type 0 where
  pub groups : List Group
  pub letter : ℕ
  pub counts : List ℕ
  pub are : names ≡ flat_map (names_in k) groups ++ names_to_outputs k letter 0 counts outs
  pub letters : All IsLetter (letter ∷ map (λ group. group.letter) groups)
  pub other_letters : IsDistinct (letter ∷ map (λ group. group.letter) groups)
  pub other_texts : All (λ group. IsDistinct group.texts) groups
  pub few : sum counts < 2 ^ 64

-- Such names differ from each other and from those of the inputs, where no name of the source begins with as many underscores. Numbers that
-- differ have other digits.
pub record NamesDiffer : Type 0 where
  pub names : (k : ℕ) (ins outs names : List (List ℕ)) → is_taken (ins ++ outs) k ≡ false → IsDistinct (ins ++ outs) → AreGateNames k outs names → IsDistinct (ins ++ names)
  pub numbers : (js : List ℕ) → All (λ j. suc j < 2 ^ 64) js → IsDistinct js → IsDistinct (map (λ j. decimal (suc j)) js)

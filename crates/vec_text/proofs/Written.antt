-- Lines that are written word by word.
use Rattle.std.proofs.Common.{◌≡◌, ℕ, List, [], ◌∷◌, ◌++◌, sym, ap, ◌∙◌, append_assoc}
use Rattle.std.proofs.lemmas.List.{append-nil}
use Rattle.std.specs.List.{flat_map}
use Rattle.std.proofs.lemmas.List.Concat.{flat_map-append}
use Rattle.ae_base.specs.Text.{text_of, spaced}

-- a word, words after it and the line's end
pub line_written : (start word now then_now new : List ℕ) (words : List (List ℕ)) → now ≡ start ++ word → then_now ≡ now ++ flat_map (λ v. 32 ∷ v) words → new ≡ then_now ++ 10 ∷ [] → new ≡ start ++ text_of ((word ∷ words) ∷ [])
line_written start word now then_now new words a b c =
    c ∙ ap (λ l. l ++ 10 ∷ []) (b ∙ ap (λ l. l ++ flat_map (λ v. 32 ∷ v) words) a ∙ append_assoc start word (flat_map (λ v. 32 ∷ v) words))
    ∙ append_assoc start (word ++ flat_map (λ v. 32 ∷ v) words) (10 ∷ [])
    ∙ ap (λ l. start ++ l) (sym (append-nil ((word ++ flat_map (λ v. 32 ∷ v) words) ++ 10 ∷ [])))

-- lines after lines
pub lines_more : (start now new : List ℕ) (first later : List (List (List ℕ))) → now ≡ start ++ text_of first → new ≡ now ++ text_of later → new ≡ start ++ text_of (first ++ later)
lines_more start now new first later a b =
    b ∙ ap (λ l. l ++ text_of later) a ∙ append_assoc start (text_of first) (text_of later)
    ∙ ap (λ l. start ++ l) (sym (flat_map-append (λ ws. spaced ws ++ 10 ∷ []) first later))

-- A vector text has at most as many vectors as bytes.
use Rattle.std.proofs.Common.{◌≡◌, ◌≤◌, ◌+◌, ℕ, suc, List, [], ◌∷◌, length, map, drop, codes, Option, Some, None, inl, inr, refl, ap, arith, eqb}
use Rattle.std.specs.Prelude.{Ok, filter}
use Rattle.std.specs.List.{before_first, onto_first, position_or_len}
use Rattle.std.proofs.lemmas.Bool.{cases_Bool}
use Rattle.std.proofs.lemmas.List.{length-map, length-take}
use Rattle.ae_base.proofs.Elements.{length_filter_le}
use Rattle.ae_lex.specs.First.{judged}
use Rattle.ae_lex.specs.Heads.{Word, heads}
use Rattle.ae_lex.specs.Words.{joined_lines, physical_lines, says_something, word_lines}
use Rattle.ae_lex.specs.declared.text.Style.TheVariants.{Pla}
use Rattle.vec_text.specs.Says.{file_of, vec_says}
use Rattle.vec_text.specs.VectorFile.{VectorFile}
use Rattle.vec_text.specs.Words.{is_end, vector_said}
use Rattle.vec_text.specs.declared.fault.VecFault.{VecFault}

onto_length : (b : ℕ) (lines : List (List ℕ)) → length (onto_first b lines) ≤ length lines + 1
onto_length b [] = omega arith
onto_length b (line ∷ lines) = omega arith

physical_length : (bytes : List ℕ) → length (physical_lines bytes) ≤ length bytes
physical_length [] = omega arith
physical_length (b ∷ bytes) =
    elim (cases_Bool (eqb b 10)) [
      | inl holds ↦ rw holds (omega (arith, physical_length bytes))
      | inr fails ↦ rw fails (omega (arith, physical_length bytes, onto_length b (physical_lines bytes)))
    ]

joined_length : (number : ℕ) (lines : List (List ℕ)) → length (joined_lines Pla number lines) ≡ length lines
joined_length number [] = refl
joined_length number (line ∷ lines) = ap suc (joined_length (suc number) lines)

words_length : (bytes : List ℕ) → length (word_lines Pla bytes) ≤ length bytes
unfolding word_lines
words_length bytes =
    omega (arith, length_filter_le says_something (joined_lines Pla 1 (physical_lines bytes)), joined_length 1 (physical_lines bytes), physical_length bytes)

said_length : (lines : List (List Word)) → length (file_of lines).vectors ≤ length lines
unfolding file_of
said_length lines =
    let those = filter (heads (codes "vector")) lines in
    omega (arith, length-map (map (drop 1) those) vector_said, length-map those (drop 1), length_filter_le (heads (codes "vector")) lines)

judged_is : (fault : Option (ℕ × VecFault)) (said file : VectorFile) → judged fault said ≡ Ok file → said ≡ file
judged_is None said file e = cc e
judged_is (Some fault) said file e = absurd (cc e)

pub few_vectors : (bytes : List ℕ) (file : VectorFile) → vec_says bytes ≡ Ok file → length file.vectors ≤ length bytes
unfolding vec_says
few_vectors bytes file says =
    let lines = word_lines Pla bytes in
    let read = before_first (λ line. is_end line.words) lines in
    let said : List (List Word) = map (λ line. line.words) read in
    let is = judged_is _ (file_of said) file says in
    omega (arith, ap (λ f. length f.vectors) is, said_length said, length-map read (λ line. line.words), length-take (position_or_len (λ line. is_end line.words) lines) lines, words_length bytes)

-- What a vector text says: a vector file, or its first fault. A line is a list of words.
use Rattle.std.specs.Prelude.{ℕ, ◌-◌, ◌==◌, Bool, true, not, ◌&&◌, ◌||◌, nat_le, nat_lt, if◌then◌else◌, List, [], ◌∷◌, length, drop, map, Result, slice_index_or, codes}
use Rattle.std.specs.List.{list_any, before_first}
use Rattle.std.specs.Option.{option_or}
use Rattle.ae_base.specs.Form.{features_of}
use Rattle.ae_base.specs.Twins.{has_twins, share}
use Rattle.ae_lex.specs.First.{first_of, at_line, first_fault, last_read, judged}
use Rattle.ae_lex.specs.Heads.{Word, word, heads, each_after}
use Rattle.ae_lex.specs.Words.{word_lines, last_line}
use Rattle.ae_lex.specs.declared.text.Style.TheVariants.{Pla}
use Rattle.vec_text.specs.declared.fault.VecFault.{VecFault}
use Rattle.vec_text.specs.declared.fault.VecFault.TheVariants.{NoHead, Unknown, OutOfOrder, BadForm, BadNames, NameTwice, BadBits, BadNumber, BadPlace, BadEvidence, NoEnd}
use Rattle.vec_text.specs.VectorFile.{VectorFile}
use Rattle.vec_text.specs.Words.{is_head, is_end, is_form, form_said, are_names, is_count, is_cube, is_polarity, polarity_said, is_vector, vector_said, esop_said, is_placed, is_numbered, tree_at, is_tree, idle_said}

-- the words after the first, of the line at a place
abbrev pub words_at : ℕ → List (List Word) → List Word
words_at k lines = drop 1 (slice_index_or lines k [])

-- The file that lines say. Each file has five lines in this order: the head, and the lines of the form, the inputs, the outputs and the polarity.
unfoldable pub file_of : List (List Word) → VectorFile
file_of lines =
    record {
      form = form_said (words_at 1 lines);
      inputs = words_at 2 lines;
      outputs = words_at 3 lines;
      polarity = polarity_said (words_at 4 lines);
      esop = map esop_said (each_after (codes "esop") lines);
      vectors = map vector_said (each_after (codes "vector") lines);
      unchanged = map idle_said (each_after (codes "unchanged") lines);
    }

-- the conditions that make a line faulty, each with its fault, in order, where so many lines before it say this file
unfoldable pub line_faults : ℕ → VectorFile → List Word → List (Bool × VecFault)
line_faults k file line =
    let words = drop 1 line in
    let features = features_of file.form in
    let n = length file.inputs in
    let m = length file.outputs in
    if k == 0 then (not (is_head line), NoHead) ∷ []
    else if heads (codes "form") line then (not (k == 1), OutOfOrder) ∷ (not (is_form words), BadForm) ∷ []
    else if heads (codes "inputs") line then (not (k == 2), OutOfOrder) ∷ (not (are_names words) || features.control && length words == 1, BadNames) ∷ (has_twins words, NameTwice) ∷ []
    else if heads (codes "outputs") line then (not (k == 3), OutOfOrder) ∷ (not (are_names words), BadNames) ∷ (has_twins words || share file.inputs words, NameTwice) ∷ []
    else if heads (codes "polarity") line then (not (k == 4), OutOfOrder) ∷ (not (is_polarity (if features.control then n - 1 else n) words), BadBits) ∷ []
    else if heads (codes "esop") line then
    (not (nat_le 5 k && features.cubes && length file.vectors == 0 && length file.unchanged == 0), OutOfOrder)
    ∷ (not (length words == 2), BadBits) ∷ (not (is_count m (word words 0)), BadNumber) ∷ (not (is_cube n (word words 1)), BadBits) ∷ []
    else if heads (codes "vector") line then (not (nat_le 5 k && length file.unchanged == 0), OutOfOrder) ∷ (not (is_vector n m words), BadBits) ∷ []
    else if heads (codes "unchanged") line then
    (not (nat_le 5 k && features.undetectable), OutOfOrder) ∷ (not (is_placed words), BadPlace) ∷ (not (is_numbered words), BadNumber) ∷ (not (is_tree (tree_at words)), BadEvidence) ∷ []
    else (true, Unknown) ∷ []

abbrev pub faults : List (List Word) → List Word → List (Bool × VecFault)
faults before line = line_faults (length before) (file_of before) line

-- those of a text with so many lines before its end, where it has one
abbrev pub whole_faults : ℕ → Bool → List (Bool × VecFault)
whole_faults k ended = (k == 0, NoHead) ∷ (not ended, NoEnd) ∷ (nat_lt k 5, OutOfOrder) ∷ []

-- Nothing is read after the first `end`. The first faulty line decides, and only where there is none the whole text.
unfoldable pub vec_says : List ℕ → Result VectorFile (ℕ × VecFault)
vec_says bytes =
    let lines = word_lines Pla bytes in
    let read = before_first (λ line. is_end line.words) lines in
    let said = map (λ line. line.words) read in
    let whole = first_of (whole_faults (length said) (list_any (λ line. is_end line.words) lines)) in
    judged (option_or (first_fault faults [] read) (at_line (last_read is_end (last_line bytes) lines) whole)) (file_of said)

-- What a PLA text says: a cover, or its first fault. A line is a list of words.
use Rattle.std.specs.Prelude.{ℕ, zero, suc, ◌+◌, ◌==◌, Bool, true, not, ◌&&◌, ◌||◌, nat_lt, nat_le, if◌then◌else◌, List, [], ◌∷◌, ◌++◌, length, take, drop, map, filter, Option, option_map, Result, is_none, unwrap_or, codes}
use Rattle.std.specs.List.{list_any, list_all, before_first}
use Rattle.std.specs.Option.{option_or}
use Rattle.std.specs.Fmt.{decimal}
use Rattle.ae_base.specs.declared.limits.TheConstants.{SOURCE_LINES}
use Rattle.ae_base.specs.Twins.{has_twins, share}
use Rattle.ae_lex.specs.First.{first_of, at_line, first_fault, last_read, judged}
use Rattle.ae_lex.specs.Heads.{Word, word, heads, is_row, after}
use Rattle.ae_lex.specs.Words.{word_lines, last_line}
use Rattle.ae_lex.specs.declared.text.Style.TheVariants.{Pla}
use Rattle.ae_cover.specs.Cover.{Table}
use Rattle.ae_cover.specs.Clash.{has_clash}
use Rattle.ae_cover.specs.declared.cover.TheConstants.{PLA_ROWS}
use Rattle.ae_cover.specs.declared.parts.Kind.TheVariants.{Fd}
use Rattle.pla_read.specs.Words.{is_end, is_unsupported, is_count, count_said, is_kind, kind_said, are_names, joined, is_input, is_output, row_of}
use Rattle.pla_read.specs.declared.fault.PlaFault.{PlaFault}
use Rattle.pla_read.specs.declared.fault.PlaFault.TheVariants.{NoI, NoO, BadNumber, TooManyInputs, TooManyOutputs, BadNames, NameTwice, BadType, Late, Unsupported, Unknown, BadChar, BadWidth, TooManyRows, Clash}

-- ---- the cover that lines say

-- the number after a header, in the first line that has it
abbrev pub count_in : Word → List (List Word) → Option ℕ
count_in header lines = option_map count_said (after header lines)

-- the letter with each number from 1 to n
abbrev pub default_names : ℕ → ℕ → List Word
default_names letter zero = []
default_names letter (suc n) = default_names letter n ++ (letter ∷ decimal (suc n)) ∷ []

abbrev pub names_or : Option (List Word) → ℕ → Option ℕ → List Word
names_or names letter count = unwrap_or names (default_names letter (unwrap_or count 0))

-- without names x1, x2 and so on, and f1, f2 and so on; without a kind fd
unfoldable pub cover_of : List (List Word) → Table
cover_of lines =
    let n = count_in (codes ".i") lines in
    record {
      inputs = names_or (after (codes ".ilb") lines) 120 n;
      outputs = names_or (after (codes ".ob") lines) 102 (count_in (codes ".o") lines);
      kind = unwrap_or (option_map kind_said (after (codes ".type") lines)) Fd;
      rows = map (λ line. row_of (unwrap_or n 0) (joined line)) (filter is_row lines);
    }

-- ---- faults

-- The conditions that make a row of these characters faulty, each with its fault, in order, where lines before it say these numbers of
-- inputs and outputs and have so many rows.
abbrev pub row_faults : Option ℕ → Option ℕ → ℕ → List ℕ → List (Bool × PlaFault)
row_faults inputs outputs rows chars =
    let n = unwrap_or inputs 0 in
    let m = unwrap_or outputs 0 in
    (is_none inputs, NoI) ∷ (is_none outputs, NoO) ∷ (not (length chars == n + m), BadWidth)
    ∷ (not (list_all is_input (take n chars) && list_all is_output (drop n chars)), BadChar) ∷ (nat_le PLA_ROWS rows, TooManyRows) ∷ []

-- the same of any line, where `late` tells whether a line before it has the same header or is a row
unfoldable pub line_faults : Bool → Option ℕ → Option ℕ → ℕ → List Word → List (Bool × PlaFault)
line_faults late inputs outputs rows line =
    let words = drop 1 line in
    if heads (codes ".i") line then (late, Late) ∷ (not (is_count words), BadNumber) ∷ (nat_lt SOURCE_LINES (count_said words), TooManyInputs) ∷ []
    else if heads (codes ".o") line then (late, Late) ∷ (not (is_count words), BadNumber) ∷ (nat_lt SOURCE_LINES (count_said words), TooManyOutputs) ∷ []
    else if heads (codes ".ilb") line then (late, Late) ∷ (is_none inputs, NoI) ∷ (not (are_names (unwrap_or inputs 0) words), BadNames) ∷ (has_twins words, NameTwice) ∷ []
    else if heads (codes ".ob") line then (late, Late) ∷ (is_none outputs, NoO) ∷ (not (are_names (unwrap_or outputs 0) words), BadNames) ∷ (has_twins words, NameTwice) ∷ []
    else if heads (codes ".type") line then (late, Late) ∷ (not (is_kind words), BadType) ∷ []
    else if heads (codes ".p") line then []
    else if is_unsupported (word line 0) then (true, Unsupported) ∷ []
    else if is_row line then row_faults inputs outputs rows (joined line) else (true, Unknown) ∷ []

-- those of a line after these lines
abbrev pub faults : List (List Word) → List Word → List (Bool × PlaFault)
faults before line =
    line_faults (list_any (λ earlier. is_row earlier || heads (word line 0) earlier) before) (count_in (codes ".i") before)
    (count_in (codes ".o") before) (length (filter is_row before)) line

-- those of a text whose lines have no fault and say these numbers of inputs and outputs and this cover
abbrev pub whole_faults : Option ℕ → Option ℕ → Table → List (Bool × PlaFault)
whole_faults inputs outputs cover = (is_none inputs, NoI) ∷ (is_none outputs, NoO) ∷ (share cover.inputs cover.outputs, NameTwice) ∷ (has_clash cover, Clash) ∷ []

-- ---- the whole text

-- Nothing is read after the first `.e` or `.end`. The first faulty line decides, and only where there is none the whole text.
unfoldable pub pla_says : List ℕ → Result Table (ℕ × PlaFault)
pla_says bytes =
    let lines = word_lines Pla bytes in
    let read = before_first (λ line. is_end line.words) lines in
    let said = map (λ line. line.words) read in
    let whole = first_of (whole_faults (count_in (codes ".i") said) (count_in (codes ".o") said) (cover_of said)) in
    judged (option_or (first_fault faults [] read) (at_line (last_read is_end (last_line bytes) lines) whole)) (cover_of said)

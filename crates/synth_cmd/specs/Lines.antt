-- The lines of the report. Each ends with byte 10.
use Rattle.std.specs.Prelude.{ℕ, suc, ◌==◌, nat_lt, Bool, not, ◌||◌, if◌then◌else◌, List, [], ◌∷◌, ◌++◌, length, map, codes}
use Rattle.std.specs.Fmt.{decimal}
use Rattle.ae_base.specs.Text.{text_of}
use Rattle.ae_base.specs.Form.{features_of}
use Rattle.ae_base.specs.declared.form.Form.{Form}
use Rattle.vec_text.specs.VectorFile.{form_line, place_words, polarity_line, value_word}
use Rattle.vec_text.specs.Faults as vec
use Rattle.synth_cmd.specs.declared.TheConstants.{DONE, SHORTFALL, WORDS, READ_FAULT, REFUSED, TOO_LONG, TOO_MANY_TERMS}
use Rattle.synth_cmd.specs.declared.stop.Fault.{Fault}
use Rattle.synth_cmd.specs.declared.stop.Fault.TheVariants as fault
use Rattle.synth_cmd.specs.declared.stop.Refusal.{Refusal}
use Rattle.synth_cmd.specs.declared.stop.Refusal.TheVariants.{Words, ReadFault, TooLong, Text, NamesDiffer, BitCount, TooManyTerms}
use Rattle.grading.specs.declared.report.GradeReport.{GradeReport}
use Rattle.grading.specs.declared.report.Mode.{Mode}
use Rattle.grading.specs.declared.report.Mode.TheVariants.{Check, Grade}
use Rattle.named_faults.specs.declared.names.NamedFault.{NamedFault}
use Rattle.synth_core.specs.Says.{text_fault_name}
use Rattle.synth_core.specs.declared.made.Summary.{Summary}

abbrev pub usage_line : List ℕ
usage_line = codes "usage: andexor synth IN NET VEC, grade NET VEC, check NET VEC, demo NUMBER NET VEC\n"

abbrev pub read_fault_line : List ℕ → List ℕ
read_fault_line name = codes "read fault: " ++ (name ++ codes "\n")

abbrev pub write_fault_line : List ℕ → List ℕ
write_fault_line name = codes "write fault: " ++ (name ++ codes "\n")

-- with the name of the fault
abbrev pub refused_line : List ℕ → ℕ → List ℕ → List ℕ
refused_line name line fault = codes "refused: " ++ (name ++ (codes ": line " ++ (decimal line ++ (codes ": " ++ (fault ++ codes "\n")))))

-- the names of a vector file are not those of the netlist
abbrev pub names_line : List ℕ → List ℕ
names_line name = codes "refused: " ++ (name ++ codes ": names differ\n")

abbrev pub too_long_line : List ℕ → List ℕ
too_long_line name = codes "too long: " ++ (name ++ codes "\n")

abbrev pub bit_count_line : ℕ → ℕ → List ℕ
bit_count_line given wanted = codes "polarity: " ++ (decimal given ++ (codes " bits for " ++ (decimal wanted ++ codes " inputs\n")))

-- outputs are printed from 1 on
abbrev pub too_many_line : ℕ → List ℕ
too_many_line output = codes "too many terms: output " ++ (decimal (suc output) ++ codes "\n")

abbrev pub memory_line : List ℕ
memory_line = codes "want of memory\n"

-- the number of cubes, where the form has some
abbrev pub cubes_lines : Form → Summary → List (List (List ℕ))
cubes_lines form s = if (features_of form).cubes then (codes "cubes" ∷ decimal s.cubes ∷ []) ∷ [] else []

-- the numbers of gates, stuck-at faults, vectors, and faults that no vector detects
abbrev pub net_lines : Summary → List (List (List ℕ))
net_lines s =
    (codes "gates" ∷ decimal s.gates ∷ []) ∷
    (codes "faults" ∷ decimal s.faults ∷ []) ∷
    (codes "vectors" ∷ decimal s.vectors ∷ []) ∷
    (codes "unchanged" ∷ decimal s.unchanged ∷ []) ∷ []

-- the number of terms, and the others
abbrev pub count_lines : Summary → List (List (List ℕ))
count_lines s = (codes "terms" ∷ decimal s.terms ∷ []) ∷ (cubes_lines s.form s ++ net_lines s)

-- the report of a synthesis: its form, the source's inputs and outputs, a digit for each input that is 1 where its literal is plain, and
-- the numbers
abbrev pub report_lines : Summary → List ℕ
report_lines s = text_of (
    form_line s.form ∷
    (codes "inputs" ∷ decimal s.inputs ∷ codes "outputs" ∷ decimal s.outputs ∷ []) ∷
    polarity_line s.polarity ∷
    count_lines s)

-- the name of a fault, as the report writes it
abbrev pub fault_name : Fault → List ℕ
fault_name (fault.Source f) = text_fault_name f
fault_name (fault.Vectors f) = vec.fault_name f

-- the status of a refusal, and the line that tells it
abbrev pub status_of : Refusal → ℕ
status_of Words = WORDS
status_of (ReadFault name) = READ_FAULT
status_of (TooLong name) = TOO_LONG
status_of (Text name line what) = REFUSED
status_of (NamesDiffer name) = REFUSED
status_of (BitCount given wanted) = WORDS
status_of (TooManyTerms output) = TOO_MANY_TERMS

abbrev pub line_of : Refusal → List ℕ
line_of Words = usage_line
line_of (ReadFault name) = read_fault_line name.now
line_of (TooLong name) = too_long_line name.now
line_of (Text name line what) = refused_line name.now line (fault_name what)
line_of (NamesDiffer name) = names_line name.now
line_of (BitCount given wanted) = bit_count_line given wanted
line_of (TooManyTerms output) = too_many_line output

-- ---- gradings

-- a fault by its names
abbrev pub miss_line : NamedFault → List (List ℕ)
miss_line fault = codes "miss" ∷ place_words fault.place ++ (value_word fault.value ∷ [])

-- the number of faults that are left; in a check also of those that the file proves undetectable
abbrev pub left_counts : Mode → GradeReport → List (List (List ℕ))
left_counts Grade r = (codes "missed" ∷ decimal (length r.left) ∷ []) ∷ []
left_counts Check r = (codes "proved" ∷ decimal r.proved ∷ []) ∷ (codes "unproved" ∷ decimal (length r.left) ∷ []) ∷ []

-- the numbers of stuck-at faults and of those that are detected, and those
abbrev pub fault_counts : Mode → GradeReport → List (List (List ℕ))
fault_counts mode r = (codes "faults" ∷ decimal r.faults ∷ []) ∷ (codes "told" ∷ decimal r.told ∷ []) ∷ left_counts mode r

-- the numbers of vectors and of wrong responses, and those
abbrev pub grade_counts : Mode → GradeReport → List (List (List ℕ))
grade_counts mode r = (codes "vectors" ∷ decimal r.vectors ∷ []) ∷ (codes "wrong" ∷ decimal r.wrong ∷ []) ∷ fault_counts mode r

-- the report of a grading: the numbers, and a line for each fault that is left
abbrev pub grade_lines : Mode → GradeReport → List ℕ
grade_lines mode r = text_of (grade_counts mode r ++ map miss_line r.left)

-- some response is wrong, or some fault is left
abbrev pub falls_short : (wrong : ℕ) (left : List NamedFault) → Bool
falls_short wrong left = nat_lt 0 wrong || not (length left == 0)

-- the status of a report that is written
abbrev pub finding_status : (wrong : ℕ) (left : List NamedFault) → ℕ
finding_status wrong left = if falls_short wrong left then SHORTFALL else DONE

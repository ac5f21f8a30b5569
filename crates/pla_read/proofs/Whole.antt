-- The whole text.
use Rattle.std.proofs.Common.{◌≡◌, ℕ, true, false, List, [], length, Option, Some, None, Err, All, refl, sym, ap₂, subst}
use Rattle.std.specs.Prelude.{IfSome, unwrap_or}
use Rattle.std.specs.List.{before_first}
use Rattle.std.proofs.lemmas.List.Elements.{All-append}
use Rattle.ae_base.specs.Name.{is_source_name}
use Rattle.ae_base.specs.Twins.{share}
use Rattle.ae_base.proofs.Apart.{distinct_append}
use Rattle.ae_lex.specs.First.{first_of, at_line, first_fault, last_read, judged}
use Rattle.ae_lex.specs.Heads.{Word}
use Rattle.ae_lex.specs.Words.{WordLine, word_lines, last_line}
use Rattle.ae_lex.specs.declared.text.Style.TheVariants.{Pla}
use Rattle.ae_cover.specs.declared.parts.Kind.{Kind}
use Rattle.ae_cover.specs.Cover.{IsCover, IsCount, IsRow}
use Rattle.ae_lex.specs.Reads.{Gives, ReadsAll, words_of}
use Rattle.ae_lex.specs.declared.errors.TextErr.{TextErr}
use Rattle.ae_lex.specs.declared.errors.TextErr.TheVariants as text
use Rattle.pla_read.specs.declared.fault.PlaFault.{PlaFault}
use Rattle.pla_read.specs.Words.{is_end}
use Rattle.pla_read.specs.Pla.{cover_of, faults, whole_faults, pla_says}
use Rattle.pla_read.specs.Seen.{Seen, seen, table_of}
use Rattle.pla_read.specs.Sound.{AreLabels, IsSound}

-- the lines that are read
abbrev pub read_of : List WordLine → List WordLine
read_of lines = before_first (λ line. is_end line.words) lines

-- the first faulty line decides
pub fault_says : (bytes : List ℕ) (lines : List WordLine) (e : TextErr PlaFault) → lines ≡ word_lines Pla bytes → ReadsAll {X = Unit {0}} faults (read_of lines) tt (λ l. Unit {0}) (Err e) → Gives (pla_says bytes) (Err e)
unfolding pla_says
fault_says bytes lines (text.At number what) is h = rw (← is, h) refl
fault_says bytes lines text.Memory is h = tt

-- where no line has a fault the whole text decides
pub text_says : (bytes : List ℕ) (lines : List WordLine) (kept : Seen) (last number : ℕ) → lines ≡ word_lines Pla bytes → last ≡ last_line bytes → first_fault faults [] (read_of lines) ≡ None
    → kept ≡ seen (words_of (read_of lines)) → number ≡ last_read is_end last lines → pla_says bytes ≡ judged (at_line number (first_of (whole_faults kept.inputs kept.outputs (table_of kept)))) (table_of kept)
unfolding pla_says cover_of table_of seen
text_says bytes lines kept last number e l none k n =
    rw (← e, ← l, none) (sym (ap₂ (λ (s : Seen) (n : ℕ). judged (at_line n (first_of (whole_faults s.inputs s.outputs (table_of s)))) (table_of s)) k n))

-- ---- the cover

count_of : (o : Option ℕ) (n : ℕ) → o ≡ Some n → IfSome o IsCount → IsCount n
count_of o n e h = let at : IfSome (Some n) IsCount = subst (λ (p : Option ℕ). IfSome p IsCount) e h in at

pub cover_fits : (s : Seen) (n m : ℕ) (xs ys : List Word) (kind : Kind) → IsSound s → s.inputs ≡ Some n → s.outputs ≡ Some m → length xs ≡ n → length ys ≡ m → AreLabels xs → AreLabels ys
    → share xs ys ≡ false → IsCover (record { inputs = xs; outputs = ys; kind = kind; rows = s.rows })
cover_fits s n m xs ys kind h en em lx ly fx fy apart =
    let counts : All (IsRow n m) s.rows = subst (λ (o : Option ℕ × Option ℕ). All (IsRow (unwrap_or o.0 0) (unwrap_or o.1 0)) s.rows) (ap₂ (λ (p q : Option ℕ). let pair : Option ℕ × Option ℕ = (p, q) in pair) en em) h.rows in
    record {
      inputs = subst IsCount (sym lx) (count_of s.inputs n en h.inputs);
      outputs = subst IsCount (sym ly) (count_of s.outputs m em h.outputs);
      named = All-append (λ name. is_source_name name ≡ true) xs ys fx.named fy.named;
      distinct = distinct_append xs ys fx.distinct fy.distinct apart;
      few = h.few;
      rows = subst (λ (p : ℕ × ℕ). All (IsRow p.0 p.1) s.rows) (ap₂ (λ (a b : ℕ). let pair : ℕ × ℕ = (a, b) in pair) (sym lx) (sym ly)) counts;
    }

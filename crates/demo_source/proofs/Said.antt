-- The text of the demo says a cover.
use Rattle.std.proofs.Common.{◌≡◌, ℕ, ◌+◌, ◌*◌, ◌%◌, ◌^◌, ◌<◌, ◌≤◌, lit<, lit≤, Bool, false, List, length, map, Result, Ok, All, refl, sym, ap, ◌∙◌, arith}
use Rattle.std.specs.List.{AllByRecursion, range_with_len}
use Rattle.std.specs.Fmt.{decimal, digits}
use Rattle.std.proofs.lemmas.List.FromFn.{length-map-range_with_len}
use Rattle.ae_base.specs.Cube.{Signs}
use Rattle.ae_base.specs.Mask.{Set}
use Rattle.ae_base.specs.Text.{text_of}
use Rattle.ae_base.proofs.Distinct.{each_always, each-map}
use Rattle.ae_cover.specs.Cover.{Table, source_of}
use Rattle.ae_cover.specs.declared.cover.TheConstants.{PLA_ROWS}
use Rattle.ae_lex.specs.Words.{word_lines}
use Rattle.ae_lex.specs.Written.{IsPlainLine, numbered}
use Rattle.ae_lex.specs.declared.text.Style.TheVariants.{Pla}
use Rattle.expansion.specs.Functions.{AreExpansions}
use Rattle.expansion.specs.Terms.{Terms, cost}
use Rattle.fn_store.specs.Davio.{IsExpansion}
use Rattle.ae_base.specs.Twins.{share}
use Rattle.pla_read.specs.Pla.{default_names, pla_says}
use Rattle.pla_read.specs.declared.fault.PlaFault.{PlaFault}
use Rattle.ae_base.specs.declared.form.Form.{Form}
use Rattle.ae_base.specs.declared.form.Form.TheVariants.{Reddy, Factored}
use Rattle.demo_source.specs.Demo.{demo_inputs, demo_outputs, demo_rows, demo_row, demo_text}
use Rattle.demo_source.specs.Says.{SaysCover, most_terms}
use Rattle.demo_source.proofs.Lines.{IsNumber, IsRowLine, front_says, row_line, cover}
use Rattle.demo_source.proofs.Lengths.{length-text}
use Rattle.demo_source.proofs.Terms.{few_terms}

-- ---- the sizes

inputs_number : (form : Form) → IsNumber (demo_inputs form)
inputs_number Reddy = record { some = lit< tt; few = lit≤ tt }
inputs_number Factored = record { some = lit< tt; few = lit≤ tt }

outputs_number : IsNumber demo_outputs
outputs_number = record { some = lit< tt; few = lit≤ tt }

few_rows : (form : Form) → demo_rows form ≤ PLA_ROWS
few_rows Reddy = lit≤ tt
few_rows Factored = lit≤ tt

names_apart : (form : Form) → share (default_names 120 (demo_inputs form)) (default_names 102 demo_outputs) ≡ false
names_apart Reddy = refl
names_apart Factored = refl

input_names : (form : Form) → length (default_names 120 (demo_inputs form)) ≡ demo_inputs form
input_names Reddy = refl
input_names Factored = refl

few_bytes : (form : Form) → length (decimal (demo_inputs form)) + length (decimal demo_outputs) + demo_rows form * (demo_inputs form + demo_outputs + 2) + 11 < 2000
unfolding digits
few_bytes Reddy = lit< tt
few_bytes Factored = lit< tt

-- ---- the text

-- whatever the numbers of the rows
each_row : (n m x : ℕ) (rs : List ℕ) → 0 < n → 0 < m → AllByRecursion (IsRowLine n m) (map (demo_row n m x) rs)
each_row n m x rs some more = each-map (IsRowLine n m) (demo_row n m x) rs (each_always (λ r. IsRowLine n m (demo_row n m x r)) (λ r. row_line n m x r some more) rs)

-- written lines are read again
abbrev pub WrittenLines : Type 0
WrittenLines = (lines : List (List (List ℕ))) → All IsPlainLine lines → word_lines Pla (text_of lines) ≡ numbered 1 lines

-- so the text says a cover of the form's sizes
pub says_cover : WrittenLines → (seed : ℕ) (form : Form) → SaysCover seed form
unfolding demo_text
says_cover written seed form =
    let n = demo_inputs form in
    let m = demo_outputs in
    let rows = map (demo_row n m (seed % 2 ^ 31)) (range_with_len 0 (demo_rows form)) in
    let a = inputs_number form in
    let b = outputs_number in
    let count : length rows ≡ demo_rows form = length-map-range_with_len (demo_row n m (seed % 2 ^ 31)) 0 (demo_rows form) in
    record {
      table = cover n m rows;
      says = front_says n m rows written a b (names_apart form) (each_row n m (seed % 2 ^ 31) (range_with_len 0 (demo_rows form)) a.some b.some) (omega (arith, count, few_rows form));
      inputs = input_names form;
      outputs = refl;
    }

-- and it is short
pub is_short : (seed : ℕ) (form : Form) → length (demo_text seed form) < 2000
unfolding demo_text
is_short seed form = omega (arith, length-text (demo_inputs form) demo_outputs (seed % 2 ^ 31) (demo_rows form), few_bytes form)

-- what it says has few terms at each polarity
pub few_of : WrittenLines → ((p : Signs) (f : Set → Bool) (ts : List Set) → IsExpansion p f ts → length ts ≤ 2 ^ p.n) → (seed : ℕ) (form : Form) (table : Table) (p : Signs) (e : Terms) → pla_says (demo_text seed form) ≡ Ok table
    → AreExpansions (source_of table) p e → cost e ≤ most_terms form
few_of written few seed form table p e says are =
    let said = says_cover written seed form in
    let same : said.table ≡ table = let both : ◌≡◌ {A = Result Table (ℕ × PlaFault)} (Ok said.table) (Ok table) = sym said.says ∙ says in cc in
    few_terms (source_of table) p e (demo_inputs form) demo_outputs few are (ap (λ (t : Table). length t.inputs) (sym same) ∙ said.inputs) (ap (λ (t : Table). length t.outputs) (sym same) ∙ said.outputs)

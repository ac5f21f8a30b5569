-- The lines of the demo, and the cover that they say.
use Rattle.std.proofs.Common.{◌≡◌, ℕ, zero, suc, ◌+◌, ◌*◌, ◌<◌, ◌≤◌, Bool, true, false, not, ◌&&◌, eqb, ltb, List, [], ◌∷◌, ◌++◌, length, take, drop, map, codes, Option, Some, None, Ok, All, refl, ap, ap₂, ◌∙◌, inl, inr, arith}
use Rattle.std.specs.Prelude.{option_map}
use Rattle.std.specs.List.{AllByRecursion, before_first, position_or_len, filter, list_all}
use Rattle.std.specs.Option.{option_or}
use Rattle.std.specs.Fmt.{decimal}
use Rattle.std.proofs.lemmas.Bool.{and_from, and_parts, cases_Bool, le-ltb, lt-leb, not-true, eq-eqb}
use Rattle.std.proofs.lemmas.List.{append-nil, length-append, length_push, take_at, drop_at}
use Rattle.std.proofs.lemmas.List.Elements.{All-from_recursion}
use Rattle.std.proofs.lemmas.List.FromFn.{length-map-range_with_len}
use Rattle.ae_base.specs.declared.limits.TheConstants.{SOURCE_LINES}
use Rattle.ae_base.specs.Name.{is_allowed}
use Rattle.ae_base.specs.Text.{text_of}
use Rattle.ae_base.proofs.Distinct.{each-append, each_weaker}
use Rattle.ae_cover.specs.Clash.{has_clash}
use Rattle.ae_cover.specs.declared.cover.TheConstants.{PLA_ROWS}
use Rattle.ae_base.specs.Digits.{value, is_number}
use Rattle.ae_base.specs.Twins.{share}
use Rattle.ae_base.proofs.PlainWords.{IsInk, plain_of, plain_number}
use Rattle.ae_base.proofs.ReadBack.{value_back, number_is}
use Rattle.ae_lex.specs.First.{first_of, first_fault}
use Rattle.ae_lex.specs.Heads.{Word, word, heads, is_row, each_after}
use Rattle.ae_base.specs.Plain.{is_plain}
use Rattle.ae_lex.specs.Words.{WordLine, word_lines}
use Rattle.ae_lex.specs.Written.{IsPlainLine, numbered}
use Rattle.ae_lex.specs.declared.text.Style.TheVariants.{Pla}
use Rattle.ae_cover.specs.Cover.{Table}
use Rattle.ae_cover.specs.declared.parts.Kind.TheVariants.{Fd}
use Rattle.pla_read.specs.Words.{is_end, is_unsupported, joined, is_input, is_output, row_of}
use Rattle.pla_read.specs.Pla.{line_faults, faults, default_names, cover_of, pla_says, whole_faults}
use Rattle.pla_read.specs.declared.fault.PlaFault.{PlaFault}
use Rattle.demo_source.specs.Demo.{draw, characters, input_char, output_char, demo_row}

-- ---- characters

-- a byte that may stand at each place of a word
abbrev is_ink : ℕ → Bool
is_ink b = is_allowed b && not (eqb b 92)

ink_is : (b : ℕ) → is_ink b ≡ true → IsInk b
ink_is b h = let parts = and_parts (is_allowed b) (not (eqb b 92)) h in (parts.0, not-true _ parts.1)

-- a test that the three characters of inputs pass
input_is : (p : ℕ → Bool) → p 48 ≡ true → p 49 ≡ true → p 45 ≡ true → (d : ℕ) → p (input_char d) ≡ true
input_is p nought one none d = elim (cases_Bool (eqb d 0)) [ inl e ↦ rw e nought | inr e ↦ elim (cases_Bool (eqb d 1)) [ inl f ↦ rw (e, f) one | inr f ↦ rw (e, f) none ] ]

-- a test that the two characters of outputs pass
output_is : (p : ℕ → Bool) → p 48 ≡ true → p 49 ≡ true → (d : ℕ) → p (output_char d) ≡ true
output_is p nought one d = elim (cases_Bool (eqb d 0)) [ inl e ↦ rw e one | inr e ↦ rw e nought ]

-- each character of a word passes what every drawn one passes
each_character : (p : ℕ → Bool) (char : ℕ → ℕ) → ((d : ℕ) → p (char d) ≡ true) → (x k n : ℕ) → list_all p (characters char x k n) ≡ true
each_character p char h x k zero = refl
each_character p char h x k (suc n) = and_from (p (char (draw x k))) (list_all p (characters char x (k + 1) n)) (h (draw x k)) (each_character p char h x (k + 1) n)

-- ---- the words of a row

-- a row of n inputs and m outputs: its words are plain, it is no header, and its characters are those of inputs and outputs
pub record IsRowLine (n m : ℕ) (ws : List Word) : Type 0 where
  pub plain : IsPlainLine ws
  pub row : is_row ws ≡ true
  pub no_header : (h : Word) → heads (46 ∷ h) ws ≡ false
  pub width : eqb (length (joined ws)) (n + m) ≡ true
  pub inputs : list_all is_input (take n (joined ws)) ≡ true
  pub outputs : list_all is_output (drop n (joined ws)) ≡ true

-- a filter that all pass
kept : (p : ℕ → Bool) (xs : List ℕ) → list_all p xs ≡ true → filter p xs ≡ xs
kept p [] h = refl
kept p (x ∷ xs) h = let parts = and_parts (p x) (list_all p xs) h in rw parts.0 (ap (λ (ys : List ℕ). x ∷ ys) (kept p xs parts.1))

-- the characters of two words without '|'
joined_two : (ins outs : Word) → list_all (λ b. not (eqb b 124)) ins ≡ true → list_all (λ b. not (eqb b 124)) outs ≡ true → joined (ins ∷ outs ∷ []) ≡ ins ++ outs
joined_two ins outs a b = ap₂ (λ (x y : Word). x ++ y) (kept (λ b. not (eqb b 124)) ins a) (append-nil (filter (λ b. not (eqb b 124)) outs) ∙ kept (λ b. not (eqb b 124)) outs b)

-- a row of the demo is one
pub row_line : (n m x r : ℕ) → 0 < n → 0 < m → IsRowLine n m (demo_row n m x r)
row_line zero m x r some more = absurd (omega (arith, some))
row_line (suc n) m x r some more =
    let k = r * (suc n + m) in
    let ins = characters input_char x k (suc n) in
    let outs = characters output_char x (k + suc n) m in
    let count : length ins ≡ suc n = length-map-range_with_len (λ j. input_char (draw x j)) k (suc n) in
    let further : length outs ≡ m = length-map-range_with_len (λ j. output_char (draw x j)) (k + suc n) m in
    let chars : joined (ins ∷ outs ∷ []) ≡ ins ++ outs =
    joined_two ins outs (each_character (λ b. not (eqb b 124)) input_char (input_is (λ b. not (eqb b 124)) refl refl refl) x k (suc n)) (each_character (λ b. not (eqb b 124)) output_char (output_is (λ b. not (eqb b 124)) refl refl) x (k + suc n) m) in
    record {
      plain = record {
        some = omega arith;
        each = All-from_recursion (λ w. is_plain w ≡ true) (ins ∷ outs ∷ []) (
          plain_of is_ink ins ink_is (omega (arith, count)) (each_character is_ink input_char (input_is is_ink refl refl refl) x k (suc n)),
          (plain_of is_ink outs ink_is (omega (arith, further, more)) (each_character is_ink output_char (output_is is_ink refl refl) x (k + suc n) m), tt),
        );
      };
      row = input_is (λ b. not (eqb b 46)) refl refl refl (draw x k);
      no_header = λ h. rw (no_dot (draw x k)) refl;
      width = eq-eqb _ _ (ap length chars ∙ length-append ins outs ∙ omega (arith, count, further));
      inputs = ap (λ cs. list_all is_input (take (suc n) cs)) chars ∙ ap (list_all is_input) (take_at ins outs (suc n) count) ∙ each_character is_input input_char (input_is is_input refl refl refl) x k (suc n);
      outputs = ap (λ cs. list_all is_output (drop (suc n) cs)) chars ∙ ap (list_all is_output) (drop_at ins outs (suc n) count) ∙ each_character is_output output_char (output_is is_output refl refl) x (k + suc n) m;
    }
  where
    no_dot : (d : ℕ) → eqb (input_char d) 46 ≡ false
    no_dot d = elim (cases_Bool (eqb d 0)) [ inl e ↦ rw e refl | inr e ↦ elim (cases_Bool (eqb d 1)) [ inl f ↦ rw (e, f) refl | inr f ↦ rw (e, f) refl ] ]

-- ---- what the lines say together

-- a number that a header may say
pub record IsNumber (n : ℕ) : Type 0 where
  pub some : 0 < n
  pub few : n ≤ SOURCE_LINES

-- the lines before the last one
abbrev pub front : ℕ → ℕ → List (List Word) → List (List Word)
front n m rows = (codes ".i" ∷ decimal n ∷ []) ∷ (codes ".o" ∷ decimal m ∷ []) ∷ rows

-- the cover that they say
abbrev pub cover : ℕ → ℕ → List (List Word) → Table
cover n m rows = record { inputs = default_names 120 n; outputs = default_names 102 m; kind = Fd; rows = map (λ ws. row_of n (joined ws)) rows }

-- rows have no header
no_after : (h : Word) (n m : ℕ) (rows : List (List Word)) → AllByRecursion (IsRowLine n m) rows → each_after (46 ∷ h) rows ≡ []
no_after h n m [] is = refl
no_after h n m (ws ∷ rows) is = rw (is.0.no_header h) (no_after h n m rows is.1)

-- all of them are rows
rows_kept : (n m : ℕ) (rows : List (List Word)) → AllByRecursion (IsRowLine n m) rows → filter is_row rows ≡ rows
rows_kept n m [] is = refl
rows_kept n m (ws ∷ rows) is = rw is.0.row (ap (λ (l : List (List Word)). ws ∷ l) (rows_kept n m rows is.1))

said : (n : ℕ) → IsNumber n → value (decimal n) ≡ n
said n a = value_back n (omega (arith, a.few))

-- the two headers and the rows say the sizes, and the rows in turn
cover_front : (n m : ℕ) (rows : List (List Word)) → IsNumber n → IsNumber m → AllByRecursion (IsRowLine n m) rows → cover_of (front n m rows) ≡ cover n m rows
unfolding cover_of
cover_front n m rows a b is = rw (no_after (codes "ilb") n m rows is, no_after (codes "ob") n m rows is, no_after (codes "type") n m rows is, rows_kept n m rows is, said n a, said m b) refl

-- ---- no line is faulty

-- a row is no header of other dialects
unsupported : (n m : ℕ) (ws : List Word) → IsRowLine n m ws → is_unsupported (word ws 0) ≡ false
unsupported n m ws is =
    rw (is.no_header (codes "phase"), is.no_header (codes "pair"), is.no_header (codes "symbolic"), is.no_header (codes "mv"), is.no_header (codes "kiss"), is.no_header (codes "label")) refl

-- one more row, where there is room
row_fine : (n m k : ℕ) (late : Bool) (ws : List Word) → IsRowLine n m ws → k < PLA_ROWS → first_of (line_faults late (Some n) (Some m) k ws) ≡ None
unfolding line_faults
row_fine n m k late ws is few =
    rw (is.no_header (codes "i"), is.no_header (codes "o"), is.no_header (codes "ilb"), is.no_header (codes "ob"), is.no_header (codes "type"), is.no_header (codes "p"), unsupported n m ws is, is.row, is.width, is.inputs, is.outputs, lt-leb PLA_ROWS k few) refl

-- rows after the headers and other rows
rows_fine : (n m k : ℕ) (done rows : List (List Word)) → IsNumber n → IsNumber m → AllByRecursion (IsRowLine n m) done → AllByRecursion (IsRowLine n m) rows → length done + length rows ≤ PLA_ROWS
    → first_fault faults (front n m done) (numbered k rows) ≡ None
rows_fine n m k done [] a b before is few = refl
rows_fine n m k done (ws ∷ rows) a b before is few =
    let fine : first_of (faults (front n m done) ws) ≡ None = rw (said n a, said m b, rows_kept n m done before) (row_fine n m (length done) _ ws is.0 (omega (arith, few))) in
    ap (λ (o : Option PlaFault). option_or (option_map (λ f. (k, f)) o) (first_fault faults (front n m done ++ ws ∷ []) (numbered (suc k) rows))) fine
    ∙ rows_fine n m (suc k) (done ++ ws ∷ []) rows a b (each-append (IsRowLine n m) done (ws ∷ []) before (is.0, tt)) is.1 (omega (arith, length_push done ws, few))

-- a header of one number
number_fine : (n : ℕ) → IsNumber n → (is_number (decimal n) ≡ true) × (ltb SOURCE_LINES (value (decimal n)) ≡ false)
number_fine n a = (number_is n a.some (omega (arith, a.few)), le-ltb SOURCE_LINES (value (decimal n)) (omega (arith, said n a, a.few)))

-- all lines before the last
front_fine : (n m : ℕ) (rows : List (List Word)) → IsNumber n → IsNumber m → AllByRecursion (IsRowLine n m) rows → length rows ≤ PLA_ROWS → first_fault faults [] (numbered 1 (front n m rows)) ≡ None
unfolding line_faults
front_fine n m rows a b is few = rw ((number_fine n a).0, (number_fine n a).1, (number_fine m b).0, (number_fine m b).1) (rows_fine n m 3 [] rows a b tt is (omega (arith, few)))

-- ---- the whole text

abbrev pub end_line : List Word
end_line = codes ".e" ∷ []

-- what stands before the last line is read
read_front : (k : ℕ) (lines : List (List Word)) → AllByRecursion (λ ws. is_end ws ≡ false) lines → before_first (λ line. is_end line.words) (numbered k (lines ++ end_line ∷ [])) ≡ numbered k lines
read_front k [] h = refl
read_front k (ws ∷ lines) h =
    let rest = numbered (suc k) (lines ++ end_line ∷ []) in
    let one : 1 + position_or_len (λ line. is_end line.words) rest ≡ suc (position_or_len (λ line. is_end line.words) rest) = omega arith in
    rw (h.0, one) (ap (λ (ls : List WordLine). let line : WordLine = record { number = k; words = ws } in line ∷ ls) (read_front (suc k) lines h.1))

-- a row does not end the text
goes_on : (n m : ℕ) (ws : List Word) → IsRowLine n m ws → is_end ws ≡ false
goes_on n m ws is = rw (is.no_header (codes "e"), is.no_header (codes "end")) refl

-- numbered lines have the words that they were made of
words_back : (k : ℕ) (lines : List (List Word)) → map (λ line. line.words) (numbered k lines) ≡ lines
words_back k [] = refl
words_back k (ws ∷ lines) = ap (λ (ls : List (List Word)). ws ∷ ls) (words_back (suc k) lines)

-- the names differ, and rows of kind fd have no clash
whole_fine : (n m : ℕ) (rows : List (List Word)) → share (default_names 120 n) (default_names 102 m) ≡ false → first_of (whole_faults (Some n) (Some m) (cover n m rows)) ≡ None
unfolding has_clash
whole_fine n m rows apart = rw apart refl

-- all lines have plain words
plain_front : (n m : ℕ) (rows : List (List Word)) → IsNumber n → IsNumber m → AllByRecursion (IsRowLine n m) rows → All IsPlainLine (front n m rows ++ end_line ∷ [])
plain_front n m rows a b is =
    All-from_recursion IsPlainLine (front n m rows ++ end_line ∷ []) (
      plain (codes ".i") (decimal n ∷ []) refl (plain_number n (omega (arith, a.few)), tt),
      (
        plain (codes ".o") (decimal m ∷ []) refl (plain_number m (omega (arith, b.few)), tt),
        each-append IsPlainLine rows (end_line ∷ []) (each_weaker (IsRowLine n m) IsPlainLine (λ ws h. h.plain) rows is) (plain (codes ".e") [] refl tt, tt),
      ),
    )
  where
    plain : (w : Word) (ws : List Word) → is_plain w ≡ true → AllByRecursion (λ v. is_plain v ≡ true) ws → IsPlainLine (w ∷ ws)
    plain w ws h k = record { some = omega arith; each = All-from_recursion (λ v. is_plain v ≡ true) (w ∷ ws) (h, k) }

-- lines of a header each for n and m, of rows and an end say a cover
pub front_says : (n m : ℕ) (rows : List (List Word)) → ((lines : List (List Word)) → All IsPlainLine lines → word_lines Pla (text_of lines) ≡ numbered 1 lines) → IsNumber n → IsNumber m
    → share (default_names 120 n) (default_names 102 m) ≡ false → AllByRecursion (IsRowLine n m) rows → length rows ≤ PLA_ROWS
    → pla_says (text_of (front n m rows ++ end_line ∷ [])) ≡ Ok (cover n m rows)
unfolding pla_says
front_says n m rows written a b apart is few =
    let going = each_weaker (IsRowLine n m) (λ ws. is_end ws ≡ false) (goes_on n m) rows is in
    rw (written (front n m rows ++ end_line ∷ []) (plain_front n m rows a b is), read_front 1 (front n m rows) (refl, (refl, going)), words_back 1 (front n m rows), cover_front n m rows a b is, front_fine n m rows a b is few, whole_fine n m rows apart)
    refl

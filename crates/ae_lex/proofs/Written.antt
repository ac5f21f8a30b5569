-- A text that is written line by line is read line by line.
use Rattle.std.proofs.Common.{◌≡◌, ◌≢◌, ℕ, suc, ◌+◌, ◌-◌, ◌<◌, ◌≤◌, Bool, true, false, not, ◌&&◌, eqb, leb, List, [], ◌∷◌, ◌++◌, length, map, get_or, All, refl, sym, ap, subst, ◌∙◌, arith}
use Rattle.std.specs.List.{AllByRecursion, filter, slice_split, onto_first, list_all, position_or_len, suffix_len}
use Rattle.std.proofs.lemmas.Bool.{eqb-false, ne_eqb, leb-true, and_parts, not-true, cond-false, and_right}
use Rattle.std.proofs.lemmas.List.{append_assoc, append-nil, length-append, length-map, take_all, get_or-append-add}
use Rattle.std.proofs.lemmas.List.Elements.{All-append, All-from_recursion, recursion_from_All}
use Rattle.std.proofs.lemmas.List.Splits.{slice_split_none, slice_split_at}
use Rattle.std.proofs.lemmas.List.Sums.{AllPass-from_list_all, suffix_len_is}
use Rattle.ae_base.specs.Name.{is_allowed}
use Rattle.ae_base.specs.Text.{spaced, text_of}
use Rattle.ae_lex.specs.declared.text.Style.{Style}
use Rattle.ae_lex.specs.declared.text.Style.TheVariants.{Pla, Blif}
use Rattle.ae_base.specs.Plain.{is_plain}
use Rattle.ae_lex.specs.Words.{is_blank, joins_next, said, trimmed, uncommented, ends_open, physical_lines, last_line, words, WordLine, joined_lines, says_something, word_lines}
use Rattle.ae_lex.specs.Written.{IsPlainLine, numbered}
use Rattle.ae_lex.proofs.Words.{filled, filled_some}

-- ---- bytes

-- a byte that ends no line and begins no comment
abbrev IsQuiet : ℕ → Type 0
IsQuiet b = (eqb b 10 ≡ false) × (eqb b 35 ≡ false)

-- a byte of a word
pub record IsInk (b : ℕ) : Type 0 where
  pub quiet : IsQuiet b
  pub blank : is_blank b ≡ false

ink : (b : ℕ) → is_allowed b ≡ true → IsInk b
ink b h =
    let parts = and_parts (leb 33 b) (not (eqb b 35)) h in
    let large : 33 ≤ b = leb-true 33 b parts.0 in
    record {
      quiet = (ne_eqb b 10 (λ e. omega (arith, e, large)), not-true (eqb b 35) parts.1);
      blank = rw (ne_eqb b 32 (λ e. omega (arith, e, large)), ne_eqb b 9 (λ e. omega (arith, e, large)), ne_eqb b 13 (λ e. omega (arith, e, large))) refl;
    }

-- ---- words

abbrev last_byte : List ℕ → ℕ
last_byte x = get_or x (length x - 1) 0

pub record IsWord (w : List ℕ) : Type 0 where
  pub some : 0 < length w
  pub inks : All IsInk w
  pub end : eqb (last_byte w) 92 ≡ false

word : (w : List ℕ) → is_plain w ≡ true → IsWord w
word w h =
    let one = and_parts (not (eqb (length w) 0) && not (eqb (last_byte w) 92)) (list_all is_allowed w) h in
    let two = and_parts (not (eqb (length w) 0)) (not (eqb (last_byte w) 92)) one.0 in
    let some : length w ≢ 0 = eqb-false (length w) 0 (not-true _ two.0) in
    record { some = omega (arith, some); inks = λ k d lt. ink _ (AllPass-from_list_all is_allowed w one.1 k d lt); end = not-true _ two.1 }

quiet_word : (w : List ℕ) → IsWord w → All IsQuiet w
quiet_word w h = λ k d lt. (h.inks k d lt).quiet

unblank_word : (w : List ℕ) → IsWord w → All (λ b. is_blank b ≡ false) w
unblank_word w h = λ k d lt. (h.inks k d lt).blank

-- ---- the words of a written line

words_one : (w : List ℕ) → IsWord w → words w ≡ w ∷ []
words_one w h = ap filled (slice_split_none is_blank w (unblank_word w h)) ∙ filled_some w [] h.some

words_more : (w rest : List ℕ) → IsWord w → words (w ++ 32 ∷ rest) ≡ w ∷ words rest
words_more w rest h = ap filled (slice_split_at is_blank w 32 rest (unblank_word w h) refl) ∙ filled_some w (slice_split is_blank rest) h.some

last-append : (x y : List ℕ) → 0 < length y → last_byte (x ++ y) ≡ last_byte y
last-append x y h =
    let at : length (x ++ y) - 1 ≡ length x + (length y - 1) = omega (arith, length-append x y, h) in
    ap (λ k. get_or (x ++ y) k 0) at ∙ get_or-append-add x y (length y - 1) 0

-- what is read of a line as it was written
pub record IsRead (x : List ℕ) (ws : List (List ℕ)) : Type 0 where
  pub quiet : All IsQuiet x
  pub some : 0 < length x
  pub ink : is_blank (last_byte x) ≡ false
  pub closed : eqb (last_byte x) 92 ≡ false
  pub words : words x ≡ ws

line_read : (w : List ℕ) (ws : List (List ℕ)) → AllByRecursion IsWord (w ∷ ws) → IsRead (spaced (w ∷ ws)) (w ∷ ws)
line_read w [] h =
    let alone : IsRead w (w ∷ []) = record {
      quiet = quiet_word w h.0;
      some = h.0.some;
      ink = (h.0.inks (length w - 1) 0 (omega (arith, h.0.some))).blank;
      closed = h.0.end;
      words = words_one w h.0;
    } in
    subst (λ (x : List ℕ). IsRead x (w ∷ [])) (sym (append-nil w)) alone
line_read w (v ∷ ws) h =
    let rest = spaced (v ∷ ws) in
    let r = line_read v ws h.1 in
    let one : w ++ 32 ∷ rest ≡ (w ++ 32 ∷ []) ++ rest = sym (append_assoc w (32 ∷ []) rest) in
    let end : last_byte (w ++ 32 ∷ rest) ≡ last_byte rest = ap last_byte one ∙ last-append (w ++ 32 ∷ []) rest r.some in
    record {
      quiet = All-append IsQuiet w (32 ∷ rest) (quiet_word w h.0) (All-append IsQuiet (32 ∷ []) rest (All-from_recursion IsQuiet (32 ∷ []) ((refl, refl), tt)) r.quiet);
      some = omega (arith, length-append w (32 ∷ rest), h.0.some);
      ink = ap is_blank end ∙ r.ink;
      closed = ap (λ b. eqb b 92) end ∙ r.closed;
      words = words_more w rest h.0 ∙ ap (λ (vs : List (List ℕ)). w ∷ vs) r.words;
    }

-- ---- the parts of a line that are dropped

front_all : (p : ℕ → Bool) (x : List ℕ) → AllByRecursion (λ b. p b ≡ false) x → position_or_len p x ≡ length x
front_all p [] h = refl
front_all p (b ∷ x) h =
    let one : 1 + length x ≡ suc (length x) = omega arith in
    rw (h.0, front_all p x h.1, one) refl

uncommented_is : (x : List ℕ) → All IsQuiet x → uncommented x ≡ x
uncommented_is x h = take_all _ x (omega (arith, front_all (λ b. eqb b 35) x (recursion_from_All (λ b. eqb b 35 ≡ false) x (λ k d lt. (h k d lt).1))))

trimmed_is : (x : List ℕ) → is_blank (last_byte x) ≡ false → trimmed x ≡ x
trimmed_is x h =
    let none : suffix_len is_blank x ≡ length x - length x = suffix_len_is is_blank x (length x) 0 (omega arith) (λ k le lt. absurd (omega (arith, le, lt))) (λ some. h) in
    take_all _ x (omega (arith, none))

closed_is : (x : List ℕ) → eqb (last_byte x) 92 ≡ false → ends_open x ≡ false
closed_is x h = rw h (and_right (not (eqb (length x) 0)) false refl)

bare : (x : List ℕ) (ws : List (List ℕ)) → IsRead x ws → trimmed (uncommented x) ≡ x
bare x ws r = ap trimmed (uncommented_is x r.quiet) ∙ trimmed_is x r.ink

joins_not : (style : Style) (x : List ℕ) (ws : List (List ℕ)) → IsRead x ws → joins_next style x ≡ false
joins_not Pla x ws r = refl
joins_not Blif x ws r = ap ends_open (bare x ws r) ∙ closed_is x r.closed

said_is : (style : Style) (x : List ℕ) (ws : List (List ℕ)) → IsRead x ws → said style x ≡ x
said_is Pla x ws r = uncommented_is x r.quiet
said_is Blif x ws r = cond-false (ends_open (trimmed (uncommented x))) _ _ (joins_not Blif x ws r) ∙ bare x ws r

-- ---- the text

read_of : (ws : List (List ℕ)) → IsPlainLine ws → IsRead (spaced ws) ws
read_of [] h = absurd (omega (arith, h.some))
read_of (w ∷ ws) h = line_read w ws (recursion_from_All IsWord (w ∷ ws) (λ k d lt. word _ (h.each k d lt)))

physical_at : (x rest : List ℕ) → AllByRecursion (λ b. eqb b 10 ≡ false) x → physical_lines (x ++ 10 ∷ rest) ≡ x ∷ physical_lines rest
physical_at [] rest h = refl
physical_at (b ∷ x) rest h = cond-false (eqb b 10) ([] ∷ physical_lines (x ++ 10 ∷ rest)) (onto_first b (physical_lines (x ++ 10 ∷ rest))) h.0 ∙ ap (onto_first b) (physical_at x rest h.1)

physical_text : (lines : List (List (List ℕ))) → AllByRecursion IsPlainLine lines → physical_lines (text_of lines) ≡ map spaced lines
physical_text [] h = refl
physical_text (ws ∷ lines) h =
    let unbroken = recursion_from_All (λ b. eqb b 10 ≡ false) (spaced ws) (λ k d lt. ((read_of ws h.0).quiet k d lt).0) in
    ap physical_lines (append_assoc (spaced ws) (10 ∷ []) (text_of lines)) ∙ physical_at (spaced ws) (text_of lines) unbroken ∙ ap (λ (ps : List (List ℕ)). spaced ws ∷ ps) (physical_text lines h.1)

joined_at : (style : Style) (n : ℕ) (x : List ℕ) (ws ps : List (List ℕ)) → IsRead x ws → joined_lines style n (x ∷ ps) ≡ record { number = n; words = ws } ∷ joined_lines style (suc n) ps
joined_at style n x ws ps r = rw (joins_not style x ws r, said_is style x ws r, r.words) refl

kept : (n : ℕ) (ws : List (List ℕ)) (lines : List WordLine) → 0 < length ws → filter says_something (record { number = n; words = ws } ∷ lines) ≡ record { number = n; words = ws } ∷ filter says_something lines
kept n ws lines h = rw (ne_eqb (length ws) 0 (λ e. omega (arith, e, h))) refl

joined_text : (style : Style) (n : ℕ) (lines : List (List (List ℕ))) → AllByRecursion IsPlainLine lines → filter says_something (joined_lines style n (map spaced lines)) ≡ numbered n lines
joined_text style n [] h = refl
joined_text style n (ws ∷ lines) h =
    ap (filter says_something) (joined_at style n (spaced ws) ws (map spaced lines) (read_of ws h.0))
    ∙ kept n ws (joined_lines style (suc n) (map spaced lines)) h.0.some
    ∙ ap (λ (ls : List WordLine). let one : WordLine = record { number = n; words = ws } in one ∷ ls) (joined_text style (suc n) lines h.1)

pub lines_written : (style : Style) (lines : List (List (List ℕ))) → All IsPlainLine lines → word_lines style (text_of lines) ≡ numbered 1 lines
unfolding word_lines
lines_written style lines h =
    let each = recursion_from_All IsPlainLine lines h in
    ap (λ (ps : List (List ℕ)). filter says_something (joined_lines style 1 ps)) (physical_text lines each) ∙ joined_text style 1 lines each

pub last_written : (lines : List (List (List ℕ))) → All IsPlainLine lines → last_line (text_of lines) ≡ length lines
unfolding last_line
last_written lines h = ap length (physical_text lines (recursion_from_All IsPlainLine lines h)) ∙ length-map lines spaced

-- The words that are cut out at the spans of a text's lines are its words.
use Rattle.std.proofs.Common.{◌≡◌, ℕ, suc, ◌+◌, ◌-◌, ◌<◌, ◌≤◌, Bool, true, false, not, cond, eqb, List, [], ◌∷◌, ◌++◌, length, map, take, drop, refl, sym, ap, ap₂, ◌∙◌, arith}
use Rattle.std.specs.List.{AllByRecursion, filter, slice_split, onto_first}
use Rattle.std.proofs.lemmas.Bool.{eq-eqb, ne_eqb}
use Rattle.std.proofs.lemmas.List.{append_assoc, append-nil, map-append, length-map, take-append-drop, drop-drop}
use Rattle.ae_lex.specs.declared.text.Style.{Style}
use Rattle.ae_lex.specs.declared.text.Style.TheVariants.{Pla, Blif}
use Rattle.ae_lex.specs.declared.text.Span.{Span}
use Rattle.ae_lex.specs.declared.text.Line.{Line}
use Rattle.ae_lex.specs.Lines.{Physical, led_by, physical, grown, words_at, joined_to, joined, has_words, lines_of}
use Rattle.ae_lex.specs.Words.{is_blank, joins_next, said, trimmed, uncommented, ends_open, physical_lines, last_line, words, WordLine, before_next, joined_lines, says_something, word_lines}
use Rattle.ae_lex.specs.Lines.{cut, cut_line}
use Rattle.ae_lex.proofs.Cuts.{StartsFrom, starts_from, grown_apart}
use Rattle.ae_lex.proofs.Inside.{Within, AllWithin, words_within, StartsAt, physical_fits}

-- the text has these bytes at a place, and others after them
abbrev Stands : List ℕ → ℕ → List ℕ → Type 0
Stands text place bytes = (rest : List ℕ) × (drop place text ≡ bytes ++ rest)

next_drop : (text : List ℕ) (place b : ℕ) (rest : List ℕ) → drop place text ≡ b ∷ rest → drop (suc place) text ≡ rest
next_drop text place b rest e =
    let at : place + 1 ≡ suc place = omega arith in
    ap (λ (k : ℕ). drop k text) (sym at) ∙ sym (drop-drop 1 place text) ∙ ap (drop 1) e

-- ---- physical lines

abbrev Lies : List ℕ → Physical → Type 0
Lies text line = Stands text line.start line.bytes

abbrev texts : List Physical → List (List ℕ)
texts lines = map (λ line. line.bytes) lines

led_lies : (text : List ℕ) (place b : ℕ) (bytes : List ℕ) (lines : List Physical) → drop place text ≡ b ∷ bytes → AllByRecursion (Lies text) lines → StartsAt (suc place) lines
    → AllByRecursion (Lies text) (led_by place b lines) × (texts (led_by place b lines) ≡ onto_first b (texts lines))
led_lies text place b bytes [] e h s = (((bytes, e), tt), refl)
led_lies text place b bytes (line ∷ lines) e h s =
    let after : bytes ≡ line.bytes ++ h.0.0 = sym (next_drop text place b bytes e) ∙ ap (λ (k : ℕ). drop k text) (sym s) ∙ h.0.1 in
    (((h.0.0, e ∙ ap (λ (bs : List ℕ). b ∷ bs) after), h.1), refl)

line_lies : (c : Bool) (text : List ℕ) (place b : ℕ) (bytes : List ℕ) (lines : List Physical) → drop place text ≡ b ∷ bytes → AllByRecursion (Lies text) lines → StartsAt (suc place) lines
    → AllByRecursion (Lies text) (cond c (record { start = place; bytes = [] } ∷ lines) (led_by place b lines))
    × (texts (cond c (record { start = place; bytes = [] } ∷ lines) (led_by place b lines)) ≡ cond c ([] ∷ texts lines) (onto_first b (texts lines)))
line_lies true text place b bytes lines e h s = (((drop place text, refl), h), refl)
line_lies false text place b bytes lines e h s = led_lies text place b bytes lines e h s

starts_at : (place : ℕ) (bytes : List ℕ) → StartsAt place (physical place bytes)
starts_at place bytes = (physical_fits (place + length bytes) place bytes (omega arith)).1

lines_lie : (text : List ℕ) (place : ℕ) (bytes : List ℕ) → drop place text ≡ bytes
    → AllByRecursion (Lies text) (physical place bytes) × (texts (physical place bytes) ≡ physical_lines bytes)
lines_lie text place [] e = (tt, refl)
lines_lie text place (b ∷ bytes) e =
    let rest = lines_lie text (suc place) bytes (next_drop text place b bytes e) in
    let line = line_lies (eqb b 10) text place b bytes (physical (suc place) bytes) e rest.0 (starts_at (suc place) bytes) in
    (line.0, line.1 ∙ ap (λ (ls : List (List ℕ)). cond (eqb b 10) ([] ∷ ls) (onto_first b ls)) rest.1)

-- ---- words

abbrev pub filled : List (List ℕ) → List (List ℕ)
filled parts = filter (λ part. not (eqb (length part) 0)) parts

-- a word starts at the place
abbrev BeginsAt : ℕ → List Span → Type 0
BeginsAt place [] = ⊥
BeginsAt place (w ∷ ws) = (w.start ≡ place) × (w.start < w.end)

begins_cond : (c : Bool) (n place : ℕ) (w : Span) (ws : List Span) → Within n w → suc place ≤ w.start
    → BeginsAt place (cond c (record { start = place; «end» = w.end } ∷ ws) (record { start = place; «end» = suc place } ∷ w ∷ ws))
begins_cond true n place w ws h s = (refl, omega (arith, h.0))
begins_cond false n place w ws h s = (refl, omega arith)

begins_grown : (n place : ℕ) (ws : List Span) → AllWithin n ws → StartsFrom (suc place) ws → BeginsAt place (grown place ws)
begins_grown n place [] h s = (refl, omega arith)
begins_grown n place (w ∷ ws) h s = begins_cond (eqb w.start (suc place)) n place w ws h.0 s

one_byte : (text : List ℕ) (place b : ℕ) (rest : List ℕ) → drop place text ≡ b ∷ rest → cut text (record { start = place; «end» = suc place }) ≡ b ∷ []
one_byte text place b rest e =
    let one : suc place - place ≡ 1 = omega arith in
    ap₂ (λ (k : ℕ) (bs : List ℕ). take k bs) one e

-- a byte before the first of a list of words
grown_cut : (text : List ℕ) (place b c : ℕ) (part : List ℕ) (parts : List (List ℕ)) (rest : List ℕ) (ws : List Span) → drop place text ≡ b ∷ rest → BeginsAt (suc place) ws
    → map (cut text) ws ≡ (c ∷ part) ∷ parts → map (cut text) (grown place ws) ≡ (b ∷ c ∷ part) ∷ parts
grown_cut text place b c part parts rest [] e s h = absurd s
grown_cut text place b c part parts rest (w ∷ ws) e s h =
    let longer : w.end - place ≡ suc (w.end - w.start) = omega (arith, s.0, s.1) in
    let whole : drop place text ≡ b ∷ drop w.start text = e ∙ ap (λ (bs : List ℕ). b ∷ bs) (sym (ap (λ (k : ℕ). drop k text) s.0 ∙ next_drop text place b rest e)) in
    let first : cut text (record { start = place; «end» = w.end }) ≡ b ∷ cut text w = ap₂ (λ (k : ℕ) (bs : List ℕ). take k bs) longer whole in
    rw (eq-eqb w.start (suc place) s.0) (
    ap (λ (v : List ℕ). v ∷ map (cut text) ws) first
    ∙ ap (λ (vs : List (List ℕ)). onto_first b vs) h
    )

abbrev parts_of : List ℕ → List (List ℕ)
parts_of t = slice_split is_blank t

pub filled_some : (part : List ℕ) (parts : List (List ℕ)) → 0 < length part → filled (part ∷ parts) ≡ part ∷ filled parts
filled_some part parts h = rw (ne_eqb (length part) 0 (λ e. omega (arith, e, h))) refl

-- a byte before a word
grown_more : (text : List ℕ) (place b c : ℕ) (parts : List (List ℕ)) (rest : List ℕ) (ws : List Span) → drop place text ≡ b ∷ rest → BeginsAt (suc place) ws
    → map (cut text) ws ≡ filled (onto_first c parts) → map (cut text) (grown place ws) ≡ filled (onto_first b (onto_first c parts))
grown_more text place b c [] rest ws e s h = grown_cut text place b c [] [] rest ws e s (h ∙ filled_some (c ∷ []) [] (omega arith)) ∙ sym (filled_some (b ∷ c ∷ []) [] (omega arith))
grown_more text place b c (part ∷ parts) rest ws e s h =
    grown_cut text place b c part (filled parts) rest ws e s (h ∙ filled_some (c ∷ part) parts (omega arith)) ∙ sym (filled_some (b ∷ c ∷ part) parts (omega arith))

-- a byte that is no blank, before a byte that is one or not
grown_by : (k : Bool) (text : List ℕ) (place b c : ℕ) (t rest : List ℕ) (ws : List Span) → ws ≡ words_at (suc (suc place)) t → drop place text ≡ b ∷ rest
    → map (cut text) (cond k ws (grown (suc place) ws)) ≡ filled (cond k ([] ∷ parts_of t) (onto_first c (parts_of t)))
    → map (cut text) (grown place (cond k ws (grown (suc place) ws))) ≡ filled (onto_first b (cond k ([] ∷ parts_of t) (onto_first c (parts_of t))))
grown_by true text place b c t rest ws w e h =
    let apart : grown place ws ≡ record { start = place; «end» = suc place } ∷ ws = grown_apart place (suc (suc place)) ws (omega arith) (rw w (starts_from (suc (suc place)) t)) in
    ap (map (cut text)) apart ∙ ap₂ (λ (v : List ℕ) (vs : List (List ℕ)). v ∷ vs) (one_byte text place b rest e) h ∙ sym (filled_some (b ∷ []) (parts_of t) (omega arith))
grown_by false text place b c t rest ws w e h =
    let n = suc (suc place) + length t in
    let within : AllWithin n ws = rw w (words_within n (suc (suc place)) t (omega arith)) in
    grown_more text place b c (parts_of t) rest (grown (suc place) ws) e (begins_grown n (suc place) ws within (rw w (starts_from (suc (suc place)) t))) h

grown_words : (text : List ℕ) (place b : ℕ) (t rest : List ℕ) → drop place text ≡ b ∷ rest → map (cut text) (words_at (suc place) t) ≡ words t
    → map (cut text) (grown place (words_at (suc place) t)) ≡ filled (onto_first b (parts_of t))
grown_words text place b [] rest e h = ap (λ (v : List ℕ). v ∷ []) (one_byte text place b rest e) ∙ sym (filled_some (b ∷ []) [] (omega arith))
grown_words text place b (c ∷ t) rest e h = grown_by (is_blank c) text place b c t rest (words_at (suc (suc place)) t) refl e h

byte_words : (k : Bool) (text : List ℕ) (b : ℕ) (parts : List (List ℕ)) (ws more : List Span) → map (cut text) ws ≡ filled parts → map (cut text) more ≡ filled (onto_first b parts)
    → map (cut text) (cond k ws more) ≡ filled (cond k ([] ∷ parts) (onto_first b parts))
byte_words true text b parts ws more h g = h
byte_words false text b parts ws more h g = g

words_cut : (text : List ℕ) (place : ℕ) (t rest : List ℕ) → drop place text ≡ t ++ rest → map (cut text) (words_at place t) ≡ words t
words_cut text place [] rest e = refl
words_cut text place (b ∷ t) rest e =
    let h = words_cut text (suc place) t rest (next_drop text place b (t ++ rest) e) in
    byte_words (is_blank b) text b (parts_of t) (words_at (suc place) t) (grown place (words_at (suc place) t)) h (grown_words text place b t (t ++ rest) e h)

-- ---- what a physical line says stands at its front

abbrev IsFront : List ℕ → List ℕ → Type 0
IsFront front xs = (rest : List ℕ) × (xs ≡ front ++ rest)

front_take : (k : ℕ) (xs : List ℕ) → IsFront (take k xs) xs
front_take k xs = (drop k xs, sym (take-append-drop k xs))

front_front : (xs ys zs : List ℕ) → IsFront xs ys → IsFront ys zs → IsFront xs zs
front_front xs ys zs h k = (h.0 ++ k.0, k.1 ∙ ap (λ (l : List ℕ). l ++ k.0) h.1 ∙ append_assoc xs h.0 k.0)

front_cond : (c : Bool) (xs : List ℕ) → IsFront (cond c (take (length xs - 1) xs) xs) xs
front_cond true xs = front_take (length xs - 1) xs
front_cond false xs = ([], sym (append-nil xs))

said_front : (style : Style) (line : List ℕ) → IsFront (said style line) line
said_front Pla line = front_take _ line
said_front Blif line =
    let text = trimmed (uncommented line) in
    front_front _ text line (front_cond (ends_open text) text) (front_front text (uncommented line) line (front_take _ (uncommented line)) (front_take _ line))

said_cut : (style : Style) (text : List ℕ) (line : Physical) → Lies text line → map (cut text) (words_at line.start (said style line.bytes)) ≡ words (said style line.bytes)
said_cut style text line h =
    let front = said_front style line.bytes in
    words_cut text line.start (said style line.bytes) (front.0 ++ h.0) (h.1 ∙ ap (λ (l : List ℕ). l ++ h.0) front.1 ∙ append_assoc (said style line.bytes) front.0 h.0)

-- ---- joined lines

abbrev cut_lines : List ℕ → List Line → List WordLine
cut_lines text lines = map (cut_line text) lines

joined_to_cut : (text : List ℕ) (number : ℕ) (ws : List Span) (lines : List Line) → cut_lines text (joined_to number ws lines) ≡ before_next number (map (cut text) ws) (cut_lines text lines)
joined_to_cut text number ws [] = refl
joined_to_cut text number ws (line ∷ lines) =
    ap (λ (vs : List (List ℕ)). let one : WordLine = record { number = number; words = vs } in one ∷ cut_lines text lines) (map-append (cut text) ws line.words)

joined_by : (c : Bool) (text : List ℕ) (number : ℕ) (ws : List Span) (vs : List (List ℕ)) (lines : List Line) (rest : List WordLine) → map (cut text) ws ≡ vs → cut_lines text lines ≡ rest
    → cut_lines text (cond c (joined_to number ws lines) (record { number = number; words = ws } ∷ lines)) ≡ cond c (before_next number vs rest) (record { number = number; words = vs } ∷ rest)
joined_by true text number ws vs lines rest w h = joined_to_cut text number ws lines ∙ ap₂ (before_next number) w h
joined_by false text number ws vs lines rest w h = ap₂ (λ (us : List (List ℕ)) (ls : List WordLine). let one : WordLine = record { number = number; words = us } in one ∷ ls) w h

joined_cut : (style : Style) (text : List ℕ) (number : ℕ) (lines : List Physical) → AllByRecursion (Lies text) lines → cut_lines text (joined style number lines) ≡ joined_lines style number (texts lines)
joined_cut style text number [] h = refl
joined_cut style text number (line ∷ lines) h =
    joined_by (joins_next style line.bytes) text number (words_at line.start (said style line.bytes)) (words (said style line.bytes)) (joined style (suc number) lines) (joined_lines style (suc number) (texts lines))
    (said_cut style text line h.0) (joined_cut style text (suc number) lines h.1)

keep_cond : (c : Bool) (text : List ℕ) (line : Line) (lines : List Line) (rest : List WordLine) → cut_lines text lines ≡ rest
    → cut_lines text (cond c (line ∷ lines) lines) ≡ cond c (cut_line text line ∷ rest) rest
keep_cond true text line lines rest h = ap (λ (ls : List WordLine). cut_line text line ∷ ls) h
keep_cond false text line lines rest h = h

filter_cut : (text : List ℕ) (lines : List Line) → cut_lines text (filter has_words lines) ≡ filter says_something (cut_lines text lines)
filter_cut text [] = refl
filter_cut text (line ∷ lines) =
    let rest = filter says_something (cut_lines text lines) in
    keep_cond (has_words line) text line (filter has_words lines) rest (filter_cut text lines)
    ∙ ap (λ (n : ℕ). cond (not (eqb n 0)) (cut_line text line ∷ rest) rest) (sym (length-map line.words (cut text)))

pub lines_cut : (style : Style) (bytes : List ℕ) → map (cut_line bytes) (lines_of style bytes).list ≡ word_lines style bytes
unfolding lines_of word_lines
lines_cut style bytes =
    let lie = lines_lie bytes 0 bytes refl in
    filter_cut bytes (joined style 1 (physical 0 bytes))
    ∙ ap (filter says_something) (joined_cut style bytes 1 (physical 0 bytes) lie.0 ∙ ap (joined_lines style 1) lie.1)

pub last_same : (style : Style) (bytes : List ℕ) → (lines_of style bytes).last ≡ last_line bytes
unfolding lines_of last_line
last_same style bytes = sym (length-map (physical 0 bytes) (λ line. line.bytes)) ∙ ap length (lines_lie bytes 0 bytes refl).1

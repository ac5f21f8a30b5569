-- The first clash is a clash, and none is before it.
use Rattle.std.proofs.Common.{◌≡◌, ℕ, zero, suc, ◌<◌, ◌⊎◌, Bool, true, false, ◌&&◌, cond, List, length, get_or, Option, Some, None, refl, sym, ap, ap₂, subst, ◌∙◌, inl, inr, arith}
use Rattle.std.specs.Prelude.{slice_get, is_some, zip, All}
use Rattle.std.specs.List.{list_any}
use Rattle.std.specs.Option.{option_or, option_map_or}
use Rattle.std.proofs.lemmas.Bool.{and_from, and_parts, cases_eq, false≢true}
use Rattle.std.proofs.lemmas.Option.{cond_some, slice_get_within, get_or_from_slice_get, slice_get_read}
use Rattle.std.proofs.lemmas.List.Folds.{Any-from_list_any, list_any_at}
use Rattle.std.proofs.lemmas.Slice.Zip.{get_or-zip, length-zip}
use Rattle.std.proofs.lemmas.List.Elements.{All-get_or}
use Rattle.ae_base.specs.Cube.{meet}
use Rattle.ae_base.proofs.Meets.{common, left_holds, right_holds, common_is_point, meets}
use Rattle.ae_base.proofs.Results.{or_none}
use Rattle.ae_cover.specs.declared.parts.Mark.{Mark}
use Rattle.ae_cover.specs.declared.parts.Mark.TheVariants.{One, Zero, Dash, Void}
use Rattle.ae_cover.specs.declared.parts.Row.{Row}
use Rattle.ae_cover.specs.declared.parts.Clash.{Clash}
use Rattle.ae_cover.specs.Cover.{Table, IsRow, IsCover, is_one, is_zero, has_mark}
use Rattle.ae_cover.specs.Clash.{IsClash, zero_is_off, disagree, has_clash}
use Rattle.ae_cover.specs.LeastClash.{Disagree}
use Rattle.ae_cover.specs.FirstClash.{IsBefore, first_below, clash, clash_of, clash_at, least_clash, first_clash}

-- ---- the first answer below n

-- f answers x at this place, and nothing below it
pub record AnswersAt {X : Type 0} (n : ℕ) (f : ℕ → Option X) (x : X) : Type 0 where
  pub at : ℕ
  pub below : at < n
  pub is : f at ≡ Some x
  pub none : (j : ℕ) → j < at → f j ≡ None

or_some : {X : Type 0} (o p : Option X) (x : X) → option_or o p ≡ Some x → (o ≡ Some x) ⊎ ((o ≡ None) × (p ≡ Some x))
or_some None p x e = inr (refl, e)
or_some (Some y) p x e = inl e

pub none_below : {X : Type 0} (n : ℕ) (f : ℕ → Option X) → first_below n f ≡ None → (k : ℕ) → k < n → f k ≡ None
none_below zero f e k lt = absurd (omega arith)
none_below (suc n) f e k lt =
    let parts = or_none (first_below n f) (f n) e in
    elim (cases_eq k n) [
      | inl same ↦ ap f same ∙ parts.1
      | inr other ↦ none_below n f parts.0 k (omega arith)
    ]

further : {X : Type 0} (n : ℕ) (f : ℕ → Option X) (x : X) → AnswersAt n f x → AnswersAt (suc n) f x
further n f x a = let below : a.at < n = a.below in record { at = a.at; below = omega arith; is = a.is; none = a.none }

pub first_answer : {X : Type 0} (n : ℕ) (f : ℕ → Option X) (x : X) → first_below n f ≡ Some x → AnswersAt n f x
first_answer zero f x e = absurd cc
first_answer (suc n) f x e =
    elim (or_some (first_below n f) (f n) x e) [
      | inl a ↦ further n f x (first_answer n f x a)
      | inr b ↦ record { at = n; below = omega arith; is = b.1; none = none_below n f b.0 }
    ]

-- what is answered for an element that is there
mapped : {X Y : Type 0} (g : X → Option Y) (o : Option X) (y : Y) → option_map_or g o None ≡ Some y → (x : X) × (o ≡ Some x) × (g x ≡ Some y)
mapped g None y e = absurd cc
mapped g (Some x) y e = (x, refl, e)

-- ---- marks

one_there : (o : Option Mark) → option_map_or is_one o false ≡ true → o ≡ Some One
one_there None e = absurd (false≢true e)
one_there (Some One) e = refl
one_there (Some Zero) e = absurd (false≢true e)
one_there (Some Dash) e = absurd (false≢true e)
one_there (Some Void) e = absurd (false≢true e)

zero_there : (o : Option Mark) → option_map_or is_zero o false ≡ true → o ≡ Some Zero
zero_there None e = absurd (false≢true e)
zero_there (Some One) e = absurd (false≢true e)
zero_there (Some Zero) e = refl
zero_there (Some Dash) e = absurd (false≢true e)
zero_there (Some Void) e = absurd (false≢true e)

-- ---- the first clash

cond_is : (b : Bool) (o : Option Clash) (c : Clash) → cond b o None ≡ Some c → (b ≡ true) × (o ≡ Some c)
cond_is true o c e = (refl, e)
cond_is false o c e = absurd cc

-- the answer for a row as the one with Zero
off_answer : List Row → ℕ → ℕ → Row → ℕ → Option Clash
off_answer rows output on_row on off_row = option_map_or (clash output on_row off_row on) (slice_get rows off_row) None

-- the answer for a row as the one with One
on_answer : List Row → ℕ → ℕ → Option Clash
on_answer rows output on_row = option_map_or (clash_of rows output on_row) (slice_get rows on_row) None

-- two rows disagree at the output, and nothing was answered before
pub record IsLeast (m : ℕ) (rows : List Row) (c : Clash) : Type 0 where
  pub is_output : c.output < m
  pub rows_disagree : Disagree rows c
  no_output : (o : ℕ) → o < c.output → clash_at rows o ≡ None
  no_on : (i : ℕ) → i < c.on_row → on_answer rows c.output i ≡ None
  no_off : (j : ℕ) → j < c.off_row → off_answer rows c.output c.on_row rows_disagree.on j ≡ None

pub least : (m : ℕ) (rows : List Row) (c : Clash) → least_clash m rows ≡ Some c → IsLeast m rows c
unfolding off_answer on_answer
least m rows c e =
    let outputs = first_answer m (clash_at rows) c e in
    let ons = first_answer (length rows) (on_answer rows outputs.at) c outputs.is in
    let on = mapped (clash_of rows outputs.at ons.at) (slice_get rows ons.at) c ons.is in
    let offs = first_answer (length rows) (off_answer rows outputs.at ons.at on.0) c on.2 in
    let off = mapped (clash outputs.at ons.at offs.at on.0) (slice_get rows offs.at) c offs.is in
    let found : Clash = record { output = outputs.at; on_row = ons.at; off_row = offs.at } in
    let pair = cond_some (has_mark is_one outputs.at on.0 && has_mark is_zero outputs.at off.0 && meet on.0.cube off.0.cube) found c off.2 in
    let tests = and_parts (has_mark is_one outputs.at on.0 && has_mark is_zero outputs.at off.0) (meet on.0.cube off.0.cube) pair.0 in
    let marks = and_parts (has_mark is_one outputs.at on.0) (has_mark is_zero outputs.at off.0) tests.0 in
    let P : Clash → Type 0 = λ d. IsLeast m rows d in
    let there : Disagree rows found = record { on = on.0; off = off.0; on_row = on.1; off_row = off.1; one = marks.0; zero = marks.1; meet_is = tests.1 } in
    subst P pair.1 (record { is_output = outputs.below; rows_disagree = there; no_output = outputs.none; no_on = ons.none; no_off = offs.none })

-- ---- where rows disagree there is an answer

cell : (rows : List Row) (d : Clash) (h : Disagree rows d) → clash d.output d.on_row d.off_row h.on h.off ≡ Some d
cell rows d h = rw (h.one, h.zero, h.meet_is) refl

not_off : (rows : List Row) (d : Clash) (h : Disagree rows d) → off_answer rows d.output d.on_row h.on d.off_row ≡ None → ⊥
unfolding off_answer
not_off rows d h e = let some = cell rows d h in let none : clash d.output d.on_row d.off_row h.on h.off ≡ None = rw h.off_row at e in absurd cc

not_on : (rows : List Row) (d : Clash) (h : Disagree rows d) → on_answer rows d.output d.on_row ≡ None → ⊥
unfolding off_answer on_answer
not_on rows d h e =
    let none : clash_of rows d.output d.on_row h.on ≡ None = rw h.on_row at e in
    not_off rows d h (none_below (length rows) (off_answer rows d.output d.on_row h.on) none d.off_row (slice_get_within rows d.off_row h.off h.off_row))

not_output : (rows : List Row) (d : Clash) (h : Disagree rows d) → clash_at rows d.output ≡ None → ⊥
unfolding on_answer
not_output rows d h e =
    not_on rows d h (none_below (length rows) (on_answer rows d.output) e d.on_row (slice_get_within rows d.on_row h.on h.on_row))

pub not_least : (m : ℕ) (rows : List Row) (d : Clash) → Disagree rows d → d.output < m → least_clash m rows ≡ None → ⊥
not_least m rows d h lt e = not_output rows d h (none_below m (clash_at rows) e d.output lt)

same_off : (rows : List Row) (c d : Clash) (l h : Row) → slice_get rows c.on_row ≡ Some l → slice_get rows d.on_row ≡ Some h → d.output ≡ c.output → d.on_row ≡ c.on_row
    → off_answer rows d.output d.on_row h d.off_row ≡ off_answer rows c.output c.on_row l d.off_row
same_off rows c d l h least_there there o i =
    let same_place : slice_get rows d.on_row ≡ slice_get rows c.on_row = ap (slice_get rows) i in
    let same : h ≡ l = cc in
    cc

pub none_before : (m : ℕ) (rows : List Row) (c d : Clash) → IsLeast m rows c → Disagree rows d → IsBefore d c → ⊥
none_before m rows c d l h before =
    elim before [
      | inl o ↦ not_output rows d h (l.no_output d.output o)
      | inr (inl i) ↦ not_on rows d h (ap (λ o. on_answer rows o d.on_row) i.0 ∙ l.no_on d.on_row i.1)
      | inr (inr j) ↦ not_off rows d h (same_off rows c d l.rows_disagree.on h.on l.rows_disagree.on_row h.on_row j.0 j.1 ∙ l.no_off d.off_row j.2)
    ]

-- ---- the laws

row_at : (n m : ℕ) (rows : List Row) (i : ℕ) (row : Row) → All (IsRow n m) rows → slice_get rows i ≡ Some row → IsRow n m row
row_at n m rows i row all e =
    let P : Row → Type 0 = IsRow n m in
    subst P (get_or_from_slice_get rows i row row e) (All-get_or (IsRow n m) rows i row (slice_get_within rows i row e) all)

-- two rows of a cover that disagree at an output
pub rows_clash : (t : Table) (c : Clash) (on off : Row) → IsCover t → zero_is_off t.kind ≡ true → c.output < length t.outputs → slice_get t.rows c.on_row ≡ Some on → slice_get t.rows c.off_row ≡ Some off
    → slice_get on.outs c.output ≡ Some One → slice_get off.outs c.output ≡ Some Zero → meet on.cube off.cube ≡ true → IsClash t c
rows_clash t c on off h k lt on_row off_row ones zeros meets =
    let on_fits = row_at _ _ t.rows c.on_row on h.rows on_row in
    let off_fits = row_at _ _ t.rows c.off_row off h.rows off_row in
    record {
      kind = k;
      is_output = lt;
      on = on;
      off = off;
      on_row = on_row;
      off_row = off_row;
      one = ones;
      zero = zeros;
      point = common on.cube off.cube;
      is_point = common_is_point _ on.cube off.cube on_fits.pos off_fits.pos;
      on_holds = left_holds on.cube off.cube on_fits.is_product meets;
      off_holds = right_holds on.cube off.cube off_fits.is_product meets;
    }

is_clash : (t : Table) (c : Clash) → IsCover t → zero_is_off t.kind ≡ true → IsLeast (length t.outputs) t.rows c → IsClash t c
is_clash t c h k l =
    let rows = l.rows_disagree in
    rows_clash t c rows.on rows.off h k l.is_output rows.on_row rows.off_row (one_there _ rows.one) (zero_there _ rows.zero) rows.meet_is

-- the rows of a clash disagree
clash_rows : (t : Table) (c : Clash) → IsClash t c → Disagree t.rows c
clash_rows t c h = record {
  on = h.on;
  off = h.off;
  on_row = h.on_row;
  off_row = h.off_row;
  one = ap (λ o. option_map_or is_one o false) h.one;
  zero = ap (λ o. option_map_or is_zero o false) h.zero;
  meet_is = meets h.on.cube h.off.cube h.point h.on_holds h.off_holds;
}

pub found_is : (t : Table) (c : Clash) → IsCover t → first_clash t ≡ Some c → IsClash t c
unfolding first_clash
found_is t c h e =
    let found = cond_is (zero_is_off t.kind) (least_clash (length t.outputs) t.rows) c e in
    is_clash t c h found.0 (least (length t.outputs) t.rows c found.1)

pub none_is_before : (t : Table) (c d : Clash) → first_clash t ≡ Some c → IsClash t d → IsBefore d c → ⊥
unfolding first_clash
none_is_before t c d e h =
    none_before (length t.outputs) t.rows c d (least (length t.outputs) t.rows c (cond_is (zero_is_off t.kind) (least_clash (length t.outputs) t.rows) c e).1) (clash_rows t d h)

pub none_is : (t : Table) (d : Clash) → first_clash t ≡ None → IsClash t d → ⊥
unfolding first_clash
none_is t d e h = not_least (length t.outputs) t.rows d (clash_rows t d h) h.is_output (rw h.kind at e)

pub unmarked : (t : Table) → zero_is_off t.kind ≡ false → first_clash t ≡ None
unfolding first_clash
unmarked t h = rw h refl

-- ---- the test

-- at an output of both rows the one has One and the other Zero
marks_at : (on off : Row) (o : ℕ) → slice_get on.outs o ≡ Some One → slice_get off.outs o ≡ Some Zero → list_any (λ marks. is_one marks.0 && is_zero marks.1) (zip on.outs off.outs) ≡ true
marks_at on off o ones zeros =
    let pair : Mark × Mark = (One, Zero) in
    let there : get_or (zip on.outs off.outs) o pair ≡ (get_or on.outs o One, get_or off.outs o Zero) = get_or-zip on.outs off.outs o pair (slice_get_within on.outs o One ones) (slice_get_within off.outs o Zero zeros) in
    let same : get_or (zip on.outs off.outs) o pair ≡ pair = there ∙ ap₂ (λ (a b : Mark). let p : Mark × Mark = (a, b) in p) (get_or_from_slice_get on.outs o One One ones) (get_or_from_slice_get off.outs o Zero Zero zeros) in
    let within : o < length (zip on.outs off.outs) = omega (arith, length-zip on.outs off.outs, slice_get_within on.outs o One ones, slice_get_within off.outs o Zero zeros) in
    list_any_at (λ (marks : Mark × Mark). is_one marks.0 && is_zero marks.1) (zip on.outs off.outs) o pair within (ap (λ (marks : Mark × Mark). is_one marks.0 && is_zero marks.1) same)

clash_is_seen : (t : Table) (c : Clash) → IsClash t c → has_clash t ≡ true
unfolding has_clash
clash_is_seen t c h =
    let pair : disagree h.on h.off ≡ true = and_from _ _ (meets h.on.cube h.off.cube h.point h.on_holds h.off_holds) (marks_at h.on h.off c.output h.one h.zero) in
    let off : list_any (disagree h.on) t.rows ≡ true =
    list_any_at (disagree h.on) t.rows c.off_row h.off (slice_get_within t.rows c.off_row h.off h.off_row) (ap (disagree h.on) (get_or_from_slice_get t.rows c.off_row h.off h.off h.off_row) ∙ pair) in
    let on : list_any (λ row. list_any (disagree row) t.rows) t.rows ≡ true =
    list_any_at (λ row. list_any (disagree row) t.rows) t.rows c.on_row h.on (slice_get_within t.rows c.on_row h.on h.on_row) (ap (λ row. list_any (disagree row) t.rows) (get_or_from_slice_get t.rows c.on_row h.on h.on h.on_row) ∙ off) in
    and_from _ _ h.kind on

seen_is_clash : (t : Table) → IsCover t → has_clash t ≡ true → (c : Clash) × IsClash t c
unfolding has_clash
seen_is_clash t h e =
    let parts = and_parts (zero_is_off t.kind) _ e in
    let on = Any-from_list_any (λ row. list_any (disagree row) t.rows) t.rows parts.1 in
    let off = Any-from_list_any (disagree on.1) t.rows on.4 in
    let pair = and_parts (meet on.1.cube off.1.cube) _ off.4 in
    let marks = Any-from_list_any (λ (marks : Mark × Mark). is_one marks.0 && is_zero marks.1) (zip on.1.outs off.1.outs) pair.1 in
    let tests = and_parts (is_one marks.1.0) (is_zero marks.1.1) marks.4 in
    let on_there : slice_get t.rows on.0 ≡ Some on.1 = slice_get_read t.rows (length t.rows) on.0 on.1 refl on.2 (sym on.3) in
    let off_there : slice_get t.rows off.0 ≡ Some off.1 = slice_get_read t.rows (length t.rows) off.0 off.1 refl off.2 (sym off.3) in
    let on_long = (row_at _ _ t.rows on.0 on.1 h.rows on_there).marks in
    let off_long = (row_at _ _ t.rows off.0 off.1 h.rows off_there).marks in
    let output : marks.0 < length t.outputs = omega (arith, marks.2, length-zip on.1.outs off.1.outs, on_long, off_long) in
    let on_within : marks.0 < length on.1.outs = omega (arith, output, on_long) in
    let off_within : marks.0 < length off.1.outs = omega (arith, output, off_long) in
    let zipped = sym marks.3 ∙ get_or-zip on.1.outs off.1.outs marks.0 marks.1 on_within off_within in
    let ones : slice_get on.1.outs marks.0 ≡ Some One = slice_get_read on.1.outs (length on.1.outs) marks.0 marks.1.0 refl on_within (ap (λ (p : Mark × Mark). p.0) zipped) ∙ one_there (Some marks.1.0) tests.0 in
    let zeros : slice_get off.1.outs marks.0 ≡ Some Zero = slice_get_read off.1.outs (length off.1.outs) marks.0 marks.1.1 refl off_within (ap (λ (p : Mark × Mark). p.1) zipped) ∙ zero_there (Some marks.1.1) tests.1 in
    let c : Clash = record { output = marks.0; on_row = on.0; off_row = off.0 } in
    (c, rows_clash t c on.1 off.1 h parts.0 output on_there off_there ones zeros pair.0)

by_cases : (t : Table) → IsCover t → (b : Bool) → has_clash t ≡ b → (o : Option Clash) → first_clash t ≡ o → has_clash t ≡ is_some o
by_cases t h b e (Some c) f = clash_is_seen t c (found_is t c h f)
by_cases t h true e None f = let seen = seen_is_clash t h e in absurd (none_is t seen.0 f seen.1)
by_cases t h false e None f = e

-- the test tells whether there is a first clash
pub test_is : (t : Table) → IsCover t → has_clash t ≡ is_some (first_clash t)
test_is t h = by_cases t h (has_clash t) refl (first_clash t) refl

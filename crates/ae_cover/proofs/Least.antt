-- The least clash among some of the pairs of rows.
use Rattle.std.proofs.Common.{◌≡◌, ℕ, ◌+◌, ◌-◌, ◌<◌, ◌≤◌, ◌⊎◌, Bool, true, false, List, length, get_or, Option, Some, None, refl, sym, ap, subst, ◌∙◌, inl, inr, eqb, ltb, eq-eqb, eqb-true, lt-ltb, ltb-true, arith}
use Rattle.std.specs.Prelude.{slice_get}
use Rattle.std.specs.Option.{option_map_or}
use Rattle.std.proofs.lemmas.Bool.{and_from, and_parts, cases_lt, cases_order, cond_both, false≢true, or_cases, or_left, or_right}
use Rattle.std.proofs.lemmas.Option.{slice_get_within}
use Rattle.ae_base.specs.Mask.{Set, has, len, both, either, least as least_of}
use Rattle.ae_base.proofs.Sets.{has-both, has-either, has-where_below}
use Rattle.ae_base.proofs.Members.{len-zero, least-is, least-empty}
use Rattle.ae_cover.specs.declared.parts.Mark.{Mark}
use Rattle.ae_cover.specs.declared.parts.Row.{Row}
use Rattle.ae_cover.specs.declared.parts.Clash.{Clash}
use Rattle.ae_cover.specs.Cover.{has_mark, is_one, is_zero}
use Rattle.ae_base.specs.Cube.{meet}
use Rattle.ae_cover.specs.FirstClash.{IsBefore, least_clash}
use Rattle.ae_cover.specs.LeastClash.{Disagree, IsLeastIn, InBlock, InRow, marked, ones_at, at_output, of_pair, is_before, lesser}
use Rattle.ae_cover.proofs.Clashes.{least, not_least, none_before}

-- ---- the order of clashes

made : ℕ → ℕ → ℕ → Clash
made o i j = record { output = o; on_row = i; off_row = j }

same : (c d : Clash) → c.output ≡ d.output → c.on_row ≡ d.on_row → c.off_row ≡ d.off_row → c ≡ d
unfolding made
same c d o i j = ap (λ x. made x c.on_row c.off_row) o ∙ ap (λ x. made d.output x c.off_row) i ∙ ap (λ x. made d.output d.on_row x) j

order : (c d : Clash) → (c ≡ d) ⊎ (IsBefore c d ⊎ IsBefore d c)
order c d =
    elim (cases_order c.output d.output) [
      | inl o ↦ elim (cases_order c.on_row d.on_row) [
        | inl i ↦ elim (cases_order c.off_row d.off_row) [
          | inl j ↦ inl (same c d o i j)
          | inr (inl j) ↦ inr (inl (inr (inr (o, i, j))))
          | inr (inr j) ↦ inr (inr (inr (inr (sym o, sym i, j))))
        ]
        | inr (inl i) ↦ inr (inl (inr (inl (o, i))))
        | inr (inr i) ↦ inr (inr (inr (inl (sym o, i))))
      ]
      | inr (inl o) ↦ inr (inl (inl o))
      | inr (inr o) ↦ inr (inr (inl o))
    ]

before_trans : (b c d : Clash) → IsBefore b c → IsBefore c d → IsBefore b d
before_trans b c d x y =
    elim x [
      | inl p ↦ elim y [ inl q ↦ inl (omega arith) | inr (inl q) ↦ inl (omega arith) | inr (inr q) ↦ inl (omega arith) ]
      | inr (inl p) ↦ elim y [ inl q ↦ inl (omega arith) | inr (inl q) ↦ inr (inl (omega arith, omega arith)) | inr (inr q) ↦ inr (inl (omega arith, omega arith)) ]
      | inr (inr p) ↦ elim y [ inl q ↦ inl (omega arith) | inr (inl q) ↦ inr (inl (omega arith, omega arith)) | inr (inr q) ↦ inr (inr (omega arith, omega arith, omega arith)) ]
    ]

tested : (c d : Clash) → is_before c d ≡ true → IsBefore c d
tested c d e =
    elim (or_cases (ltb c.output d.output) _ e) [
      | inl o ↦ inl (ltb-true _ _ o)
      | inr p ↦
          let at = and_parts (eqb c.output d.output) _ p in
          elim (or_cases (ltb c.on_row d.on_row) _ at.1) [
            | inl i ↦ inr (inl (eqb-true _ _ at.0, ltb-true _ _ i))
            | inr q ↦ let row = and_parts (eqb c.on_row d.on_row) _ q in inr (inr (eqb-true _ _ at.0, eqb-true _ _ row.0, ltb-true _ _ row.1))
          ]
    ]

test : (c d : Clash) → IsBefore c d → is_before c d ≡ true
test c d b =
    elim b [
      | inl o ↦ or_left _ _ (lt-ltb _ _ o)
      | inr (inl i) ↦ or_right _ _ (and_from _ _ (eq-eqb _ _ i.0) (or_left _ _ (lt-ltb _ _ i.1)))
      | inr (inr j) ↦ or_right _ _ (and_from _ _ (eq-eqb _ _ j.0) (or_right _ _ (and_from _ _ (eq-eqb _ _ j.1) (lt-ltb _ _ j.2))))
    ]

-- b is before c, and e is not
before_other : (b c e : Clash) → IsBefore b c → is_before e c ≡ false → IsBefore b e
before_other b c e x none =
    elim (order e c) [
      | inl is ↦ let P : Clash → Type 0 = λ d. IsBefore b d in subst P (sym is) x
      | inr (inl y) ↦ absurd (false≢true (sym none ∙ test e c y))
      | inr (inr y) ↦ before_trans b c e x y
    ]

-- ---- the lesser of two

pub joined : (rows : List Row) (R Q S : Clash → Type 0) (best found : Option Clash) → IsLeastIn rows R best → IsLeastIn rows Q found → ((c : Clash) → R c → S c) → ((c : Clash) → Q c → S c) → ((c : Clash) → S c → R c ⊎ Q c)
    → IsLeastIn rows S (lesser best found)
joined rows R Q S None None b f r q s = λ d g h. elim (s d h) [ inl x ↦ b d g x | inr y ↦ f d g y ]
joined rows R Q S None (Some e) b f r q s = (f.0, q e f.1, λ d g h before. elim (s d h) [ inl x ↦ b d g x | inr y ↦ f.2 d g y before ])
joined rows R Q S (Some c) None b f r q s = (b.0, r c b.1, λ d g h before. elim (s d h) [ inl x ↦ b.2 d g x before | inr y ↦ f d g y ])
joined rows R Q S (Some c) (Some e) b f r q s =
    let P : Option Clash → Type 0 = λ o. IsLeastIn rows S o in
    cond_both (is_before e c) (Some e) (Some c) P
    (λ yes. (f.0, q e f.1, λ d g h before. elim (s d h) [ inl x ↦ b.2 d g x (before_trans d e c before (tested e c yes)) | inr y ↦ f.2 d g y before ]))
    (λ other. (b.0, r c b.1, λ d g h before. elim (s d h) [ inl x ↦ b.2 d g x before | inr y ↦ f.2 d g y (before_other d c e before other) ]))

-- ---- a pair of rows

-- at an output below the limit, of these two rows
AtPair : ℕ → ℕ → ℕ → Clash → Type 0
AtPair limit i j c = (c.output < limit) × (c.on_row ≡ i) × (c.off_row ≡ j)

is_marked : (is_such : Mark → Bool) (limit : ℕ) (row : Row) (o : ℕ) → o < limit → has_mark is_such o row ≡ true → has (marked is_such limit row) o ≡ true
is_marked is_such limit row o lt at = has-where_below limit (λ k. has_mark is_such k row) o ∙ and_from _ _ (lt-ltb o limit lt) at

shared : (limit : ℕ) (on off : Row) (o : ℕ) → o < limit → has_mark is_one o on ≡ true → has_mark is_zero o off ≡ true → has (both (marked is_one limit on) (marked is_zero limit off)) o ≡ true
shared limit on off o lt one zero_there =
    has-both (marked is_one limit on) (marked is_zero limit off) o ∙ and_from _ _ (is_marked is_one limit on o lt one) (is_marked is_zero limit off o lt zero_there)

shared_is : (limit : ℕ) (on off : Row) (o : ℕ) → has (both (marked is_one limit on) (marked is_zero limit off)) o ≡ true → (o < limit) × (has_mark is_one o on ≡ true) × (has_mark is_zero o off ≡ true)
shared_is limit on off o e =
    let parts = and_parts (has (marked is_one limit on) o) (has (marked is_zero limit off) o) (sym (has-both (marked is_one limit on) (marked is_zero limit off) o) ∙ e) in
    let ones = and_parts (ltb o limit) (has_mark is_one o on) (sym (has-where_below limit (λ k. has_mark is_one k on) o) ∙ parts.0) in
    let zeros = and_parts (ltb o limit) (has_mark is_zero o off) (sym (has-where_below limit (λ k. has_mark is_zero k off) o) ∙ parts.1) in
    (ltb-true o limit ones.0, ones.1, zeros.1)

same_row : (rows : List Row) (k i : ℕ) (x y : Row) → slice_get rows k ≡ Some x → k ≡ i → slice_get rows i ≡ Some y → x ≡ y
same_row rows k i x y there is here = let place : slice_get rows k ≡ slice_get rows i = ap (slice_get rows) is in cc

-- the rows disagree at an output that both have
both_there : (rows : List Row) (limit i j : ℕ) (on off : Row) → slice_get rows i ≡ Some on → slice_get rows j ≡ Some off → (d : Clash) → Disagree rows d → AtPair limit i j d
    → (has (both (marked is_one limit on) (marked is_zero limit off)) d.output ≡ true) × (meet on.cube off.cube ≡ true)
unfolding AtPair
both_there rows limit i j on off on_row off_row d g r =
    let on_is : g.on ≡ on = same_row rows d.on_row i g.on on g.on_row r.1 on_row in
    let off_is : g.off ≡ off = same_row rows d.off_row j g.off off g.off_row r.2 off_row in (
      shared limit on off d.output r.0 (ap (has_mark is_one d.output) (sym on_is) ∙ g.one) (ap (has_mark is_zero d.output) (sym off_is) ∙ g.zero),
      ap (λ row. meet row.cube off.cube) (sym on_is) ∙ ap (λ row. meet g.on.cube row.cube) (sym off_is) ∙ g.meet_is,
    )

pair_by : (rows : List Row) (limit i j : ℕ) (on off : Row) → slice_get rows i ≡ Some on → slice_get rows j ≡ Some off → (o : Option ℕ) → least_of (both (marked is_one limit on) (marked is_zero limit off)) ≡ o → (b : Bool)
    → meet on.cube off.cube ≡ b → IsLeastIn rows (AtPair limit i j) (option_map_or (at_output b i j) o None)
unfolding AtPair
pair_by rows limit i j on off on_row off_row None e b m = λ d g r.
    false≢true (sym (least-empty _ e d.output) ∙ (both_there rows limit i j on off on_row off_row d g r).0)
pair_by rows limit i j on off on_row off_row (Some o) e false m = λ d g r.
    false≢true (sym m ∙ (both_there rows limit i j on off on_row off_row d g r).1)
pair_by rows limit i j on off on_row off_row (Some o) e true m =
    let first = least-is (both (marked is_one limit on) (marked is_zero limit off)) o e in
    let at = shared_is limit on off o first.0 in (
      record { on = on; off = off; on_row = on_row; off_row = off_row; one = at.1; zero = at.2; meet_is = m },
      (at.0, refl, refl),
      λ d g r before.
          elim before [
            | inl less ↦ false≢true (sym (first.1 d.output less) ∙ (both_there rows limit i j on off on_row off_row d g r).0)
            | inr (inl row) ↦ absurd (omega (arith, row.1, r.1))
            | inr (inr row) ↦ absurd (omega (arith, row.2, r.2))
          ],
    )

pair_least : (rows : List Row) (limit i j : ℕ) (on off : Row) → slice_get rows i ≡ Some on → slice_get rows j ≡ Some off
    → IsLeastIn rows (AtPair limit i j) (of_pair (marked is_one limit on) (marked is_zero limit off) on.cube off.cube i j)
pair_least rows limit i j on off on_row off_row = pair_by rows limit i j on off on_row off_row _ refl _ refl

-- ---- a row for OFF

-- no row of the block has One where the row for OFF has Zero
pub none_shared : (rows : List Row) (start limit j : ℕ) (ones : List Set) (any at_zero : Set) (off : Row) → ((k : ℕ) → k < length ones → get_or ones k 0 ≡ ones_at rows limit (start + k))
    → ((k o : ℕ) → k < length ones → has (get_or ones k 0) o ≡ true → has any o ≡ true) → slice_get rows j ≡ Some off → at_zero ≡ marked is_zero limit off → len (both any at_zero) ≡ 0
    → IsLeastIn rows (InRow start (start + length ones) limit j) None
none_shared rows start limit j ones any at_zero off ones_are any_is off_row zeros_are none = λ d g r.
    let h = r.0 in
    let k = d.on_row - start in
    let lt : k < length ones = omega (arith, h.0, h.1) in
    let place : start + k ≡ d.on_row = omega (arith, h.0) in
    let on_there : slice_get rows (start + k) ≡ Some g.on = ap (slice_get rows) place ∙ g.on_row in
    let off_is : g.off ≡ off = same_row rows d.off_row j g.off off g.off_row r.1 off_row in
    let kept : get_or ones k 0 ≡ marked is_one limit g.on = ones_are k lt ∙ ap (λ (o : Option Row). option_map_or (marked is_one limit) o 0) on_there in
    let one : has (get_or ones k 0) d.output ≡ true = ap (λ s. has s d.output) kept ∙ is_marked is_one limit g.on d.output h.2 g.one in
    let off_one : has at_zero d.output ≡ true = ap (λ s. has s d.output) zeros_are ∙ is_marked is_zero limit off d.output h.2 (ap (has_mark is_zero d.output) (sym off_is) ∙ g.zero) in
    false≢true (sym (len-zero (both any at_zero) none d.output) ∙ (has-both any at_zero d.output ∙ and_from _ _ (any_is k d.output lt one) off_one))

-- the members of one more set
pub union_more : (sets : List Set) (i : ℕ) (s all : Set) → get_or sets i 0 ≡ s → ((k o : ℕ) → k < i → has (get_or sets k 0) o ≡ true → has all o ≡ true) → (k o : ℕ) → k < i + 1 → has (get_or sets k 0) o ≡ true → has (either all s) o ≡ true
union_more sets i s all is before k o lt there =
    elim (cases_lt k i) [
      | inl early ↦ has-either all s o ∙ or_left _ _ (before k o early there)
      | inr late ↦
          let last : k ≡ i = omega arith in
          has-either all s o ∙ or_right _ _ (ap (λ t. has t o) (sym (ap (λ n. get_or sets n 0) last ∙ is)) ∙ there)
    ]

pub one_more : (rows : List Row) (start limit k j : ℕ) (best found : Option Clash) (with_one with_zero : Set) (on off : Row) → slice_get rows (start + k) ≡ Some on → slice_get rows j ≡ Some off → with_one ≡ ones_at rows limit (start + k)
    → with_zero ≡ marked is_zero limit off → found ≡ of_pair with_one with_zero on.cube off.cube (start + k) j → IsLeastIn rows (InRow start (start + k) limit j) best → IsLeastIn rows (InRow start (start + (k + 1)) limit j) (lesser best found)
unfolding AtPair
one_more rows start limit k j best found with_one with_zero on off on_row off_row ones_are zeros_are is b =
    let kept : with_one ≡ marked is_one limit on = ones_are ∙ ap (λ (o : Option Row). option_map_or (marked is_one limit) o 0) on_row in
    let found_is : of_pair (marked is_one limit on) (marked is_zero limit off) on.cube off.cube (start + k) j ≡ found = cc in
    let P : Option Clash → Type 0 = IsLeastIn rows (AtPair limit (start + k) j) in
    joined rows (InRow start (start + k) limit j) (AtPair limit (start + k) j) (InRow start (start + (k + 1)) limit j) best found b (subst P found_is (pair_least rows limit (start + k) j on off on_row off_row))
    (λ c r. let h = r.0 in ((h.0, omega (arith, h.1), h.2), r.1))
    (λ c r. ((omega (arith, r.1), omega (arith, r.1), r.0), r.2))
    (λ c r. let h = r.0 in elim (cases_lt c.on_row (start + k)) [ inl lt ↦ inl ((h.0, lt, h.2), r.1) | inr ge ↦ inr (h.2, omega (arith, h.1), r.1) ])

-- ---- a block of rows for ON

-- those of the rows for OFF below the n-th
abbrev pub InRows : ℕ → ℕ → ℕ → ℕ → Clash → Type 0
InRows start stop limit n c = InBlock start stop limit c × (c.off_row < n)

pub row_more : (rows : List Row) (start stop limit n : ℕ) (best found : Option Clash) → IsLeastIn rows (InRow start stop limit n) found → IsLeastIn rows (InRows start stop limit n) best → IsLeastIn rows (InRows start stop limit (n + 1)) (lesser best found)
row_more rows start stop limit n best found f b =
    joined rows (InRows start stop limit n) (InRow start stop limit n) (InRows start stop limit (n + 1)) best found b f
    (λ c r. (r.0, omega (arith, r.1)))
    (λ c r. (r.0, omega (arith, r.1)))
    (λ c r. elim (cases_lt c.off_row n) [ inl lt ↦ inl (r.0, lt) | inr ge ↦ inr (r.0, omega (arith, r.1)) ])

-- a least one of a wider choice of clashes that has no more of them
same_choice : (rows : List Row) (R S : Clash → Type 0) (r : Option Clash) → IsLeastIn rows R r → ((c : Clash) → R c → S c) → ((c : Clash) → Disagree rows c → S c → R c) → IsLeastIn rows S r
same_choice rows R S None l to from = λ d g h. l d g (from d g h)
same_choice rows R S (Some c) l to from = (l.0, to c l.1, λ d g h before. l.2 d g (from d g h) before)

pub all_rows : (rows : List Row) (start stop limit : ℕ) (r : Option Clash) → IsLeastIn rows (InRows start stop limit (length rows)) r → IsLeastIn rows (InBlock start stop limit) r
all_rows rows start stop limit r l =
    same_choice rows (InRows start stop limit (length rows)) (InBlock start stop limit) r l (λ c h. h.0) (λ c g h. (h, slice_get_within rows c.off_row g.off g.off_row))

-- ---- block after block

-- the least clash of the rows for ON below start, and below which outputs one of a later row is less
pub record IsBest (m : ℕ) (rows : List Row) (start limit : ℕ) (best : Option Clash) : Type 0 where
  pub least_so_far : IsLeastIn rows (InBlock 0 start m) best
  pub limit_is : limit ≡ option_map_or (λ c. c.output) best m

-- a block has a clash below the limit
pub block_found : (m : ℕ) (rows : List Row) (start stop limit : ℕ) (best : Option Clash) (c : Clash) → start ≤ stop → limit ≤ m → IsBest m rows start limit best → IsLeastIn rows (InBlock start stop limit) (Some c) → IsBest m rows stop c.output (Some c)
block_found m rows start stop limit None c le few b f = record {
  least_so_far = (
    f.0,
    (let r = f.1 in (omega arith, omega arith, omega arith)),
    λ d g h before.
        elim (cases_lt d.on_row start) [
          | inl early ↦ b.least_so_far d g (h.0, early, h.2)
          | inr late ↦ f.2 d g (late, h.1, (let l = b.limit_is in omega (arith, l, h.2))) before
        ],
  );
  limit_is = refl;
}
block_found m rows start stop limit (Some a) c le few b f = let old = b.least_so_far in record {
  least_so_far = (
    f.0,
    (let r = f.1 in (omega arith, omega arith, omega arith)),
    λ d g h before.
        let low : d.output ≤ c.output = elim before [ inl x ↦ omega arith | inr (inl x) ↦ omega arith | inr (inr x) ↦ omega arith ] in
        let r = f.1 in
        let below : d.output < a.output = (let l = b.limit_is in omega arith) in
        elim (cases_lt d.on_row start) [ inl early ↦ old.2 d g (h.0, early, h.2) (inl below) | inr late ↦ f.2 d g (late, h.1, omega arith) before ],
  );
  limit_is = refl;
}

-- a block has none
pub block_none : (m : ℕ) (rows : List Row) (start stop limit : ℕ) (best : Option Clash) → start ≤ stop → IsBest m rows start limit best → IsLeastIn rows (InBlock start stop limit) None → IsBest m rows stop limit best
block_none m rows start stop limit None le b f = record {
  least_so_far = λ d g h. let l = b.limit_is in elim (cases_lt d.on_row start) [ inl early ↦ b.least_so_far d g (h.0, early, h.2) | inr late ↦ f d g (late, h.1, omega (arith, h.2)) ];
  limit_is = b.limit_is;
}
block_none m rows start stop limit (Some a) le b f = let old = b.least_so_far in let at = old.1 in let l = b.limit_is in record {
  least_so_far = (
    old.0,
    (at.0, omega arith, at.2),
    λ d g h before.
        elim (cases_lt d.on_row start) [
          | inl early ↦ old.2 d g (h.0, early, h.2) before
          | inr late ↦ elim before [ inl x ↦ f d g (late, h.1, omega arith) | inr (inl x) ↦ absurd (omega arith) | inr (inr x) ↦ absurd (omega arith) ]
        ],
  );
  limit_is = b.limit_is;
}

-- no later row matters
done : (m : ℕ) (rows : List Row) (start limit : ℕ) (best : Option Clash) → (start < length rows → 0 < limit → ⊥) → IsBest m rows start limit best → IsLeastIn rows (λ c. c.output < m) best
done m rows start limit None over b = λ d g h.
    let row = slice_get_within rows d.on_row g.on g.on_row in
    let l = b.limit_is in
    elim (cases_lt d.on_row start) [ inl early ↦ b.least_so_far d g (omega arith, early, h) | inr late ↦ over (omega arith) (omega arith) ]
done m rows start limit (Some a) over b =
    let old = b.least_so_far in
    let at = old.1 in
    let l = b.limit_is in (
      old.0,
      at.2,
      λ d g h before.
          let row = slice_get_within rows d.on_row g.on g.on_row in
          elim (cases_lt d.on_row start) [
            | inl early ↦ old.2 d g (omega arith, early, h) before
            | inr late ↦ elim before [ inl x ↦ over (omega arith) (omega arith) | inr (inl x) ↦ absurd (omega arith) | inr (inr x) ↦ absurd (omega arith) ]
          ],
    )

-- ---- the least of all

least_by : (m : ℕ) (rows : List Row) (r s : Option Clash) → IsLeastIn rows (λ c. c.output < m) r → least_clash m rows ≡ s → r ≡ s
least_by m rows None None l e = refl
least_by m rows None (Some d) l e = let found = least m rows d e in absurd (l d found.rows_disagree found.is_output)
least_by m rows (Some c) None l e = absurd (not_least m rows c l.0 l.1 e)
least_by m rows (Some c) (Some d) l e =
    let found = least m rows d e in
    elim (order c d) [
      | inl is ↦ ap Some is
      | inr (inl b) ↦ absurd (none_before m rows d c found l.0 b)
      | inr (inr b) ↦ absurd (l.2 d found.rows_disagree found.is_output b)
    ]

pub all_blocks : (m : ℕ) (rows : List Row) (start limit : ℕ) (best : Option Clash) → (start < length rows → 0 < limit → ⊥) → IsBest m rows start limit best → best ≡ least_clash m rows
all_blocks m rows start limit best over b = least_by m rows best (least_clash m rows) (done m rows start limit best over b) refl

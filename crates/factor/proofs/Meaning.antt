-- How many summands and joining gates a sum has.
use Rattle.std.proofs.Common.{◌≡◌, ◌≢◌, ℕ, suc, ◌+◌, ◌-◌, ◌*◌, ◌<◌, ◌≤◌, min, Bool, true, false, not, cond, inl, inr, List, [], ◌∷◌, length, refl, sym, ap, ◌∙◌, arith, zero, get_or, drop, drop-cons, ◌⊎◌, ltb, ◌%◌, ◌&&◌, ◌||◌, ap₂, eqb, subst, eq-eqb}
use Rattle.std.specs.List.{list_any, AllByRecursion}
use Rattle.std.proofs.lemmas.Bool.{cases_Bool, false≢true, cases_eq, or_cases, cases_lt, ltb-true, ltb-false, false_from_ne_true, and_parts}
use Rattle.ae_base.specs.Cube.{Product, IsOver, IsProduct, is_free, holds, whole}
use Rattle.ae_base.proofs.Distinct.{Distinct, Distinct-filter, each-filter}
use Rattle.factor.specs.declared.literals.Literal.{Literal}
use Rattle.factor.specs.Literals.{stands, is_empty, holding, others, without_literal, count, IsMost, NoneTwice, Precedes}
use Rattle.factor.specs.Sums.{Summands, IsSum, has_constant, plain_sum, joined, is_nothing, is_one, nodes, sum_value}
use Rattle.factor.specs.Sums.Summands.{end, literals, factored}
use Rattle.factor.specs.Sums.IsSum.{flat, taken}
use Rattle.factor.proofs.Taken.{is_same, empty_whole, length-holding, length_parts, Distinct-holding, joined_by, kept, constant-plain, some_stands, held_stands, other_stands, not_held, not_in_others, lit, stands_less, free_from, stands-whole, each_literal, counted_stands, literal_value, holds-whole, holds-with, holds-without, each_held, stands-without}
use Rattle.std.specs.Prelude.{All, Option, Some, None, IfSome, count_by}
use Rattle.std.proofs.lemmas.List.Elements.{All-from_recursion, recursion_from_All}
use Rattle.ae_base.specs.Mask.{has, first, Set, differ}
use Rattle.ae_base.proofs.Sets.{inside-has, has-inside, inside-below}
use Rattle.factor.specs.Seen.{EachLiteral, first_factors, with_cube, with_cubes}
use Rattle.factor.specs.declared.literals.Counted.{Counted}
use Rattle.factor.specs.Search.{best_count, better, IsFound, IsBest}
use Rattle.std.proofs.Math.Bool.{and-true, and-false}
use Rattle.std.proofs.lemmas.List.Sums.{sum_by-cons}
use Rattle.ae_base.proofs.Truth.{differ-assoc, differ-front, differ-false, and-over_differ}
use Rattle.esop.specs.Esop.{esop_value}
use Rattle.ae_base.proofs.Exor.{odd-suc}
use Rattle.ae_base.proofs.Elements.{length_filter_le}

abbrev pub flag : Bool → ℕ
flag b = cond b 1 0

-- the number of summands
abbrev pub width : Summands → ℕ
width (end b) = 0
width (literals ls rest) = suc (width rest)
width (factored ls inner rest) = suc (width rest)

-- one joining gate less than summands
abbrev pub own_joins : Summands → ℕ
own_joins s = width s - 1

-- the joining gates of all inner sums
abbrev pub inner_joins : Summands → ℕ
inner_joins (end b) = 0
inner_joins (literals ls rest) = inner_joins rest
inner_joins (factored ls inner rest) = (width inner - 1) + inner_joins inner + inner_joins rest

-- the summands, the constant and the joining gates of inner sums
abbrev pub weight : Summands → ℕ
weight s = width s + flag (has_constant s) + inner_joins s

width-plain : (ds : List Product) (b : Bool) → width (plain_sum ds b) ≡ length ds
width-plain [] b = refl
width-plain (d ∷ ds) b = ap suc (width-plain ds b)

inner-plain : (ds : List Product) (b : Bool) → inner_joins (plain_sum ds b) ≡ 0
inner-plain [] b = refl
inner-plain (d ∷ ds) b = inner-plain ds b

kept_and_flag : (cs : List Product) → length (kept cs) + flag (list_any is_empty cs) ≤ length cs
kept_and_flag [] = omega arith
kept_and_flag (c ∷ cs) = elim (cases_Bool (is_empty c)) [ inl e ↦ rw e (omega (arith, length_filter_le (λ d. not (is_empty d)) cs)) | inr e ↦ rw e (omega (arith, kept_and_flag cs)) ]

-- with its own joining gates and one more it is no more, where it is above 0
pub joins_below : (s : Summands) (h : ℕ) → weight s ≤ h → 0 < h → own_joins s + inner_joins s < h
joins_below (end b) h l some = omega (arith, some)
joins_below (literals ls rest) h l some = omega (arith, l)
joins_below (factored ls inner rest) h l some = omega (arith, l)

joined_weight : (t : Literal) (inner rest : Summands) (h r : ℕ) → 2 ≤ h → weight inner ≤ h → weight rest ≤ r → weight (joined t inner rest) ≤ h + r
joined_weight t inner rest h r two k l =
    joined_by (λ s. weight s ≤ h) (λ s. weight s ≤ h + r) t inner rest k
    (λ ls m. omega (arith, m, l, two))
    (λ ls deeper m. omega (arith, m, l, two))
    (λ m other. omega (arith, l, joins_below inner h m (omega (arith, two))))

pub weight_bound : (cs : List Product) (s : Summands) → IsSum cs s → weight s ≤ length cs
weight_bound cs s (flat _ none) = omega (arith, width-plain (kept cs) (list_any is_empty cs), inner-plain (kept cs) (list_any is_empty cs), ap flag (constant-plain (kept cs) (list_any is_empty cs)), kept_and_flag cs)
weight_bound cs s (taken _ t inner rest most hold other) =
    let h = joined_weight t inner rest (length (holding t cs)) (length (others t cs)) (omega (arith, length-holding t cs, most.twice)) (weight_bound (holding t cs) inner hold) (weight_bound (others t cs) rest other) in
    omega (arith, h, length_parts t cs)

-- ---- the number of summands of all inner sums

-- a sum of two different cubes has more than one of summands and constant, unless it is one summand alone
abbrev pub two_at_most : Summands → ℕ
two_at_most s = min 2 (width s + flag (has_constant s))

some_kept : (c d : Product) (cs : List Product) → c ≢ d → 0 < length (kept (c ∷ d ∷ cs))
some_kept c d cs other = elim (cases_Bool (is_empty c)) [
  | inl e ↦ elim (cases_Bool (is_empty d)) [
    | inl k ↦ absurd (other (empty_whole c e ∙ sym (empty_whole d k)))
    | inr k ↦ rw (e, k) (omega arith)
  ]
  | inr e ↦ rw e (omega arith)
]

-- it has a summand
has_summand : (cs : List Product) (s : Summands) → IsSum cs s → Distinct cs → 2 ≤ length cs → 0 < width s
has_summand cs s (flat _ none) distinct two = omega (arith, width-plain (kept cs) (list_any is_empty cs), some cs distinct two)
  where
    some : (ds : List Product) → Distinct ds → 2 ≤ length ds → 0 < length (kept ds)
    some [] d l = absurd (omega (arith, l))
    some (x ∷ []) d l = absurd (omega (arith, l))
    some (x ∷ y ∷ ds) d l = some_kept x y ds d.0.0
has_summand cs s (taken _ t inner rest most hold other) distinct two =
    joined_by (λ r. Unit {0}) (λ r. 0 < width r) t inner rest tt (λ ls m. omega arith) (λ ls deeper m. omega arith) (λ m other. omega arith)

at_end : (r : Summands) → is_nothing r ≡ false → 2 ≤ suc (width r) + flag (has_constant r)
at_end (end true) h = omega arith
at_end (end false) h = absurd (false≢true (sym h))
at_end (literals ms r) h = omega arith
at_end (factored ms i r) h = omega arith

one_of_many : (s : Summands) → 0 < width s → is_one s ≡ false → 2 ≤ width s + flag (has_constant s)
one_of_many (end b) l h = absurd (omega (arith, l))
one_of_many (literals ls rest) l h = at_end rest h
one_of_many (factored ls inner rest) l h = at_end rest h

nodes-plain : (ds : List Product) (b : Bool) → nodes (plain_sum ds b) ≡ length ds
nodes-plain [] b = refl
nodes-plain (d ∷ ds) b = ap suc (nodes-plain ds b)

joined_nodes : (t : Literal) (inner rest : Summands) (h r : ℕ) → 0 < width inner → nodes inner + two_at_most inner ≤ 2 * h → nodes rest + two_at_most rest ≤ 2 * r → nodes (joined t inner rest) + two_at_most (joined t inner rest) ≤ 2 * h + 2 * r
joined_nodes t inner rest h r some k l =
    joined_by (λ s. nodes s + two_at_most s ≤ 2 * h) (λ s. nodes s + two_at_most s ≤ 2 * h + 2 * r) t inner rest k
    (λ ls m. omega (arith, m, l))
    (λ ls deeper m. omega (arith, m, l))
    (λ m other. omega (arith, m, l, one_of_many inner some other))

pub nodes_bound : (cs : List Product) (s : Summands) → IsSum cs s → Distinct cs → nodes s + two_at_most s ≤ 2 * length cs
nodes_bound cs s (flat _ none) distinct =
    omega (arith, nodes-plain (kept cs) (list_any is_empty cs), width-plain (kept cs) (list_any is_empty cs), ap flag (constant-plain (kept cs) (list_any is_empty cs)), kept_and_flag cs)
nodes_bound cs s (taken _ t inner rest most hold other) distinct =
    let two : 2 ≤ length (holding t cs) = omega (arith, length-holding t cs, most.twice) in
    let h = joined_nodes t inner rest (length (holding t cs)) (length (others t cs))
    (has_summand (holding t cs) inner hold (Distinct-holding t cs distinct) two)
    (nodes_bound (holding t cs) inner hold (Distinct-holding t cs distinct))
    (nodes_bound (others t cs) rest other (Distinct-filter (λ c. not (stands t c)) cs distinct)) in
    omega (arith, h, length_parts t cs)

-- ---- How the making of sums goes on: the lists of the parts have fewer literals, and cubes over the same inputs.

-- ---- the number of literals of inputs below n that stand in some cube

abbrev pub standing : ℕ → List Product → ℕ
standing zero cs = 0
standing (suc n) cs = flag (some_stands (lit n true) cs) + flag (some_stands (lit n false) cs) + standing n cs

flag_le : (a b : Bool) → (a ≡ true → b ≡ true) → flag a ≤ flag b
flag_le true b h = omega (arith, ap flag (h refl))
flag_le false b h = omega arith

standing_le : (n : ℕ) (ds cs : List Product) → ((u : Literal) → some_stands u ds ≡ true → some_stands u cs ≡ true) → standing n ds ≤ standing n cs
standing_le zero ds cs h = omega arith
standing_le (suc n) ds cs h = omega (arith, flag_le _ _ (h (lit n true)), flag_le _ _ (h (lit n false)), standing_le n ds cs h)

standing_lt : (n : ℕ) (t : Literal) (ds cs : List Product) → t.input < n → ((u : Literal) → some_stands u ds ≡ true → some_stands u cs ≡ true) → some_stands t cs ≡ true → some_stands t ds ≡ false → standing n ds < standing n cs
standing_lt zero t ds cs l h there gone = absurd (omega (arith, l))
standing_lt (suc n) t ds cs l h there gone = elim (cases_eq t.input n) [
  | inl e ↦ by e t.plain refl
  | inr other ↦ omega (arith, flag_le _ _ (h (lit n true)), flag_le _ _ (h (lit n false)), standing_lt n t ds cs (omega (arith, l, other)) h there gone)
]
  where
    same : (b : Bool) → t.input ≡ n → t.plain ≡ b → t ≡ lit n b
    same b e f = rw (e, f) refl

    by : t.input ≡ n → (b : Bool) → t.plain ≡ b → standing (suc n) ds < standing (suc n) cs
    by e true f = omega (arith, ap (λ u. flag (some_stands u cs)) (sym (same true e f)), ap flag there, ap (λ u. flag (some_stands u ds)) (sym (same true e f)), ap flag gone, flag_le _ _ (h (lit n false)), standing_le n ds cs h)
    by e false f = omega (arith, ap (λ u. flag (some_stands u cs)) (sym (same false e f)), ap flag there, ap (λ u. flag (some_stands u ds)) (sym (same false e f)), ap flag gone, flag_le _ _ (h (lit n true)), standing_le n ds cs h)

pub fewer_held : (n : ℕ) (t : Literal) (cs : List Product) → t.input < n → some_stands t cs ≡ true → standing n (holding t cs) < standing n cs
fewer_held n t cs l there = standing_lt n t (holding t cs) cs l (λ u m. held_stands u t cs m) there (not_held t cs)

pub fewer_others : (n : ℕ) (t : Literal) (cs : List Product) → t.input < n → some_stands t cs ≡ true → standing n (others t cs) < standing n cs
fewer_others n t cs l there = standing_lt n t (others t cs) cs l (λ u m. other_stands u t cs m) there (not_in_others t cs)

-- ---- the inputs stay

over_without : (n : ℕ) (t : Literal) (c : Product) → IsOver n c → IsOver n (without_literal t c)
over_without n t c (product, pos, neg) = (
  λ j m. false_from_ne_true _ (λ k. false≢true (sym (product j (stands_less (lit j true) t c m)) ∙ stands_less (lit j false) t c k)),
  has-inside (without_literal t c).pos (first n) (λ j m. inside-has c.pos (first n) pos j (stands_less (lit j true) t c m)),
  has-inside (without_literal t c).neg (first n) (λ j m. inside-has c.neg (first n) neg j (stands_less (lit j false) t c m)),
)

pub over_held : (n : ℕ) (t : Literal) (cs : List Product) → All (IsOver n) cs → All (IsOver n) (holding t cs)
over_held n t cs h = All-from_recursion (IsOver n) (holding t cs) (each_held (IsOver n) (IsOver n) t (λ c e over. over_without n t c over) cs (recursion_from_All (IsOver n) cs h))

pub over_others : (n : ℕ) (t : Literal) (cs : List Product) → All (IsOver n) cs → All (IsOver n) (others t cs)
over_others n t cs h = All-from_recursion (IsOver n) (others t cs) (each-filter (IsOver n) (λ c. not (stands t c)) cs (recursion_from_All (IsOver n) cs h))

-- ---- the cubes that hold a literal are left without any of its input

-- no literal of the input
abbrev pub Avoids : ℕ → Product → Type 0
Avoids j c = (u : Literal) → stands u c ≡ true → u.input ≢ j

avoids_held : (t : Literal) (c : Product) → IsProduct c → stands t c ≡ true → Avoids t.input (without_literal t c)
avoids_held t c product there u m same =
    let both = and_parts (not (is_same u t)) (stands u c) (sym (stands-without u t c) ∙ m) in
    by u.plain t.plain (has c.pos t.input) (has c.neg t.input) (rw (eq-eqb u.input t.input same) at both.0) (rw same at both.1) there (product t.input)
  where
    by : (a b p n : Bool) → not (not (differ a b)) ≡ true → cond a p n ≡ true → cond b p n ≡ true → (p ≡ true → n ≡ false) → ⊥
    by a b p n apart one other product = grind arith

pub each_avoids : (t : Literal) (cs : List Product) → AllByRecursion IsProduct cs → AllByRecursion (Avoids t.input) (holding t cs)
each_avoids t cs h = each_held IsProduct (Avoids t.input) t (λ c e product. avoids_held t c product e) cs h

pub none_stands : (j : ℕ) (cs : List Product) → AllByRecursion (Avoids j) cs → (u : Literal) → some_stands u cs ≡ true → u.input ≢ j
none_stands j [] h u m = absurd (false≢true m)
none_stands j (c ∷ cs) (h, hs) u m = elim (or_cases (stands u c) (some_stands u cs) m) [ inl e ↦ h u e | inr e ↦ none_stands j cs hs u e ]

first_free : (j : ℕ) (s : Summands) → EachLiteral (λ u. u.input ≢ j) s → is_free (first_factors s) j ≡ true
first_free j (end b) h = free_from _ j (λ u m. absurd (false≢true (sym (stands-whole u) ∙ m)))
first_free j (literals ls rest) h = free_from ls j h.0
first_free j (factored ls inner rest) h = free_from ls j h.0

pub each_product : (n : ℕ) (cs : List Product) → AllByRecursion (IsOver n) cs → AllByRecursion IsProduct cs
each_product n [] h = tt
each_product n (c ∷ cs) (h, hs) = (h.0, each_product n cs hs)

-- so the literal may join the factors of their sum's first summand
pub free_first : (n : ℕ) (t : Literal) (cs : List Product) (s : Summands) → All (IsOver n) cs → IsSum (holding t cs) s → is_free (first_factors s) t.input ≡ true
free_first n t cs s over sum =
    first_free t.input s (each_literal (holding t cs) s sum (λ u. u.input ≢ t.input) (none_stands t.input (holding t cs) (each_avoids t cs (each_product n cs (recursion_from_All (IsOver n) cs over)))))

-- ---- the cubes as summands

pub cubes_plain : (cs : List Product) (b : Bool) → with_cubes cs (end b) ≡ plain_sum (kept cs) b
cubes_plain [] b = refl
cubes_plain (c ∷ cs) b = elim (cases_Bool (is_empty c)) [
  | inl e ↦ rw e (cubes_plain cs b)
  | inr e ↦ rw e (ap (literals c) (cubes_plain cs b))
]

-- one more cube before those from a place on
pub cubes_more : (cs : List Product) (s : Summands) (i : ℕ) (c : Product) → i < length cs → c ≡ get_or cs i c → with_cube c (with_cubes (drop (suc i) cs) s) ≡ with_cubes (drop i cs) s
cubes_more cs s i c l here = ap (λ d. with_cube d (with_cubes (drop (suc i) cs) s)) here ∙ ap (λ (ds : List Product). with_cubes ds s) (sym (drop-cons cs i c l))

-- ---- The search finds the literal that stands in most cubes.

some_count : (cs : List Product) (best : Option Counted) → IsFound cs best → 0 < best_count best
some_count cs None h = omega arith
some_count cs (Some best) h = omega (arith, h.1)

-- one more literal, all literals before which were seen
best_step : (cs : List Product) (Seen Next : Literal → Type 0) (best : Option Counted) (t : Literal) → IsBest cs Seen best → ((u : Literal) → Precedes u t → Seen u) → ((u : Literal) → Next u → Seen u ⊎ (u ≡ t)) → IsBest cs Next (better cs best t)
best_step cs Seen Next best t h earlier cases = by (ltb (best_count best) (count t cs)) refl
  where
    by : (b : Bool) → ltb (best_count best) (count t cs) ≡ b → IsBest cs Next (cond b (Some (record { literal = t; count = count t cs })) best)
    by true e =
        let more : best_count best < count t cs = ltb-true (best_count best) (count t cs) e in
        record {
          found = (refl, omega (arith, some_count cs best h.found, more), λ u p. omega (arith, h.most u (earlier u p), more));
          most = λ u m. elim (cases u m) [ inl s ↦ omega (arith, h.most u s, more) | inr same ↦ omega (arith, ap (λ v. count v cs) same) ];
        }
    by false e =
        let less : count t cs ≤ best_count best = ltb-false (best_count best) (count t cs) e in
        record {
          found = h.found;
          most = λ u m. elim (cases u m) [ inl s ↦ h.most u s | inr same ↦ omega (arith, ap (λ v. count v cs) same, less) ];
        }

-- both literals of an input
pub best_more : (cs : List Product) (j : ℕ) (best : Option Counted) → IsBest cs (λ u. u.input < j) best → IsBest cs (λ u. u.input < j + 1) (better cs (better cs best (lit j true)) (lit j false))
best_more cs j best h =
    best_step cs Half (λ u. u.input < j + 1) (better cs best (lit j true)) (lit j false)
    (best_step cs (λ u. u.input < j) Half best (lit j true) h (λ u p. elim p [ inl l ↦ l | inr q ↦ absurd (false≢true (sym q.2)) ]) (λ u m. m))
    (λ u p. elim p [ inl l ↦ inl l | inr q ↦ inr (same u q.0 q.1) ])
    (λ u m. elim (cases_lt u.input j) [ inl l ↦ inl (inl l) | inr l ↦ by_sign u (omega (arith, m, l)) (cases_Bool u.plain) ])
  where
    Half : Literal → Type 0
    Half u = (u.input < j) ⊎ (u ≡ lit j true)

    same : (u : Literal) → u.input ≡ j → u.plain ≡ true → u ≡ lit j true
    same u e f = rw (e, f) refl

    by_sign : (u : Literal) → u.input ≡ j → (u.plain ≡ true) ⊎ (u.plain ≡ false) → Half u ⊎ (u ≡ lit j false)
    by_sign u e (inl f) = inl (inr (same u e f))
    by_sign u e (inr f) = inr (rw (e, f) refl)

pub below_step : (cs : List Product) (j : ℕ) (best : Option Counted) (t : Literal) → t.input < j → IfSome best (λ b. b.literal.input < j) → IfSome (better cs best t) (λ b. b.literal.input < j)
below_step cs j best t l h = by (ltb (best_count best) (count t cs))
  where
    by : (b : Bool) → IfSome (cond b (Some (record { literal = t; count = count t cs })) best) (λ b. b.literal.input < j)
    by true = l
    by false = h

pub below_more : (j : ℕ) (best : Option Counted) → IfSome best (λ b. b.literal.input < j) → IfSome best (λ b. b.literal.input < j + 1)
below_more j None h = tt
below_more j (Some b) h = omega (arith, h)

-- ---- all literals

pub over_below : (n : ℕ) (u : Literal) (c : Product) → IsOver n c → stands u c ≡ true → u.input < n
over_below n u c over h = by u.plain h
  where
    by : (b : Bool) → cond b (has c.pos u.input) (has c.neg u.input) ≡ true → u.input < n
    by true m = inside-below n c.pos over.1 u.input m
    by false m = inside-below n c.neg over.2 u.input m

pub stands_below : (n : ℕ) (u : Literal) (cs : List Product) → AllByRecursion (IsOver n) cs → some_stands u cs ≡ true → u.input < n
stands_below n u [] over h = absurd (false≢true h)
stands_below n u (c ∷ cs) (over, more) h = elim (or_cases (stands u c) (some_stands u cs) h) [ inl e ↦ over_below n u c over e | inr e ↦ stands_below n u cs more e ]

no_more : (n : ℕ) (cs : List Product) → All (IsOver n) cs → (best : Option Counted) → IsBest cs (λ u. u.input < n) best → (u : Literal) → count u cs ≤ best_count best
no_more n cs over best h u = elim (cases_lt u.input n) [
  | inl l ↦ h.most u l
  | inr l ↦ elim (cases_lt 0 (count u cs)) [
    | inl some ↦ absurd (omega (arith, l, stands_below n u cs (recursion_from_All _ cs over) (counted_stands u cs some)))
    | inr none ↦ omega (arith, none)
  ]
]

pub picked_none : (n : ℕ) (cs : List Product) → All (IsOver n) cs → IsBest cs (λ u. u.input < n) None → NoneTwice cs
picked_none n cs over h = no_more n cs over None h

pub picked_some : (n : ℕ) (cs : List Product) → All (IsOver n) cs → (best : Counted) → IsBest cs (λ u. u.input < n) (Some best) → IsMost cs best.literal
picked_some n cs over best h = record {
  twice = omega (arith, h.found.0, h.found.1);
  most = λ u. omega (arith, no_more n cs over (Some best) h u, h.found.0);
  first = λ u p. omega (arith, h.found.2 u p, h.found.0);
}

-- ---- The sum of a list of cubes has the value of the list.

-- the EXOR of the cubes, one after the other
abbrev pub cubes_value : List Product → Set → Bool
cubes_value [] x = false
cubes_value (c ∷ cs) x = differ (holds c x) (cubes_value cs x)

-- ---- a literal before an inner sum

and_assoc : (a b c : Bool) → ((a && b) && c) ≡ (a && (b && c))
and_assoc true b c = refl
and_assoc false b c = refl

joined_value : (t : Literal) (inner rest : Summands) (x : Set) → sum_value (joined t inner rest) x ≡ differ (literal_value t x && sum_value inner x) (sum_value rest x)
joined_value t inner rest x =
    joined_by (λ s. sum_value s x ≡ sum_value inner x) (λ s. sum_value s x ≡ differ (literal_value t x && sum_value inner x) (sum_value rest x)) t inner rest refl
    (λ ls k. ap (λ b. differ b (sum_value rest x)) (holds-with t ls x ∙ ap (λ b. literal_value t x && b) (sym (differ-false (holds ls x)) ∙ k)))
    (λ ls deeper k. ap (λ b. differ b (sum_value rest x)) (ap (λ b. b && sum_value deeper x) (holds-with t ls x) ∙ and_assoc (literal_value t x) (holds ls x) (sum_value deeper x) ∙ ap (λ b. literal_value t x && b) (sym (differ-false (holds ls x && sum_value deeper x)) ∙ k)))
    (λ k no. ap (λ b. differ (b && sum_value inner x) (sum_value rest x)) (holds-with t whole x ∙ ap (λ b. literal_value t x && b) (holds-whole x) ∙ and-true (literal_value t x)))

-- the cubes that hold the literal, and the others
parts_value : (t : Literal) (cs : List Product) (x : Set) → cubes_value cs x ≡ differ (literal_value t x && cubes_value (holding t cs) x) (cubes_value (others t cs) x)
parts_value t [] x = sym (ap (λ b. differ b false) (and-false (literal_value t x)))
parts_value t (c ∷ cs) x = elim (cases_Bool (stands t c)) [
  | inl e ↦ rw e (ap₂ differ (holds-without t c x e) (parts_value t cs x)
      ∙ sym (differ-assoc (literal_value t x && holds (without_literal t c) x) (literal_value t x && cubes_value (holding t cs) x) (cubes_value (others t cs) x))
      ∙ ap (λ b. differ b (cubes_value (others t cs) x)) (sym (and-over_differ (literal_value t x) (holds (without_literal t c) x) (cubes_value (holding t cs) x))))
  | inr e ↦ rw e (ap (differ (holds c x)) (parts_value t cs x) ∙ differ-front (holds c x) (literal_value t x && cubes_value (holding t cs) x) (cubes_value (others t cs) x))
]

-- ---- cubes as summands

plain_value : (ds : List Product) (b : Bool) (x : Set) → sum_value (plain_sum ds b) x ≡ differ (cubes_value ds x) b
plain_value [] b x = refl
plain_value (d ∷ ds) b x = ap (differ (holds d x)) (plain_value ds b x) ∙ sym (differ-assoc (holds d x) (cubes_value ds x) b)

-- no cube after an empty one is empty
no_other_empty : (c : Product) (cs : List Product) → is_empty c ≡ true → AllByRecursion (λ d. c ≢ d) cs → list_any is_empty cs ≡ false
no_other_empty c [] e h = refl
no_other_empty c (d ∷ ds) e (h, hs) = elim (cases_Bool (is_empty d)) [
  | inl k ↦ absurd (h (empty_whole c e ∙ sym (empty_whole d k)))
  | inr k ↦ ap (λ b. b || list_any is_empty ds) k ∙ no_other_empty c ds e hs
]

flat_value : (cs : List Product) (x : Set) → Distinct cs → cubes_value cs x ≡ differ (cubes_value (kept cs) x) (list_any is_empty cs)
flat_value [] x d = refl
flat_value (c ∷ cs) x (h, d) = elim (cases_Bool (is_empty c)) [
  | inl e ↦ rw e (ap₂ differ (ap (λ p. holds p x) (empty_whole c e) ∙ holds-whole x) (flat_value cs x d ∙ ap (differ (cubes_value (kept cs) x)) (no_other_empty c cs e h)) ∙ turned (cubes_value (kept cs) x))
  | inr e ↦ rw e (ap (differ (holds c x)) (flat_value cs x d) ∙ sym (differ-assoc (holds c x) (cubes_value (kept cs) x) (list_any is_empty cs)))
]
  where
    turned : (a : Bool) → not (differ a false) ≡ differ a true
    turned true = refl
    turned false = refl

pub sum_means : (cs : List Product) (s : Summands) → IsSum cs s → Distinct cs → (x : Set) → sum_value s x ≡ cubes_value cs x
sum_means cs s (flat _ none) distinct x = plain_value (kept cs) (list_any is_empty cs) x ∙ sym (flat_value cs x distinct)
sum_means cs s (taken _ t inner rest most hold other) distinct x =
    joined_value t inner rest x
    ∙ ap₂ (λ a b. differ (literal_value t x && a) b) (sum_means (holding t cs) inner hold (Distinct-holding t cs distinct) x) (sum_means (others t cs) rest other (Distinct-filter (λ c. not (stands t c)) cs distinct) x)
    ∙ sym (parts_value t cs x)

-- ---- by a count

pub value-esop : (cs : List Product) (x : Set) → cubes_value cs x ≡ esop_value cs x
unfolding esop_value
value-esop [] x = refl
value-esop (c ∷ cs) x = ap (differ (holds c x)) (value-esop cs x) ∙ by (holds c x) ∙ ap (λ n. eqb (n % 2) 1) (sym (sum_by-cons (λ d. cond (holds d x) 1 0) c cs))
  where
    by : (b : Bool) → differ b (eqb (count_by (λ d. holds d x) cs % 2) 1) ≡ eqb ((cond b 1 0 + count_by (λ d. holds d x) cs) % 2) 1
    by true = sym (odd-suc (count_by (λ d. holds d x) cs))
    by false = let z : 0 + count_by (λ d. holds d x) cs ≡ count_by (λ d. holds d x) cs = omega arith in rw z refl

-- ---- There is one sum of a list of cubes.

-- of two literals the one is the other, or comes before or after it
either_way : (t u : Literal) → (t ≡ u) ⊎ (Precedes t u ⊎ Precedes u t)
either_way t u = elim (cases_lt t.input u.input) [
  | inl l ↦ inr (inl (inl l))
  | inr l ↦ elim (cases_lt u.input t.input) [
    | inl k ↦ inr (inr (inl k))
    | inr k ↦ by t.plain u.plain refl refl (omega (arith, l, k))
  ]
]
  where
    by : (a b : Bool) → t.plain ≡ a → u.plain ≡ b → t.input ≡ u.input → (t ≡ u) ⊎ (Precedes t u ⊎ Precedes u t)
    by true true p q e = inl (ap₂ lit e (p ∙ sym q))
    by true false p q e = inr (inl (inr (e, p, q)))
    by false true p q e = inr (inr (inr (sym e, q, p)))
    by false false p q e = inl (ap₂ lit e (p ∙ sym q))

one_most : (cs : List Product) (t u : Literal) → IsMost cs t → IsMost cs u → t ≡ u
one_most cs t u a b = elim (either_way t u) [
  | inl e ↦ e
  | inr o ↦ elim o [
    | inl p ↦ absurd (omega (arith, b.first t p, a.most u))
    | inr p ↦ absurd (omega (arith, a.first u p, b.most t))
  ]
]

never_both : (cs : List Product) (t : Literal) → NoneTwice cs → IsMost cs t → ⊥
never_both cs t none most = omega (arith, none t, most.twice)

pub one_sum : (cs : List Product) (s r : Summands) → IsSum cs s → IsSum cs r → s ≡ r
one_sum cs s r (flat _ none) (flat _ also) = refl
one_sum cs s r (flat _ none) (taken _ u inner rest most hold other) = absurd (never_both cs u none most)
one_sum cs s r (taken _ t inner rest most hold other) (flat _ none) = absurd (never_both cs t none most)
one_sum cs s r (taken _ t inner rest most hold other) (taken _ u deeper more also held others_sum) =
    same (one_most cs u t also most)
    (one_sum (holding t cs) inner deeper hold (subst (λ v. IsSum (holding v cs) deeper) (one_most cs u t also most) held))
    (one_sum (others t cs) rest more other (subst (λ v. IsSum (others v cs) more) (one_most cs u t also most) others_sum))
  where
    same : u ≡ t → inner ≡ deeper → rest ≡ more → joined t inner rest ≡ joined u deeper more
    same e f g = rw (e, f, g) refl

-- Literals of products: with one more, without one, and where a product holds.
use Rattle.std.proofs.Common.{◌≡◌, ◌≢◌, ℕ, Bool, true, false, not, ◌&&◌, ◌||◌, ◌⊎◌, cond, inl, inr, refl, sym, ap, ap₂, ◌∙◌, eqb, eqb-true, eq-eqb, suc, ◌+◌, ◌<◌, ◌≤◌, List, [], ◌∷◌, length, subst, arith}
use Rattle.std.proofs.Math.Bool.{and-true, and-false}
use Rattle.std.proofs.lemmas.Bool.{cases_Bool, false≢true, and_parts, and_from, or_cases, or_left, or_right, not-true, false_from_ne_true}
use Rattle.ae_base.specs.Mask.{Set, differ, has, empty}
use Rattle.ae_base.specs.Cube.{Product, holds, whole, is_free, IsProduct}
use Rattle.ae_base.proofs.Products.{holds-has, has-holds}
use Rattle.ae_base.proofs.Sets.{same_set, has-empty, has-with, has-without}
use Rattle.ae_base.proofs.Truth.{same_truth, equal_values, not_both}
use Rattle.factor.specs.declared.literals.Literal.{Literal}
use Rattle.factor.specs.Literals.{stands, is_empty, with_literal, without_literal, count, holding, others, IsMost, NoneTwice}
use Rattle.std.specs.List.{list_any, AllByRecursion}
use Rattle.std.proofs.lemmas.List.Sums.{sum_by-cons, length-filter}
use Rattle.ae_base.proofs.Distinct.{Distinct, each-map, each_always}
use Rattle.factor.specs.Sums.{Summands, is_nothing, is_one, joined, IsSum, IsApart, FactorsDiffer, has_constant, plain_sum, flat_sum}
use Rattle.factor.specs.Sums.Summands.{end, literals, factored}
use Rattle.std.specs.Prelude.{filter}
use Rattle.factor.specs.Seen.{EachLiteral}
use Rattle.factor.specs.Sums.IsSum.{flat, taken}
use Rattle.ae_base.specs.Cube as cube
use Rattle.std.proofs.lemmas.List.{length-map}
use Rattle.std.proofs.lemmas.List.Filters.{length-filter_both}
use Rattle.std.proofs.lemmas.Map.Views.{any-filter_same}
use Rattle.std.proofs.lemmas.List.Folds.{list_any_none}
use Rattle.std.proofs.lemmas.List.Elements.{All-from_recursion}

abbrev pub lit : ℕ → Bool → Literal
lit j b = record { input = j; plain = b }

-- ---- the same literal

abbrev pub is_same : Literal → Literal → Bool
is_same u t = eqb u.input t.input && not (differ u.plain t.plain)

pub same_is : (u t : Literal) → is_same u t ≡ true → u ≡ t
same_is u t h =
    let parts = and_parts (eqb u.input t.input) _ h in
    ap₂ lit (eqb-true u.input t.input parts.0) (equal_values u.plain t.plain (not-true _ parts.1))

itself : (b : Bool) → not (differ b b) ≡ true
itself true = refl
itself false = refl

pub same_itself : (t : Literal) → is_same t t ≡ true
same_itself t = and_from _ _ (eq-eqb t.input t.input refl) (itself t.plain)

pub cases_same : (u t : Literal) → (u ≡ t) ⊎ (is_same u t ≡ false)
cases_same u t = elim (cases_Bool (is_same u t)) [ inl e ↦ inl (same_is u t e) | inr e ↦ inr e ]

-- ---- one literal more or less

stands_with : (a b : Bool) (j k : ℕ) (c : Product) → stands (lit k b) (cube.with c j a) ≡ (is_same (lit k b) (lit j a) || stands (lit k b) c)
stands_with true true j k c = has-with c.pos j k ∙ ap (λ v. v || has c.pos k) (sym (and-true (eqb k j)))
stands_with true false j k c = ap (λ v. v || has c.neg k) (sym (and-false (eqb k j)))
stands_with false true j k c = ap (λ v. v || has c.pos k) (sym (and-false (eqb k j)))
stands_with false false j k c = has-with c.neg j k ∙ ap (λ v. v || has c.neg k) (sym (and-true (eqb k j)))

pub stands-with : (u t : Literal) (c : Product) → stands u (with_literal t c) ≡ (is_same u t || stands u c)
stands-with u t c = stands_with t.plain u.plain t.input u.input c

stands_without : (a b : Bool) (j k : ℕ) (c : Product) → stands (lit k b) (without_literal (lit j a) c) ≡ (not (is_same (lit k b) (lit j a)) && stands (lit k b) c)
stands_without true true j k c = has-without c.pos j k ∙ ap (λ v. not v && has c.pos k) (sym (and-true (eqb k j)))
stands_without true false j k c = ap (λ v. not v && has c.neg k) (sym (and-false (eqb k j)))
stands_without false true j k c = ap (λ v. not v && has c.pos k) (sym (and-false (eqb k j)))
stands_without false false j k c = has-without c.neg j k ∙ ap (λ v. not v && has c.neg k) (sym (and-true (eqb k j)))

pub stands-without : (u t : Literal) (c : Product) → stands u (without_literal t c) ≡ (not (is_same u t) && stands u c)
stands-without u t c = stands_without t.plain u.plain t.input u.input c

pub stands_less : (u t : Literal) (c : Product) → stands u (without_literal t c) ≡ true → stands u c ≡ true
stands_less u t c h = (and_parts _ _ (sym (stands-without u t c) ∙ h)).1

pub itself_goes : (t : Literal) (c : Product) → stands t (without_literal t c) ≡ false
itself_goes t c = stands-without t t c ∙ ap (λ v. not v && stands t c) (same_itself t)

pub stands-whole : (u : Literal) → stands u whole ≡ false
unfolding whole
stands-whole u = by u.plain
  where
    by : (b : Bool) → cond b (has empty u.input) (has empty u.input) ≡ false
    by true = has-empty u.input
    by false = has-empty u.input

pub stands-one : (u t : Literal) → stands u (with_literal t whole) ≡ true → u ≡ t
stands-one u t h = elim (or_cases _ _ (sym (stands-with u t whole) ∙ h)) [ inl e ↦ same_is u t e | inr e ↦ absurd (false≢true (sym (stands-whole u) ∙ e)) ]

-- products with the same literals are equal
pub same_product : (c d : Product) → ((t : Literal) → stands t c ≡ stands t d) → c ≡ d
same_product c d h = ap₂ (λ (p n : Set). record { pos = p; neg = n }) (same_set c.pos d.pos (λ k. h (lit k true))) (same_set c.neg d.neg (λ k. h (lit k false)))

pub without_injective : (t : Literal) (c d : Product) → stands t c ≡ true → stands t d ≡ true → without_literal t c ≡ without_literal t d → c ≡ d
without_injective t c d hc hd e =
    same_product c d (λ u. elim (cases_same u t) [
      | inl same ↦ ap (λ v. stands v c) same ∙ hc ∙ sym hd ∙ ap (λ v. stands v d) (sym same)
      | inr other ↦ sym (ap (λ v. not v && stands u c) other) ∙ sym (stands-without u t c) ∙ ap (stands u) e ∙ stands-without u t d ∙ ap (λ v. not v && stands u d) other
    ])

pub empty_whole : (c : Product) → is_empty c ≡ true → c ≡ whole
unfolding whole
empty_whole c h = let parts = and_parts (eqb c.pos empty) _ h in ap₂ (λ (p n : Set). record { pos = p; neg = n }) (eqb-true c.pos empty parts.0) (eqb-true c.neg empty parts.1)

-- ---- where products hold

-- the value of a literal at a point
abbrev pub literal_value : Literal → Set → Bool
literal_value t x = cond t.plain (has x t.input) (not (has x t.input))

pub literal_holds : (c : Product) (x : Set) (t : Literal) → holds c x ≡ true → stands t c ≡ true → literal_value t x ≡ true
literal_holds c x t h there = by t.plain there
  where
    by : (b : Bool) → cond b (has c.pos t.input) (has c.neg t.input) ≡ true → cond b (has x t.input) (not (has x t.input)) ≡ true
    by true m = (holds-has c x h).0 t.input m
    by false m = ap not ((holds-has c x h).1 t.input m)

pub holds_literals : (c : Product) (x : Set) → ((t : Literal) → stands t c ≡ true → literal_value t x ≡ true) → holds c x ≡ true
holds_literals c x h = has-holds c x (λ j m. h (lit j true) m, λ j m. not-true (has x j) (h (lit j false) m))

pub holds-whole : (x : Set) → holds whole x ≡ true
holds-whole x = holds_literals whole x (λ t h. absurd (false≢true (sym (stands-whole t) ∙ h)))

pub holds-with : (t : Literal) (c : Product) (x : Set) → holds (with_literal t c) x ≡ (literal_value t x && holds c x)
holds-with t c x =
    same_truth _ _
    (λ h. and_from _ _ (literal_holds (with_literal t c) x t h (stands-with t t c ∙ or_left _ _ (same_itself t)))
    (holds_literals c x (λ u m. literal_holds (with_literal t c) x u h (stands-with u t c ∙ or_right _ _ m))))
    (λ h. let both = and_parts _ _ h in holds_literals (with_literal t c) x (λ u m.
    elim (or_cases _ _ (sym (stands-with u t c) ∙ m)) [ inl e ↦ ap (λ v. literal_value v x) (same_is u t e) ∙ both.0 | inr e ↦ literal_holds c x u both.1 e ]))

pub holds-without : (t : Literal) (c : Product) (x : Set) → stands t c ≡ true → holds c x ≡ (literal_value t x && holds (without_literal t c) x)
holds-without t c x there =
    ap (λ d. holds d x) (same_product c (with_literal t (without_literal t c)) (λ u. sym (back u)))
    ∙ holds-with t (without_literal t c) x
  where
    back : (u : Literal) → stands u (with_literal t (without_literal t c)) ≡ stands u c
    back u = stands-with u t (without_literal t c) ∙ ap (λ v. is_same u t || v) (stands-without u t c) ∙ elim (cases_same u t) [
      | inl e ↦ ap (λ v. is_same v t || (not (is_same v t) && stands v c)) e ∙ ap (λ v. v || (not v && stands t c)) (same_itself t) ∙ sym there ∙ ap (λ v. stands v c) (sym e)
      | inr other ↦ ap (λ v. v || (not v && stands u c)) other
    ]

-- ---- products stay products

-- the input of the literal has no literal in a product without literals of it
pub free_from : (c : Product) (j : ℕ) → ((t : Literal) → stands t c ≡ true → t.input ≢ j) → is_free c j ≡ true
free_from c j h = ap₂ (λ p n. not p && not n) (false_from_ne_true (has c.pos j) (λ e. h (lit j true) e refl)) (false_from_ne_true (has c.neg j) (λ e. h (lit j false) e refl))

-- ---- How many cubes of a list a literal stands in.

pub count-cons : (t : Literal) (c : Product) (cs : List Product) → count t (c ∷ cs) ≡ cond (stands t c) 1 0 + count t cs
count-cons t c cs = sum_by-cons (λ d. cond (stands t d) 1 0) c cs

pub count_yes : (t : Literal) (c : Product) (cs : List Product) → stands t c ≡ true → count t (c ∷ cs) ≡ suc (count t cs)
count_yes t c cs h = count-cons t c cs ∙ ap (λ b. cond b 1 0 + count t cs) h ∙ omega arith

pub count_no : (t : Literal) (c : Product) (cs : List Product) → stands t c ≡ false → count t (c ∷ cs) ≡ count t cs
count_no t c cs h = count-cons t c cs ∙ ap (λ b. cond b 1 0 + count t cs) h ∙ omega arith

-- it stands in some cube where it is counted
pub counted_stands : (t : Literal) (cs : List Product) → 0 < count t cs → list_any (stands t) cs ≡ true
counted_stands t [] l = absurd (omega (arith, l))
counted_stands t (c ∷ cs) l = elim (cases_Bool (stands t c)) [ inl e ↦ or_left _ _ e | inr e ↦ or_right _ _ (counted_stands t cs (omega (arith, l, count_no t c cs e))) ]

pub stands_counted : (t : Literal) (cs : List Product) → list_any (stands t) cs ≡ true → 0 < count t cs
stands_counted t [] h = absurd (false≢true h)
stands_counted t (c ∷ cs) h = elim (cases_Bool (stands t c)) [ inl e ↦ omega (arith, count_yes t c cs e) | inr e ↦ omega (arith, count_no t c cs e, stands_counted t cs (rw e at h)) ]

-- ---- the cubes that hold a literal, and the others

pub length-holding : (t : Literal) (cs : List Product) → length (holding t cs) ≡ count t cs
length-holding t cs = length-map (filter (stands t) cs) (without_literal t) ∙ length-filter (stands t) cs

pub length_parts : (t : Literal) (cs : List Product) → length (holding t cs) + length (others t cs) ≡ length cs
length_parts t cs = omega (arith, length-map (filter (stands t) cs) (without_literal t), length-filter_both (stands t) (λ c. not (stands t c)) (λ c. refl) cs)

-- a literal of all cubes that hold t stands in as many of them as t, and may stand in others
pub count_more : (u t : Literal) (cs : List Product) → AllByRecursion (λ c. stands u c ≡ true) (holding t cs) → count t cs + count u (others t cs) ≤ count u cs
count_more u t [] h = omega arith
count_more u t (c ∷ cs) h = elim (cases_Bool (stands t c)) [
  | inl e ↦ let k = rw e at h in let z : others t (c ∷ cs) ≡ others t cs = rw e refl in omega (arith, count_yes t c cs e, count_yes u c cs (stands_less u t c k.0), ap (count u) z, count_more u t cs k.1)
  | inr e ↦ rw e (omega (arith, count_no t c cs e, count-cons u c cs, count-cons u c (others t cs), count_more u t cs (rw e at h)))
]

-- what is left of a cube that holds the literal
pub each_held : (P Q : Product → Type 0) (t : Literal) → ((c : Product) → stands t c ≡ true → P c → Q (without_literal t c)) → (cs : List Product) → AllByRecursion P cs → AllByRecursion Q (holding t cs)
each_held P Q t f [] h = tt
each_held P Q t f (c ∷ cs) (h, hs) = elim (cases_Bool (stands t c)) [ inl e ↦ rw e (f c e h, each_held P Q t f cs hs) | inr e ↦ rw e (each_held P Q t f cs hs) ]

pub Distinct-holding : (t : Literal) (cs : List Product) → Distinct cs → Distinct (holding t cs)
Distinct-holding t [] d = tt
Distinct-holding t (c ∷ cs) (h, d) = elim (cases_Bool (stands t c)) [
  | inl e ↦ rw e (each_held (λ d. c ≢ d) (λ d. without_literal t c ≢ d) t (λ d k other same. other (without_injective t c d e k same)) cs h, Distinct-holding t cs d)
  | inr e ↦ rw e (Distinct-holding t cs d)
]

-- ---- what stands in the two lists

abbrev pub some_stands : Literal → List Product → Bool
some_stands u cs = list_any (stands u) cs

pub held_stands : (u t : Literal) (cs : List Product) → some_stands u (holding t cs) ≡ true → some_stands u cs ≡ true
held_stands u t [] h = h
held_stands u t (c ∷ cs) h = elim (cases_Bool (stands t c)) [
  | inl e ↦ elim (or_cases _ _ (rw e at h)) [ inl k ↦ or_left _ _ (stands_less u t c k) | inr k ↦ or_right _ _ (held_stands u t cs k) ]
  | inr e ↦ or_right _ _ (held_stands u t cs (rw e at h))
]

pub other_stands : (u t : Literal) (cs : List Product) → some_stands u (others t cs) ≡ true → some_stands u cs ≡ true
other_stands u t [] h = h
other_stands u t (c ∷ cs) h = elim (cases_Bool (stands t c)) [
  | inl e ↦ or_right (stands u c) (some_stands u cs) (other_stands u t cs (rw e at h))
  | inr e ↦ elim (or_cases (stands u c) (some_stands u (others t cs)) (rw e at h)) [ inl k ↦ or_left (stands u c) (some_stands u cs) k | inr k ↦ or_right (stands u c) (some_stands u cs) (other_stands u t cs k) ]
]

-- t stands neither in the others nor in what is left of the cubes that hold it
pub not_in_others : (t : Literal) (cs : List Product) → some_stands t (others t cs) ≡ false
not_in_others t cs = any-filter_same (stands t) (λ c. not (stands t c)) false (λ c e. ap not e) cs

pub not_held : (t : Literal) (cs : List Product) → some_stands t (holding t cs) ≡ false
not_held t cs =
    list_any_none (stands t) (holding t cs) (All-from_recursion (λ c. stands t c ≡ false) (holding t cs) (each-map (λ c. stands t c ≡ false) (without_literal t) (filter (stands t) cs) (each_always (λ c. stands t (without_literal t c) ≡ false) (itself_goes t) (filter (stands t) cs))))

-- where there are no others, each cube holds t
pub all_hold : (t : Literal) (cs : List Product) → others t cs ≡ [] → AllByRecursion (λ c. stands t c ≡ true) cs
all_hold t [] h = tt
all_hold t (c ∷ cs) h = elim (cases_Bool (stands t c)) [ inl e ↦ (e, all_hold t cs (rw e at h)) | inr e ↦ let k : c ∷ others t cs ≡ [] = rw e at h in cc ]

-- and what stands in all that is left of these stands in each cube
pub all_from_held : (u t : Literal) (cs : List Product) → others t cs ≡ [] → AllByRecursion (λ c. stands u c ≡ true) (holding t cs) → AllByRecursion (λ c. stands u c ≡ true) cs
all_from_held u t [] none h = tt
all_from_held u t (c ∷ cs) none h = elim (cases_Bool (stands t c)) [
  | inl e ↦ let k = rw e at h in (stands_less u t c k.0, all_from_held u t cs (rw e at none) k.1)
  | inr e ↦ let k : c ∷ others t cs ≡ [] = rw e at none in cc
]

-- ---- What a literal joined to an inner sum gives, case by case.

pub nothing_is : (s : Summands) → is_nothing s ≡ true → s ≡ end false
nothing_is (end b) h = ap end (not-true b h)
nothing_is (literals ls rest) h = absurd (false≢true h)
nothing_is (factored ls inner rest) h = absurd (false≢true h)

-- One summand without inner sum, one with an inner sum, and any other inner sum. R is what is known of the inner sum.
pub joined_by : (R Q : Summands → Type 0) (t : Literal) (inner rest : Summands) → R inner
    → ((ls : Product) → R (literals ls (end false)) → Q (literals (with_literal t ls) rest))
    → ((ls : Product) (deeper : Summands) → R (factored ls deeper (end false)) → Q (factored (with_literal t ls) deeper rest))
    → (R inner → is_one inner ≡ false → Q (factored (with_literal t whole) inner rest))
    → Q (joined t inner rest)
joined_by R Q t (end b) rest h one with_inner other = other h refl
joined_by R Q t (literals ls r) rest h one with_inner other = elim (cases_Bool (is_nothing r)) [
  | inl e ↦ rw e (one ls (let z : r ≡ end false = nothing_is r e in rw z at h))
  | inr e ↦ rw e (other h e)
]
joined_by R Q t (factored ls deeper r) rest h one with_inner other = elim (cases_Bool (is_nothing r)) [
  | inl e ↦ rw e (with_inner ls deeper (let z : r ≡ end false = nothing_is r e in rw z at h))
  | inr e ↦ rw e (other h e)
]

-- ---- Facts on the sums of lists of cubes, each by induction on how the sum was made.

-- ---- each literal of a sum stands in some cube

with_each : (P : Literal → Type 0) (t : Literal) (c : Product) → P t → ((u : Literal) → stands u c ≡ true → P u) → (u : Literal) → stands u (with_literal t c) ≡ true → P u
with_each P t c p h u m = elim (or_cases _ _ (sym (stands-with u t c) ∙ m)) [ inl e ↦ subst P (sym (same_is u t e)) p | inr e ↦ h u e ]

joined_each : (P : Literal → Type 0) (t : Literal) (inner rest : Summands) → P t → EachLiteral P inner → EachLiteral P rest → EachLiteral P (joined t inner rest)
joined_each P t inner rest p h r =
    joined_by (EachLiteral P) (EachLiteral P) t inner rest h
    (λ ls k. (with_each P t ls p k.0, r))
    (λ ls deeper k. (with_each P t ls p k.0, k.1, r))
    (λ k other. ((λ u m. subst P (sym (stands-one u t m)) p), k, r))

plain_each : (P : Literal → Type 0) (cs : List Product) (b : Bool) → AllByRecursion (λ c. (t : Literal) → stands t c ≡ true → P t) cs → EachLiteral P (plain_sum cs b)
plain_each P [] b h = tt
plain_each P (c ∷ cs) b (h, hs) = (h, plain_each P cs b hs)

kept_each : (P : Literal → Type 0) (cs : List Product) → ((t : Literal) → some_stands t cs ≡ true → P t) → AllByRecursion (λ c. (t : Literal) → stands t c ≡ true → P t) (filter (λ c. not (is_empty c)) cs)
kept_each P [] h = tt
kept_each P (c ∷ cs) h = elim (cases_Bool (is_empty c)) [
  | inl e ↦ rw e (kept_each P cs (λ t m. h t (or_right (stands t c) (some_stands t cs) m)))
  | inr e ↦ rw e ((λ t m. h t (or_left (stands t c) (some_stands t cs) m)), kept_each P cs (λ t m. h t (or_right (stands t c) (some_stands t cs) m)))
]

most_stands : (cs : List Product) (t : Literal) → IsMost cs t → some_stands t cs ≡ true
most_stands cs t most = counted_stands t cs (omega (arith, most.twice))

pub each_literal : (cs : List Product) (s : Summands) → IsSum cs s → (P : Literal → Type 0) → ((t : Literal) → some_stands t cs ≡ true → P t) → EachLiteral P s
each_literal cs s (flat _ none) P h = plain_each P _ _ (kept_each P cs h)
each_literal cs s (taken _ t inner rest most hold other) P h =
    joined_each P t inner rest (h t (most_stands cs t most))
    (each_literal (holding t cs) inner hold P (λ u m. h u (held_stands u t cs m)))
    (each_literal (others t cs) rest other P (λ u m. h u (other_stands u t cs m)))

-- ---- a sum without summand and constant is that of no cube

joined_some : (t : Literal) (inner rest : Summands) → joined t inner rest ≡ end false → ⊥
joined_some t inner rest = joined_by (λ s. Unit {0}) (λ s. s ≡ end false → ⊥) t inner rest tt (λ ls h e. cc) (λ ls deeper h e. cc) (λ h other e. cc)

pub constant-plain : (ds : List Product) (b : Bool) → has_constant (plain_sum ds b) ≡ b
constant-plain [] b = refl
constant-plain (d ∷ ds) b = constant-plain ds b

-- the cubes that are not empty
abbrev pub kept : List Product → List Product
kept cs = filter (λ c. not (is_empty c)) cs

plain_none : (ds : List Product) (b : Bool) → plain_sum ds b ≡ end false → ds ≡ []
plain_none [] b e = refl
plain_none (d ∷ ds) b e = cc

pub kept_all : (cs : List Product) → list_any is_empty cs ≡ false → kept cs ≡ cs
kept_all [] h = refl
kept_all (c ∷ cs) h = elim (cases_Bool (is_empty c)) [
  | inl e ↦ absurd (false≢true (sym h ∙ or_left (is_empty c) (list_any is_empty cs) e))
  | inr e ↦ rw e (ap (λ ds. c ∷ ds) (kept_all cs (rw e at h)))
]

flat_none : (cs : List Product) → flat_sum cs ≡ end false → cs ≡ []
flat_none cs e = sym (kept_all cs (sym (constant-plain (kept cs) (list_any is_empty cs)) ∙ ap has_constant e)) ∙ plain_none (kept cs) (list_any is_empty cs) e

pub nothing_of : (cs : List Product) (s : Summands) → IsSum cs s → s ≡ end false → cs ≡ []
nothing_of cs s (flat _ none) e = flat_none cs e
nothing_of cs s (taken _ t inner rest most hold other) e = absurd (joined_some t inner rest e)

-- ---- of one summand without constant each direct factor stands in each cube

-- it holds of each direct factor of the first summand
abbrev pub EachOfFirst : (Literal → Type 0) → Summands → Type 0
EachOfFirst P (end b) = Unit {0}
EachOfFirst P (literals ls rest) = (t : Literal) → stands t ls ≡ true → P t
EachOfFirst P (factored ls inner rest) = (t : Literal) → stands t ls ≡ true → P t

-- the literal stands in each cube
abbrev pub InAll : List Product → Literal → Type 0
InAll cs t = AllByRecursion (λ c. stands t c ≡ true) cs

plain_one : (ds : List Product) (b : Bool) → is_one (plain_sum ds b) ≡ true → (b ≡ false) × EachOfFirst (InAll ds) (plain_sum ds b)
plain_one [] b h = absurd (false≢true h)
plain_one (d ∷ []) b h = (ap has_constant (nothing_is (end b) h), λ t m. (m, tt))
plain_one (d ∷ e ∷ ds) b h = absurd (false≢true h)

first_in_all : (cs : List Product) (t : Literal) (inner rest : Summands) → IsSum (others t cs) rest → (is_one inner ≡ true → EachOfFirst (InAll (holding t cs)) inner) → is_one (joined t inner rest) ≡ true → EachOfFirst (InAll cs) (joined t inner rest)
first_in_all cs t inner rest other h =
    joined_by (λ s. is_one s ≡ true → EachOfFirst (InAll (holding t cs)) s) (λ s. is_one s ≡ true → EachOfFirst (InAll cs) s) t inner rest h
    (λ ls k one. with_each (InAll cs) t ls (all_hold t cs (none one)) (λ u m. all_from_held u t cs (none one) (k refl u m)))
    (λ ls deeper k one. with_each (InAll cs) t ls (all_hold t cs (none one)) (λ u m. all_from_held u t cs (none one) (k refl u m)))
    (λ k no one u m. subst (InAll cs) (sym (stands-one u t m)) (all_hold t cs (none one)))
  where
    none : is_nothing rest ≡ true → others t cs ≡ []
    none one = nothing_of (others t cs) rest other (nothing_is rest one)

pub in_all : (cs : List Product) (s : Summands) → IsSum cs s → is_one s ≡ true → EachOfFirst (InAll cs) s
in_all cs s (flat _ none) one =
    let k = plain_one (kept cs) (list_any is_empty cs) one in
    subst (λ (ds : List Product). EachOfFirst (InAll ds) (flat_sum cs)) (kept_all cs k.0) k.1
in_all cs s (taken _ t inner rest most hold other) one = first_in_all cs t inner rest other (in_all (holding t cs) inner hold) one

-- ---- no literal is a direct factor of two summands

apart_from : (c : Product) (s : Summands) → EachLiteral (λ u. stands u c ≡ false) s → IsApart c s
apart_from c (end b) h = tt
apart_from c (literals ls rest) h = ((λ u m. not_both (stands u ls) (stands u c) (h.0 u) m), apart_from c rest h.1)
apart_from c (factored ls inner rest) h = ((λ u m. not_both (stands u ls) (stands u c) (h.0 u) m), apart_from c rest h.2)

-- factors that each stand in all cubes that hold t are no factors of the others' sum
apart_rest : (cs : List Product) (t : Literal) (c : Product) (rest : Summands) → IsMost cs t → IsSum (others t cs) rest → ((u : Literal) → stands u c ≡ true → (u ≡ t) ⊎ InAll (holding t cs) u) → IsApart c rest
apart_rest cs t c rest most other h =
    apart_from c rest (each_literal (others t cs) rest other (λ u. stands u c ≡ false) (λ u m. false_from_ne_true (stands u c) (λ e. elim (h u e) [
      | inl same ↦ false≢true (sym (not_in_others t cs) ∙ ap (λ v. some_stands v (others t cs)) (sym same) ∙ m)
      | inr all ↦ omega (arith, count_more u t cs all, stands_counted u (others t cs) m, most.most u)
    ])))

with_all : (cs : List Product) (t : Literal) (ls : Product) → ((u : Literal) → stands u ls ≡ true → InAll (holding t cs) u) → (u : Literal) → stands u (with_literal t ls) ≡ true → (u ≡ t) ⊎ InAll (holding t cs) u
with_all cs t ls h u m = elim (or_cases _ _ (sym (stands-with u t ls) ∙ m)) [ inl e ↦ inl (same_is u t e) | inr e ↦ inr (h u e) ]

joined_differ : (cs : List Product) (t : Literal) (inner rest : Summands) → IsMost cs t → IsSum (others t cs) rest → FactorsDiffer inner × (is_one inner ≡ true → EachOfFirst (InAll (holding t cs)) inner) → FactorsDiffer rest → FactorsDiffer (joined t inner rest)
joined_differ cs t inner rest most other h r =
    joined_by (λ s. FactorsDiffer s × (is_one s ≡ true → EachOfFirst (InAll (holding t cs)) s)) FactorsDiffer t inner rest h
    (λ ls k. (apart_rest cs t _ rest most other (with_all cs t ls (k.1 refl)), r))
    (λ ls deeper k. (apart_rest cs t _ rest most other (with_all cs t ls (k.1 refl)), k.0.1, r))
    (λ k no. (apart_rest cs t _ rest most other (λ u m. inl (stands-one u t m)), k.0, r))

kept_count : (u : Literal) (cs : List Product) → count u (kept cs) ≤ count u cs
kept_count u [] = omega arith
kept_count u (c ∷ cs) = elim (cases_Bool (is_empty c)) [
  | inl e ↦ rw e (omega (arith, count-cons u c cs, kept_count u cs))
  | inr e ↦ rw e (omega (arith, count-cons u c (kept cs), count-cons u c cs, kept_count u cs))
]

-- a literal of the first cube stands in no later one
later_apart : (d : Product) (ds : List Product) → NoneTwice (d ∷ ds) → (es : List Product) → ((u : Literal) → some_stands u es ≡ true → some_stands u ds ≡ true) → AllByRecursion (λ e. (u : Literal) → stands u e ≡ true → stands u d ≡ false) es
later_apart d ds none [] h = tt
later_apart d ds none (e ∷ es) h = (
  λ u m. false_from_ne_true (stands u d) (λ k. omega (arith, none u, count_yes u d ds k, stands_counted u ds (h u (or_left _ _ m)))),
  later_apart d ds none es (λ u m. h u (or_right (stands u e) (some_stands u es) m)),
)

plain_differ : (ds : List Product) (b : Bool) → NoneTwice ds → FactorsDiffer (plain_sum ds b)
plain_differ [] b none = tt
plain_differ (d ∷ ds) b none = (
  apart_from d (plain_sum ds b) (plain_each (λ u. stands u d ≡ false) ds b (later_apart d ds none ds (λ u m. m))),
  plain_differ ds b (λ u. omega (arith, none u, count-cons u d ds)),
)

pub factors_differ : (cs : List Product) (s : Summands) → IsSum cs s → FactorsDiffer s
factors_differ cs s (flat _ none) = plain_differ (kept cs) (list_any is_empty cs) (λ u. omega (arith, kept_count u cs, none u))
factors_differ cs s (taken _ t inner rest most hold other) =
    joined_differ cs t inner rest most other (factors_differ (holding t cs) inner hold, in_all (holding t cs) inner hold) (factors_differ (others t cs) rest other)

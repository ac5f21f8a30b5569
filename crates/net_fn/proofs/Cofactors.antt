-- Cubes with an input at a value: which function they have, and which inputs they read.
use Rattle.std.proofs.Common.{◌≡◌, ◌≢◌, ℕ, ◌+◌, ◌<◌, ◌≤◌, Bool, true, false, not, ◌&&◌, ◌||◌, ◌⊎◌, cond, inl, inr, List, [], ◌∷◌, map, take, length, get_or, refl, sym, ap, ap₂, ◌∙◌, arith, eq-eqb, eqb-true, ne_eqb, None, Some}
use Rattle.std.specs.Prelude.{All, filter}
use Rattle.std.specs.List.{list_any, AllByRecursion}
use Rattle.std.proofs.lemmas.Bool.{cases_eq, cases_lt, cases_Bool, false≢true, and_parts, and_from, or_parts, not-true, lt-ltb}
use Rattle.std.proofs.lemmas.List.Elements.{recursion_from_All, All-from_recursion}
use Rattle.std.proofs.lemmas.List.Folds.{list_any_more}
use Rattle.ae_base.specs.Mask.{Set, has, empty, first, without, where_below, either, least}
use Rattle.ae_base.specs.Cube.{Product, IsOver, EachHolds, holds, is_free}
use Rattle.ae_base.proofs.Sets.{same_set, has-empty, has-either, has-without, inside-has, has-inside, has-where_below, inside-below}
use Rattle.ae_base.proofs.Members.{least-is, least-empty}
use Rattle.ae_base.proofs.Products.{holds-has, has-holds}
use Rattle.ae_base.proofs.Truth.{same_truth, or-true}
use Rattle.ae_base.specs.Points.{put}
use Rattle.fn_store.specs.Cubes.{some_holds}
use Rattle.ae_base.proofs.Points.{put-same, put-other, put-has}
use Rattle.net_fn.specs.Refs.{ones_at}
use Rattle.net_fn.specs.Cofactor.{allows, rest, cofactor, is_read, is_whole, AreFrom}

-- ---- one cube

pub without-other : (s : Set) (j k : ℕ) → (k ≢ j) → has (without s j) k ≡ has s k
without-other s j k ne = has-without s j k ∙ rw (ne_eqb k j ne) refl

without-same : (s : Set) (j : ℕ) → has (without s j) j ≡ false
without-same s j = has-without s j j ∙ rw (eq-eqb j j refl) refl

pub without-member : (s : Set) (j k : ℕ) → has (without s j) k ≡ true → (k ≢ j) × (has s k ≡ true)
without-member s j k m =
    let ne : k ≢ j = λ e. false≢true (sym (without-same s j) ∙ ap (has (without s j)) (sym e) ∙ m) in
    (ne, sym (without-other s j k ne) ∙ m)

allowed_one : (v : Bool) (j : ℕ) (c : Product) → allows j v c ≡ true → has c.pos j ≡ true → v ≡ true
allowed_one true j c h m = refl
allowed_one false j c h m = absurd (false≢true (sym (not-true _ h) ∙ m))

allowed_zero : (v : Bool) (j : ℕ) (c : Product) → allows j v c ≡ true → has c.neg j ≡ true → v ≡ false
allowed_zero true j c h m = absurd (false≢true (sym (not-true _ h) ∙ m))
allowed_zero false j c h m = refl

holds-allows : (v : Bool) (j : ℕ) (c : Product) (x : Set) → EachHolds c (put j v x) → allows j v c ≡ true
holds-allows true j c x each = elim (cases_Bool (has c.neg j)) [ inl m ↦ absurd (false≢true (sym (each.1 j m) ∙ put-same j true x)) | inr m ↦ ap not m ]
holds-allows false j c x each = elim (cases_Bool (has c.pos j)) [ inl m ↦ absurd (false≢true (sym (put-same j false x) ∙ each.0 j m)) | inr m ↦ ap not m ]

pub holds-rest : (j : ℕ) (v : Bool) (c : Product) (x : Set) → (allows j v c && holds (rest j c) x) ≡ holds c (put j v x)
holds-rest j v c x =
    same_truth _ _
    (λ h.
    let parts = and_parts _ _ h in
    let each = holds-has (rest j c) x parts.1 in
    has-holds c (put j v x) (
      λ k m. elim (cases_eq k j) [
        | inl e ↦ ap (has (put j v x)) e ∙ put-same j v x ∙ allowed_one v j c parts.0 (ap (has c.pos) (sym e) ∙ m)
        | inr ne ↦ put-other j k v x ne ∙ each.0 k (without-other c.pos j k ne ∙ m)
      ],
      λ k m. elim (cases_eq k j) [
        | inl e ↦ ap (has (put j v x)) e ∙ put-same j v x ∙ allowed_zero v j c parts.0 (ap (has c.neg) (sym e) ∙ m)
        | inr ne ↦ put-other j k v x ne ∙ each.1 k (without-other c.neg j k ne ∙ m)
      ],
    ))
    (λ h.
    let each = holds-has c (put j v x) h in
    and_from _ _ (holds-allows v j c x each)
    (has-holds (rest j c) x (
      λ k m. let w = without-member c.pos j k m in sym (put-other j k v x w.0) ∙ each.0 k w.1,
      λ k m. let w = without-member c.neg j k m in sym (put-other j k v x w.0) ∙ each.1 k w.1,
    )))

-- ---- a list of cubes

pub some-cofactor : (j : ℕ) (v : Bool) (x : Set) (cubes : List Product) → some_holds (cofactor j v cubes) x ≡ some_holds cubes (put j v x)
some-cofactor j v x [] = refl
some-cofactor j v x (c ∷ cubes) = by_test (allows j v c) (holds-rest j v c x) (some-cofactor j v x cubes)
  where
    by_test : (b : Bool) → (b && holds (rest j c) x) ≡ holds c (put j v x) → some_holds (cofactor j v cubes) x ≡ some_holds cubes (put j v x)
        → some_holds (map (rest j) (cond b (c ∷ filter (allows j v) cubes) (filter (allows j v) cubes))) x ≡ (holds c (put j v x) || some_holds cubes (put j v x))
    by_test true e more = ap₂ (λ a b. a || b) e more
    by_test false e more = more ∙ ap (λ b. b || some_holds cubes (put j v x)) e

rest-over : (n j : ℕ) (c : Product) → IsOver n c → IsOver n (rest j c)
rest-over n j c over = (
  (λ k m. elim (cases_Bool (has (without c.neg j) k)) [ inl h ↦ absurd (false≢true (sym (over.0 k (without-member c.pos j k m).1) ∙ (without-member c.neg j k h).1)) | inr h ↦ h ]),
  has-inside (without c.pos j) (first n) (λ k m. inside-has c.pos (first n) over.1 k (without-member c.pos j k m).1),
  has-inside (without c.neg j) (first n) (λ k m. inside-has c.neg (first n) over.2 k (without-member c.neg j k m).1),
)

cofactor-over : (n j : ℕ) (v : Bool) (cubes : List Product) → AllByRecursion (IsOver n) cubes → AllByRecursion (IsOver n) (cofactor j v cubes)
cofactor-over n j v [] h = tt
cofactor-over n j v (c ∷ cubes) h = by_test (allows j v c) (cofactor-over n j v cubes h.1)
  where
    by_test : (b : Bool) → AllByRecursion (IsOver n) (cofactor j v cubes) → AllByRecursion (IsOver n) (map (rest j) (cond b (c ∷ filter (allows j v) cubes) (filter (allows j v) cubes)))
    by_test true more = (rest-over n j c h.0, more)
    by_test false more = more

-- a product that is free of an input, or that has lost it
rest-free : (j k : ℕ) (c : Product) → (k ≡ j) ⊎ (not (is_free c k) ≡ false) → not (is_free (rest j c) k) ≡ false
rest-free j k c (inl e) = rw (e, without-same c.pos j, without-same c.neg j) refl
rest-free j k c (inr h) = elim (cases_eq k j) [
  | inl e ↦ rw (e, without-same c.pos j, without-same c.neg j) refl
  | inr ne ↦ rw (without-other c.pos j k ne, without-other c.neg j k ne) h
]

cofactor-read : (j k : ℕ) (v : Bool) (cubes : List Product) → (k ≡ j) ⊎ (is_read cubes k ≡ false) → is_read (cofactor j v cubes) k ≡ false
cofactor-read j k v [] h = refl
cofactor-read j k v (c ∷ cubes) h = by_test (allows j v c) (here h) (cofactor-read j k v cubes (later h))
  where
    here : (k ≡ j) ⊎ (is_read (c ∷ cubes) k ≡ false) → (k ≡ j) ⊎ (not (is_free c k) ≡ false)
    here (inl e) = inl e
    here (inr e) = inr (or_parts _ _ e).0

    later : (k ≡ j) ⊎ (is_read (c ∷ cubes) k ≡ false) → (k ≡ j) ⊎ (is_read cubes k ≡ false)
    later (inl e) = inl e
    later (inr e) = inr (or_parts _ _ e).1

    by_test : (b : Bool) → (k ≡ j) ⊎ (not (is_free c k) ≡ false) → is_read (cofactor j v cubes) k ≡ false
        → is_read (map (rest j) (cond b (c ∷ filter (allows j v) cubes) (filter (allows j v) cubes))) k ≡ false
    by_test true e more = rw (rest-free j k c e, more) refl
    by_test false e more = more

-- ---- the next input

-- the least input that is read
pub record IsNext (n : ℕ) (from : ℕ) (cubes : List Product) (j : ℕ) : Type 0 where
  pub below : j < n
  pub above : from ≤ j
  pub none : (k : ℕ) → k < j → is_read cubes k ≡ false

read-below : (n k : ℕ) (cubes : List Product) → AllByRecursion (IsOver n) cubes → is_read cubes k ≡ true → k < n
read-below n k [] over m = absurd (false≢true m)
read-below n k (c ∷ cubes) over m =
    elim (cases_Bool (has c.pos k)) [
      | inl h ↦ inside-below n c.pos over.0.1 k h
      | inr h ↦ elim (cases_Bool (has c.neg k)) [
        | inl e ↦ inside-below n c.neg over.0.2 k e
        | inr e ↦ read-below n k cubes over.1 (rw (h, e) at m)
      ]
    ]

pub next-is : (n from : ℕ) (cubes : List Product) (read : Set) (j : ℕ) → AreFrom n from cubes → ((k : ℕ) → has read k ≡ is_read cubes k) → least read ≡ Some j → IsNext n from cubes j
next-is n from cubes read j are same e =
    let is = least-is read j e in
    let here : is_read cubes j ≡ true = sym (same j) ∙ is.0 in
    record {
      below = read-below n j cubes (recursion_from_All (IsOver n) cubes are.over) here;
      above = elim (cases_lt j from) [ inl l ↦ absurd (false≢true (sym (are.free j l) ∙ here)) | inr l ↦ l ];
      none = λ k l. sym (same k) ∙ is.1 k l;
    }

pub AreFrom-cofactor : (n from j : ℕ) (v : Bool) (cubes : List Product) → AreFrom n from cubes → IsNext n from cubes j → AreFrom n (j + 1) (cofactor j v cubes)
AreFrom-cofactor n from j v cubes are next = record {
  over = All-from_recursion (IsOver n) (cofactor j v cubes) (cofactor-over n j v cubes (recursion_from_All (IsOver n) cubes are.over));
  free = λ k l. cofactor-read j k v cubes (elim (cases_eq k j) [ inl e ↦ inl e | inr ne ↦ inr (next.none k (omega (arith, l, ne))) ]);
}

-- ---- no literals, no cubes

none-holds : (c : Product) (x : Set) → is_whole c ≡ true → holds c x ≡ true
none-holds c x h =
    let parts = and_parts _ _ h in
    has-holds c x (
      (λ k m. absurd (false≢true (sym (has-empty k) ∙ ap (λ s. has s k) (sym (eqb-true c.pos empty parts.0)) ∙ m))),
      (λ k m. absurd (false≢true (sym (has-empty k) ∙ ap (λ s. has s k) (sym (eqb-true c.neg empty parts.1)) ∙ m))),
    )

pub whole-holds : (cubes : List Product) → list_any is_whole cubes ≡ true → (x : Set) → true ≡ some_holds cubes x
whole-holds [] h x = absurd (false≢true h)
whole-holds (c ∷ cubes) h x = elim (cases_Bool (is_whole c)) [ inl e ↦ rw (none-holds c x e) refl | inr e ↦ sym (or-true (holds c x)) ∙ ap (λ b. holds c x || b) (whole-holds cubes (rw e at h) x) ]

-- a product that reads no input has no literals
whole-free : (c : Product) → ((k : ℕ) → not (is_free c k) ≡ false) → is_whole c ≡ true
whole-free c h =
    let none = λ (k : ℕ). and_parts (not (has c.pos k)) (not (has c.neg k)) (free (is_free c k) (h k)) in
    and_from _ _
    (eq-eqb c.pos empty (same_set c.pos empty (λ k. not-true _ (none k).0 ∙ sym (has-empty k))))
    (eq-eqb c.neg empty (same_set c.neg empty (λ k. not-true _ (none k).1 ∙ sym (has-empty k))))
  where
    free : (b : Bool) → not b ≡ false → b ≡ true
    free true e = refl
    free false e = sym e

pub none-left : (cubes : List Product) (read : Set) → ((k : ℕ) → has read k ≡ is_read cubes k) → least read ≡ None → list_any is_whole cubes ≡ false → (x : Set) → false ≡ some_holds cubes x
none-left [] read same e whole x = refl
none-left (c ∷ cubes) read same e whole x =
    let free = λ (k : ℕ). (or_parts (not (is_free c k)) (is_read cubes k) (sym (same k) ∙ least-empty read e k)).0 in
    absurd (false≢true (sym (or_parts (is_whole c) (list_any is_whole cubes) whole).0 ∙ whole-free c free))

-- ---- all inputs that are read

read-one : (c : Product) (k : ℕ) → has (either c.pos c.neg) k ≡ not (is_free c k)
read-one c k = has-either c.pos c.neg k ∙ by_values (has c.pos k) (has c.neg k)
  where
    by_values : (a b : Bool) → (a || b) ≡ not (not a && not b)
    by_values true b = refl
    by_values false true = refl
    by_values false false = refl

pub read-more : (cubes : List Product) (i : ℕ) (c : Product) (read more : Set) (k : ℕ) → i < length cubes → c ≡ get_or cubes i c → has read k ≡ is_read (take i cubes) k
    → more ≡ either read (either c.pos c.neg) → has more k ≡ is_read (take (i + 1) cubes) k
read-more cubes i c read more k l at same e =
    ap (λ s. has s k) e ∙ has-either read (either c.pos c.neg) k ∙ ap₂ (λ a b. a || b) same (read-one c k ∙ ap (λ (d : Product). not (is_free d k)) at)
    ∙ sym (list_any_more (λ d. not (is_free d k)) cubes i c l)

-- ---- at what references see

-- cubes with a number at its value there
some-at : (k : ℕ) (v : Bool) (y : Set) (cubes : List Product) → has y k ≡ v → some_holds (cofactor k v cubes) y ≡ some_holds cubes y
some-at k v y cubes e = some-cofactor k v y cubes ∙ ap (some_holds cubes) (put-has k v y e)

pub some-split : (n k : ℕ) (fs : ℕ → Set → Bool) (cubes zeros ones : List Product) (x : Set) → k < n → zeros ≡ cofactor k false cubes → ones ≡ cofactor k true cubes
    → cond (fs k x) (some_holds ones (ones_at n fs x)) (some_holds zeros (ones_at n fs x)) ≡ some_holds cubes (ones_at n fs x)
some-split n k fs cubes zeros ones x l low high = by_value (fs k x) (has-where_below n (λ k. fs k x) k ∙ ap (λ b. b && fs k x) (lt-ltb k n l))
  where
    by_value : (v : Bool) → has (ones_at n fs x) k ≡ v → cond v (some_holds ones (ones_at n fs x)) (some_holds zeros (ones_at n fs x)) ≡ some_holds cubes (ones_at n fs x)
    by_value true e = ap (λ (cs : List Product). some_holds cs (ones_at n fs x)) high ∙ some-at k true (ones_at n fs x) cubes e
    by_value false e = ap (λ (cs : List Product). some_holds cs (ones_at n fs x)) low ∙ some-at k false (ones_at n fs x) cubes e

-- ---- inputs as references see them

-- cubes over n inputs read no others
pub some-inputs : (n : ℕ) (cubes : List Product) (x : Set) → All (IsOver n) cubes → some_holds cubes (where_below n (λ k. has x k)) ≡ some_holds cubes x
some-inputs n cubes x over = each cubes (recursion_from_All (IsOver n) cubes over)
  where
    at : (k : ℕ) → k < n → has (where_below n (λ k. has x k)) k ≡ has x k
    at k l = has-where_below n (λ k. has x k) k ∙ ap (λ b. b && has x k) (lt-ltb k n l)

    one : (c : Product) → IsOver n c → holds c (where_below n (λ k. has x k)) ≡ holds c x
    one c o =
        same_truth _ _
        (λ h. let parts = holds-has c _ h in has-holds c x ((λ k m. sym (at k (inside-below n c.pos o.1 k m)) ∙ parts.0 k m), (λ k m. sym (at k (inside-below n c.neg o.2 k m)) ∙ parts.1 k m)))
        (λ h. let parts = holds-has c x h in has-holds c _ ((λ k m. at k (inside-below n c.pos o.1 k m) ∙ parts.0 k m), (λ k m. at k (inside-below n c.neg o.2 k m) ∙ parts.1 k m)))

    each : (cubes : List Product) → AllByRecursion (IsOver n) cubes → some_holds cubes (where_below n (λ k. has x k)) ≡ some_holds cubes x
    each [] h = refl
    each (c ∷ cubes) h = ap₂ (λ a b. a || b) (one c h.0) (each cubes h.1)

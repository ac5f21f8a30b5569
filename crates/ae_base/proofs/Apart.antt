-- Names that differ, by the tests for names that stand twice.
use Rattle.std.proofs.Common.{◌≡◌, ◌≢◌, ℕ, suc, true, false, List, [], ◌∷◌, ◌++◌, All, refl, sym, inl, inr, arith}
use Rattle.std.specs.List.{AllPairs, AllByRecursion}
use Rattle.std.specs.Str.{bytes_eq}
use Rattle.std.proofs.lemmas.Bool.{or_parts, cases_Bool}
use Rattle.std.proofs.lemmas.List.Elements.{All-nil, All-append, All-cons}
use Rattle.std.proofs.lemmas.List.Kept.{AllPairs-cons}
use Rattle.std.proofs.lemmas.Slice.Eq.{bytes_eq-Decides}
use Rattle.ae_base.specs.Twins.{is_among, has_twins, share}
use Rattle.ae_base.proofs.Distinct.{Distinct, each_weaker}

-- ---- from the tests

-- a name that is none of these differs from each
apart_of : (name : List ℕ) (names : List (List ℕ)) → is_among name names ≡ false → All (λ other. name ≢ other) names
apart_of name [] h = All-nil _
apart_of name (x ∷ xs) h =
    let parts = or_parts (bytes_eq name x) (is_among name xs) h in
    All-cons (λ other. name ≢ other) x xs (λ e. let same : bytes_eq name x ≡ true = (bytes_eq-Decides name x).1 e in cc) (apart_of name xs parts.1)

pub distinct_of : (names : List (List ℕ)) → has_twins names ≡ false → AllPairs (λ name other. name ≢ other) names
distinct_of [] h = λ i j d lt within. absurd (omega arith)
distinct_of (x ∷ xs) h =
    let parts = or_parts (is_among x xs) (has_twins xs) h in
    AllPairs-cons (λ name other. name ≢ other) x xs (apart_of x xs parts.0) (distinct_of xs parts.1)

-- each of the others differs from each of the names
each_apart : (names others : List (List ℕ)) → share names others ≡ false → All (λ other. All (λ name. other ≢ name) names) others
each_apart names [] h = All-nil _
each_apart names (x ∷ xs) h =
    let parts = or_parts (is_among x names) (share names xs) h in
    All-cons (λ other. All (λ name. other ≢ name) names) x xs (apart_of x names parts.0) (each_apart names xs parts.1)

append_by : (names others : List (List ℕ)) → AllPairs (λ name other. name ≢ other) names → AllPairs (λ name other. name ≢ other) others → All (λ other. All (λ name. other ≢ name) names) others → AllPairs (λ name other. name ≢ other) (names ++ others)
append_by [] others h k s = k
append_by (x ∷ xs) others h k s =
    let head : All (λ other. x ≢ other) xs = λ j d lt. h 0 (suc j) d (omega arith) (omega arith) in
    let tail : AllPairs (λ name other. name ≢ other) xs = λ i j d lt within. h (suc i) (suc j) d (omega arith) (omega arith) in
    let from_all : All (λ other. x ≢ other) others = λ j d lt e. s j d lt 0 d (omega arith) (sym e) in
    let rest : All (λ other. All (λ name. other ≢ name) xs) others = λ j d lt i e m. s j d lt (suc i) e (omega arith) in
    AllPairs-cons (λ name other. name ≢ other) x (xs ++ others) (All-append (λ other. x ≢ other) xs others head from_all) (append_by xs others tail k rest)

-- two lists of different names that share none
pub distinct_append : (names others : List (List ℕ)) → AllPairs (λ name other. name ≢ other) names → AllPairs (λ name other. name ≢ other) others → share names others ≡ false → AllPairs (λ name other. name ≢ other) (names ++ others)
distinct_append names others h k s = append_by names others h k (each_apart names others s)

-- ---- to the tests

pub bytes_apart : (name other : List ℕ) → name ≢ other → bytes_eq name other ≡ false
bytes_apart name other apart = elim (cases_Bool (bytes_eq name other)) [ inl e ↦ absurd (apart ((bytes_eq-Decides name other).0 e)) | inr e ↦ e ]

pub not_among : (name : List ℕ) (names : List (List ℕ)) → AllByRecursion (λ other. name ≢ other) names → is_among name names ≡ false
not_among name [] h = refl
not_among name (x ∷ xs) h = rw (bytes_apart name x h.0) (not_among name xs h.1)

pub no_twins : (names : List (List ℕ)) → Distinct names → has_twins names ≡ false
no_twins [] h = refl
no_twins (x ∷ xs) h = rw (not_among x xs h.0) (no_twins xs h.1)

-- names that stand in neither list twice
pub share_none : (names others : List (List ℕ)) → AllByRecursion (λ x. AllByRecursion (λ y. x ≢ y) others) names → share names others ≡ false
share_none names [] h = refl
share_none names (y ∷ others) h =
    rw (not_among y names (each_weaker (λ x. AllByRecursion (λ z. x ≢ z) (y ∷ others)) (λ x. y ≢ x) (λ x k e. k.0 (sym e)) names h))
    (share_none names others (each_weaker (λ x. AllByRecursion (λ z. x ≢ z) (y ∷ others)) (λ x. AllByRecursion (λ z. x ≢ z) others) (λ x k. k.1) names h))

-- no name stands in an empty list
pub share_nothing : (others : List (List ℕ)) → share [] others ≡ false
share_nothing [] = refl
share_nothing (x ∷ others) = share_nothing others

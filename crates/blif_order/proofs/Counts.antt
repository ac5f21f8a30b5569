-- How often a number stands in a list.
use Rattle.std.proofs.Common.{◌≡◌, ℕ, zero, suc, ◌+◌, ◌<◌, ◌≤◌, Bool, cond, eqb, ltb, List, [], ◌∷◌, ◌++◌, length, get_or, take, refl, sym, ap, ◌∙◌, arith, inl, inr}
use Rattle.std.specs.List.{sum_by}
use Rattle.std.proofs.lemmas.Bool.{eq-eqb, cases_eq, cases_lt, ne_eqb, lt-ltb, le-ltb, cond-true, cond-false}
use Rattle.std.proofs.lemmas.List.{get_or_past}
use Rattle.std.proofs.lemmas.List.Sums.{sum_by_more, sum_by-take-le}
use Rattle.blif_order.specs.Kept.{count}

abbrev pub one : ℕ → ℕ → ℕ
one i x = cond (eqb x i) 1 0

-- it stands there once more than before its place
pub count_before : (xs : List ℕ) (i : ℕ) → i < length xs → count (get_or xs i 0) (take i xs) + 1 ≤ count (get_or xs i 0) xs
count_before xs i h =
    let y = get_or xs i 0 in
    let here : one y y ≡ 1 = ap (λ (b : Bool). cond b 1 0) (eq-eqb y y refl) in
    let a : sum_by (one y) (take (i + 1) xs) ≡ sum_by (one y) (take i xs) + one y y = sum_by_more (one y) xs i 0 h in
    let b : sum_by (one y) (take (i + 1) xs) ≤ sum_by (one y) xs = sum_by-take-le (one y) xs (i + 1) in
    omega arith

-- an empty list at the end changes nothing
pub empty_more : (xs : List (List ℕ)) (d : ℕ) → get_or (xs ++ [] ∷ []) d [] ≡ get_or xs d []
empty_more [] zero = refl
empty_more [] (suc d) = refl
empty_more (x ∷ xs) zero = refl
empty_more (x ∷ xs) (suc d) = empty_more xs d

-- ---- users so far

pub users_none : (x j y : ℕ) → x ≡ 0 → x ≡ cond (ltb j 0) y 0
users_none x j y h = h ∙ sym (cond-false (ltb j 0) y 0 (le-ltb j 0 (omega arith)))

pub users_more : (f : ℕ → ℕ) (old new i j : ℕ) → old ≡ cond (ltb j i) (f j) 0 → new ≡ old + cond (eqb i j) (f i) 0 → new ≡ cond (ltb j (i + 1)) (f j) 0
users_more f old new i j p q = elim (cases_lt j i) [
  | inl lt ↦
      let a : old ≡ f j = p ∙ cond-true (ltb j i) (f j) 0 (lt-ltb j i lt) in
      let b : cond (eqb i j) (f i) 0 ≡ 0 = cond-false (eqb i j) (f i) 0 (ne_eqb i j (omega arith)) in
      let c : cond (ltb j (i + 1)) (f j) 0 ≡ f j = cond-true (ltb j (i + 1)) (f j) 0 (lt-ltb j (i + 1) (omega arith)) in
      omega arith
  | inr le ↦
      let a : old ≡ 0 = p ∙ cond-false (ltb j i) (f j) 0 (le-ltb j i le) in
      elim (cases_eq i j) [
        | inl e ↦
            let b : cond (eqb i j) (f i) 0 ≡ f i = cond-true (eqb i j) (f i) 0 (eq-eqb i j e) in
            let c : cond (ltb j (i + 1)) (f j) 0 ≡ f j = cond-true (ltb j (i + 1)) (f j) 0 (lt-ltb j (i + 1) (omega arith)) in
            let d : f i ≡ f j = ap f e in
            omega arith
        | inr ne ↦
            let b : cond (eqb i j) (f i) 0 ≡ 0 = cond-false (eqb i j) (f i) 0 (ne_eqb i j ne) in
            let c : cond (ltb j (i + 1)) (f j) 0 ≡ 0 = cond-false (ltb j (i + 1)) (f j) 0 (le-ltb j (i + 1) (omega arith)) in
            omega arith
      ]
]

pub users_all : (needs : List (List ℕ)) (d j x : ℕ) → x ≡ cond (ltb j (length needs)) (count d (get_or needs j [])) 0 → x ≡ count d (get_or needs j [])
users_all needs d j x h = elim (cases_lt j (length needs)) [
  | inl lt ↦ h ∙ cond-true (ltb j (length needs)) (count d (get_or needs j [])) 0 (lt-ltb j (length needs) lt)
  | inr le ↦ h ∙ cond-false (ltb j (length needs)) (count d (get_or needs j [])) 0 (le-ltb j (length needs) le) ∙ ap (count d) (sym (get_or_past needs j [] le))
]

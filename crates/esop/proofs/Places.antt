-- The first pair of places that passes a test.
use Rattle.std.proofs.Common.{◌≡◌, ◌<◌, ◌≤◌, ◌+◌, ◌-◌, ◌∙◌, ℕ, zero, suc, Bool, true, false, List, [], ◌∷◌, map, refl, sym, ap, arith, inl, inr}
use Rattle.std.specs.Prelude.{Option, Some, None, find, flat_map, option_map}
use Rattle.std.specs.List.{range_with_len}
use Rattle.std.specs.Option.{option_or}
use Rattle.std.proofs.lemmas.Bool.{cases_eq, cases_Bool}
use Rattle.std.proofs.lemmas.List.Folds.{find-append}
use Rattle.std.proofs.lemmas.Option.{none-some, same_Some}
use Rattle.esop.specs.Rewriting.{pairs}
use Rattle.esop.specs.Search.{IsFirstPair}

-- ---- the first number of a range

pub range_some : (t : ℕ → Bool) (n a j : ℕ) → a ≤ j → j < a + n → ((k : ℕ) → a ≤ k → k < j → t k ≡ false) → t j ≡ true → find t (range_with_len a n) ≡ Some j
range_some t zero a j low high before at = absurd (omega (arith, low, high))
range_some t (suc n) a j low high before at =
    elim (cases_eq a j) [
      | inl e ↦ rw (ap t e ∙ at) (ap (λ k. Some k) e)
      | inr ne ↦ rw (before a (omega arith) (omega (arith, low, ne))) (range_some t n (a + 1) j (omega (arith, low, ne)) (omega (arith, high)) (λ k l h. before k (omega (arith, l)) h) at)
    ]

pub range_none : (t : ℕ → Bool) (n a : ℕ) → ((k : ℕ) → a ≤ k → k < a + n → t k ≡ false) → find t (range_with_len a n) ≡ None
range_none t zero a none = refl
range_none t (suc n) a none = rw (none a (omega arith) (omega arith)) (range_none t n (a + 1) (λ k l h. none k (omega (arith, l)) (omega (arith, h))))

-- what is found is the first of the range that passes
record InRange (t : ℕ → Bool) (a b j : ℕ) : Type 0 where
  low : a ≤ j
  high : j < b
  passes : t j ≡ true
  before : (k : ℕ) → a ≤ k → k < j → t k ≡ false

range_found : (t : ℕ → Bool) (n a j : ℕ) → find t (range_with_len a n) ≡ Some j → InRange t a (a + n) j
range_found t zero a j h = absurd (none-some j h)
range_found t (suc n) a j h = elim (cases_Bool (t a)) [
  | inl e ↦ let same : a ≡ j = same_Some a j (rw e at h) in record { low = omega (arith, same); high = omega (arith, same); passes = ap t (sym same) ∙ e; before = λ k l u. absurd (omega (arith, same, l, u)) }
  | inr e ↦
      let r : InRange t (a + 1) (a + 1 + n) j = range_found t n (a + 1) j (rw e at h) in
      record { low = omega (arith, r.low); high = omega (arith, r.high); passes = r.passes; before = λ k l u. elim (cases_eq k a) [ inl s ↦ ap t s ∙ e | inr ne ↦ r.before k (omega (arith, l, ne)) u ] }
]

range_not : (t : ℕ → Bool) (n a : ℕ) → find t (range_with_len a n) ≡ None → (j : ℕ) → a ≤ j → j < a + n → t j ≡ false
range_not t zero a h j low high = absurd (omega (arith, low, high))
range_not t (suc n) a h j low high = elim (cases_Bool (t a)) [
  | inl e ↦ absurd (none-some a (sym (rw e at h)))
  | inr e ↦ elim (cases_eq j a) [ inl s ↦ ap t s ∙ e | inr ne ↦ range_not t n (a + 1) (rw e at h) j (omega (arith, low, ne)) (omega (arith, high)) ]
]

-- ---- the first pair

-- the second places of the pairs whose first place is i
abbrev pub row : ℕ → ℕ → List ℕ
row n i = range_with_len (suc i) (n - suc i)

module _ (q : ℕ × ℕ → Bool) (n : ℕ) where
  abbrev rows : ℕ → ℕ → List (ℕ × ℕ)
  rows a m = flat_map (λ i. map (λ j. (i, j)) (row n i)) (range_with_len a m)

  abbrev pub in_row : ℕ → Option ℕ
  in_row i = find (λ j. q (i, j)) (row n i)

  find-row : (i : ℕ) (js : List ℕ) → find q (map (λ j. (i, j)) js) ≡ option_map (λ j. (i, j)) (find (λ j. q (i, j)) js)
  find-row i [] = refl
  find-row i (j ∷ js) = elim (cases_Bool (q (i, j))) [ inl e ↦ rw e refl | inr e ↦ rw e (find-row i js) ]

  first_row : (a m : ℕ) → find q (rows a (suc m)) ≡ option_or (option_map (λ j. (a, j)) (in_row a)) (find q (rows (a + 1) m))
  first_row a m = find-append q (map (λ j. (a, j)) (row n a)) (rows (a + 1) m) ∙ ap (λ o. option_or o (find q (rows (a + 1) m))) (find-row a (row n a))

  rows_some : (m a i j : ℕ) → a ≤ i → i < a + m → ((h : ℕ) → a ≤ h → h < i → in_row h ≡ None) → in_row i ≡ Some j → find q (rows a m) ≡ Some (i, j)
  rows_some zero a i j low high before at = absurd (omega (arith, low, high))
  rows_some (suc m) a i j low high before at =
      first_row a m
      ∙ elim (cases_eq a i) [
        | inl e ↦ ap (λ k. option_or (option_map (λ j. (k, j)) (in_row k)) (find q (rows (a + 1) m))) e ∙ ap (λ o. option_or (option_map (λ j. (i, j)) o) (find q (rows (a + 1) m))) at
        | inr ne ↦
            ap (λ o. option_or (option_map (λ j. (a, j)) o) (find q (rows (a + 1) m))) (before a (omega arith) (omega (arith, low, ne)))
            ∙ rows_some m (a + 1) i j (omega (arith, low, ne)) (omega (arith, high)) (λ h l k. before h (omega (arith, l)) k) at
      ]

  rows_none : (m a : ℕ) → ((h : ℕ) → a ≤ h → h < a + m → in_row h ≡ None) → find q (rows a m) ≡ None
  rows_none zero a none = refl
  rows_none (suc m) a none =
      first_row a m ∙ ap (λ o. option_or (option_map (λ j. (a, j)) o) (find q (rows (a + 1) m))) (none a (omega arith) (omega arith))
      ∙ rows_none m (a + 1) (λ h l k. none h (omega (arith, l)) (omega (arith, k)))

  -- a pair of places that passes
  pub record Passes (p : ℕ × ℕ) : Type 0 where
    pub order : p.0 < p.1
    pub within : p.1 < n
    pub passes : q p ≡ true

  rows_not : (m a : ℕ) → find q (rows a m) ≡ None → (i j : ℕ) → a ≤ i → i < a + m → i < j → j < n → q (i, j) ≡ false
  rows_not zero a h i j low high order within = absurd (omega (arith, low, high))
  rows_not (suc m) a h i j low high order within = by (in_row a) refl (sym (first_row a m) ∙ h) (λ f l. rows_not m (a + 1) f i j l (omega (arith, high)) order within)
    where
      by : (o : Option ℕ) → in_row a ≡ o → option_or (option_map (λ j. (a, j)) o) (find q (rows (a + 1) m)) ≡ None → (find q (rows (a + 1) m) ≡ None → a + 1 ≤ i → q (i, j) ≡ false) → q (i, j) ≡ false
      by (Some k) e f later = absurd (none-some (a, k) (sym f))
      by None e f later = elim (cases_eq i a) [
        | inl s ↦ range_not (λ k. q (i, k)) (n - suc i) (suc i) (ap in_row s ∙ e) j (omega (arith, order)) (omega (arith, order, within))
        | inr ne ↦ later f (omega (arith, low, ne))
      ]

  pub no_pair : find q (pairs n) ≡ None → (i j : ℕ) → i < j → j < n → q (i, j) ≡ false
  no_pair h i j order within = rows_not n 0 h i j (omega arith) (omega (arith, order, within)) order within

  pub pair_none : ((i j : ℕ) → i < j → j < n → q (i, j) ≡ false) → find q (pairs n) ≡ None
  pair_none none = rows_none n 0 (λ h low high. range_none (λ j. q (h, j)) (n - suc h) (suc h) (λ k l u. none h k (omega (arith, l)) (omega (arith, u, l))))

  -- a search row by row: no row before the i-th has one
  pub pair_at : (i j : ℕ) → i < n → ((h : ℕ) → h < i → in_row h ≡ None) → in_row i ≡ Some j → find q (pairs n) ≡ Some (i, j)
  pair_at i j within before at = rows_some n 0 i j (omega arith) (omega (arith, within)) (λ h l k. before h k) at

  pub pair_nowhere : ((h : ℕ) → h < n → in_row h ≡ None) → find q (pairs n) ≡ None
  pair_nowhere none = rows_none n 0 (λ h l k. none h (omega (arith, k)))

  -- ---- the first pair by a relation

  -- the row of the pair that is found, and no row before it has one
  record FirstRow (a : ℕ) (p : ℕ × ℕ) : Type 0 where
    low : a ≤ p.0
    here : in_row p.0 ≡ Some p.1
    before : (h : ℕ) → a ≤ h → h < p.0 → in_row h ≡ None

  rows_first : (m a : ℕ) (p : ℕ × ℕ) → find q (rows a m) ≡ Some p → FirstRow a p
  rows_first zero a p h = absurd (none-some p h)
  rows_first (suc m) a p h = by (in_row a) refl (sym (first_row a m) ∙ h) (rows_first m (a + 1) p)
    where
      by : (o : Option ℕ) → in_row a ≡ o → option_or (option_map (λ j. (a, j)) o) (find q (rows (a + 1) m)) ≡ Some p → (find q (rows (a + 1) m) ≡ Some p → FirstRow (a + 1) p) → FirstRow a p
      by None e f later =
          let r = later f in
          record { low = omega (arith, r.low); here = r.here; before = λ h l k. elim (cases_eq h a) [ inl s ↦ ap in_row s ∙ e | inr ne ↦ r.before h (omega (arith, l, ne)) k ] }
      by (Some j) e f later =
          let same : (a, j) ≡ p = cc f in
          let row : a ≡ p.0 = ap (λ (x : ℕ × ℕ). x.0) same in
          record { low = omega (arith, row); here = ap in_row (sym row) ∙ e ∙ ap (λ (x : ℕ × ℕ). Some x.1) same; before = λ h l k. absurd (omega (arith, l, k, row)) }

  pub pair_found : (p : ℕ × ℕ) → find q (pairs n) ≡ Some p → Passes p
  pair_found p found =
      let f = range_found (λ j. q (p.0, j)) (n - suc p.0) (suc p.0) p.1 (rows_first n 0 p found).here in
      record { order = f.low; within = omega (arith, f.low, f.high); passes = f.passes }

  pub first_from : (p : ℕ × ℕ) → find q (pairs n) ≡ Some p → IsFirstPair q n p
  first_from p found =
      let at = pair_found p found in
      let r = rows_first n 0 p found in
      record {
        order = at.order;
        within = at.within;
        passes = at.passes;
        before = λ i j order within before. elim before [
          | inl l ↦ range_not (λ k. q (i, k)) (n - suc i) (suc i) (r.before i (omega arith) l) j (omega (arith, order)) (omega (arith, order, within))
          | inr same ↦ (range_found (λ k. q (i, k)) (n - suc i) (suc i) p.1 (ap in_row same.0 ∙ r.here)).before j (omega (arith, order)) same.1
        ];
      }

  pub from_first : (p : ℕ × ℕ) → IsFirstPair q n p → find q (pairs n) ≡ Some p
  from_first p h =
      pair_at p.0 p.1 (omega (arith, h.order, h.within))
      (λ i l. range_none (λ k. q (i, k)) (n - suc i) (suc i) (λ k low high. h.before i k (omega (arith, low)) (omega (arith, low, high)) (inl l)))
      (range_some (λ k. q (p.0, k)) (n - suc p.0) (suc p.0) p.1 (omega (arith, h.order)) (omega (arith, h.order, h.within))
      (λ k low high. h.before p.0 k (omega (arith, low)) (omega (arith, high, h.within)) (inr (refl, high))) h.passes)

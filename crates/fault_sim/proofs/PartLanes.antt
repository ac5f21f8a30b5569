-- The lanes of words in parts.
use Rattle.std.proofs.Common.{◌≡◌, ℕ, zero, suc, ◌+◌, ◌-◌, ◌*◌, ◌/◌, ◌^◌, ◌%◌, ◌<◌, ◌≤◌, Bool, true, false, not, cond, ◌&&◌, inl, inr, List, [], ◌∷◌, length, map, refl, sym, ap, ap₂, ◌∙◌, eqb, eq-eqb, ne_eqb, nat_eq, arith, lt_of_le_of_lt, w64}
use Rattle.std.specs.Prelude.{bit_and, bit_or, bit_xor, replicate, slice_index}
use Rattle.std.specs.Int.{bit_not}
use Rattle.std.specs.Cmp.Lexicographic.{pointwise, same_text}
use Rattle.std.proofs.lemmas.Bool.{false≢true, cases_Bool, cases_eq, cases_lt}
use Rattle.std.proofs.lemmas.Nat.Bits.{bit_at_cat_low, bit_at_cat_high}
use Rattle.std.proofs.lemmas.Nat.{and_le_l, or_lt, xor_lt}
use Rattle.std.proofs.lemmas.Simd.{length-zip2, mask_l-mod, tops_compared}
use lib.Lanes.{zip2, Each1, mask_l, top}
use Rattle.ae_base.specs.Mask.{has}
use Rattle.fault_sim.specs.Marks.{is_marked}
use Rattle.fault_sim.specs.Parts.{IsParts, joined, parts_of, parts_of-joined}
use Rattle.fault_sim.proofs.WordLanes.{lane-not, lane-zero}

low-lane : (p rest l : ℕ) → l < 64 → has (p + 2 ^ 64 * rest) l ≡ has p l
unfolding has
low-lane p rest l lt = let e : p + 2 ^ 64 * rest ≡ rest * 2 ^ 64 + p = omega arith in ap (λ n. eqb (n / 2 ^ l % 2) 1) e ∙ ap (λ d. eqb d 1) (bit_at_cat_low rest 64 p l lt)

high-lane : (p rest l : ℕ) → p < 2 ^ 64 → 64 ≤ l → has (p + 2 ^ 64 * rest) l ≡ has rest (l - 64)
unfolding has
high-lane p rest l fits more = let e : p + 2 ^ 64 * rest ≡ rest * 2 ^ 64 + p = omega arith in ap (λ n. eqb (n / 2 ^ l % 2) 1) e ∙ ap (λ d. eqb d 1) (bit_at_cat_high rest 64 p l fits more)

-- a lane is in the part that counts 64 for each part before it
pub joined-lane : (parts : List ℕ) (l : ℕ) → Each1 (λ p. p < 2 ^ 64) parts → has (joined parts) l ≡ is_marked parts l
joined-lane [] l fits = lane-zero l ∙ sym (lane-zero (l % 64))
joined-lane (p ∷ ps) l fits =
    elim (cases_lt l 64) [
      | inl less ↦
          let first : l / 64 ≡ 0 = omega arith in
          let same : l % 64 ≡ l = omega arith in
          low-lane p (joined ps) l less ∙ sym (ap₂ (λ w k. has (slice_index (p ∷ ps) w) k) first same)
      | inr more ↦
          let later : l / 64 ≡ suc ((l - 64) / 64) = omega (arith, more) in
          let same : l % 64 ≡ (l - 64) % 64 = omega (arith, more) in
          high-lane p (joined ps) l fits.0 more ∙ joined-lane ps (l - 64) fits.1 ∙ sym (ap₂ (λ w k. has (slice_index (p ∷ ps) w) k) later same)
    ]

-- operations keep within 64 digits
pub and_fits : (a b : ℕ) → a < 2 ^ 64 → b < 2 ^ 64 → bit_and a b < 2 ^ 64
and_fits a b fa fb = lt_of_le_of_lt (and_le_l a b) fa

pub or_fits : (a b : ℕ) → a < 2 ^ 64 → b < 2 ^ 64 → bit_or a b < 2 ^ 64
or_fits a b fa fb = or_lt 64 a b fa fb

pub xor_fits : (a b : ℕ) → a < 2 ^ 64 → b < 2 ^ 64 → bit_xor a b < 2 ^ 64
xor_fits a b fa fb = xor_lt 64 a b fa fb

-- an operation by lanes acts on the parts
pub op-lane : (op : ℕ → ℕ → ℕ) (f : Bool → Bool → Bool) → ((a b l : ℕ) → has (op a b) l ≡ f (has a l) (has b l)) → f false false ≡ false → ((a b : ℕ) → a < 2 ^ 64 → b < 2 ^ 64 → op a b < 2 ^ 64)
    → (xs ys : List ℕ) (l : ℕ) → length xs ≡ length ys → Each1 (λ p. p < 2 ^ 64) xs → Each1 (λ p. p < 2 ^ 64) ys → has (joined (zip2 op xs ys)) l ≡ f (has (joined xs) l) (has (joined ys) l)
op-lane op f law none fit [] [] l e fx fy = lane-zero l ∙ sym (ap₂ f (lane-zero l) (lane-zero l) ∙ none)
op-lane op f law none fit [] (y ∷ ys) l e fx fy = absurd (omega (arith, e))
op-lane op f law none fit (x ∷ xs) [] l e fx fy = absurd (omega (arith, e))
op-lane op f law none fit (x ∷ xs) (y ∷ ys) l e fx fy =
    elim (cases_lt l 64) [
      | inl less ↦ low-lane (op x y) (joined (zip2 op xs ys)) l less ∙ law x y l ∙ sym (ap₂ f (low-lane x (joined xs) l less) (low-lane y (joined ys) l less))
      | inr more ↦ high-lane (op x y) (joined (zip2 op xs ys)) l (fit x y fx.0 fy.0) more ∙ op-lane op f law none fit xs ys (l - 64) (omega (arith, e)) fx.1 fy.1 ∙ sym (ap₂ f (high-lane x (joined xs) l fx.0 more) (high-lane y (joined ys) l fy.0 more))
    ]

pub op-parts : (op : ℕ → ℕ → ℕ) → ((a b : ℕ) → a < 2 ^ 64 → b < 2 ^ 64 → op a b < 2 ^ 64) → (n : ℕ) (xs ys : List ℕ) → length xs ≡ n → length ys ≡ n → Each1 (λ p. p < 2 ^ 64) xs → Each1 (λ p. p < 2 ^ 64) ys → (length (zip2 op xs ys) ≡ n) × Each1 (λ p. p < 2 ^ 64) (zip2 op xs ys)
op-parts op fit n [] ys ex ey fx fy = (ex, tt)
op-parts op fit n (x ∷ xs) [] ex ey fx fy = absurd (omega (arith, ex, ey))
op-parts op fit n (x ∷ xs) (y ∷ ys) ex ey fx fy =
    let rest = op-parts op fit (n - 1) xs ys (omega (arith, ex)) (omega (arith, ey)) fx.1 fy.1 in (omega (arith, rest.0, ex), (fit x y fx.0 fy.0, rest.1))

pub not-lane : (xs : List ℕ) (l : ℕ) → l < 64 * length xs → Each1 (λ p. p < 2 ^ 64) xs → has (joined (map (bit_not w64) xs)) l ≡ not (has (joined xs) l)
not-lane [] l lt fits = absurd (omega (arith, lt))
not-lane (x ∷ xs) l lt fits =
    elim (cases_lt l 64) [
      | inl less ↦ low-lane (bit_not w64 x) (joined (map (bit_not w64) xs)) l less ∙ lane-not x l fits.0 less ∙ sym (ap not (low-lane x (joined xs) l less))
      | inr more ↦ high-lane (bit_not w64 x) (joined (map (bit_not w64) xs)) l (omega arith) more ∙ not-lane xs (l - 64) (omega (arith, lt, more)) fits.1 ∙ sym (ap not (high-lane x (joined xs) l fits.0 more))
    ]

pub not-parts : (n : ℕ) (xs : List ℕ) → length xs ≡ n → (length (map (bit_not w64) xs) ≡ n) × Each1 (λ p. p < 2 ^ 64) (map (bit_not w64) xs)
not-parts n [] e = (e, tt)
not-parts n (x ∷ xs) e = let rest = not-parts (n - 1) xs (omega (arith, e)) in (omega (arith, rest.0, e), (omega arith, rest.1))

pub same-lane : (n p l : ℕ) (value : Bool) → p < 2 ^ 64 → l < 64 * n → ((k : ℕ) → k < 64 → has p k ≡ value) → has (joined (replicate n p)) l ≡ value
same-lane zero p l value fits lt is = absurd (omega (arith, lt))
same-lane (suc n) p l value fits lt is =
    elim (cases_lt l 64) [
      | inl less ↦ low-lane p (joined (replicate n p)) l less ∙ is l less
      | inr more ↦ high-lane p (joined (replicate n p)) l fits more ∙ same-lane n p (l - 64) value fits (omega (arith, lt, more)) is
    ]

-- two words are equal where their parts are
same-text : (xs : List ℕ) → pointwise nat_eq xs xs ≡ true
same-text [] = refl
same-text (x ∷ xs) = ap₂ (λ a b. a && b) (eq-eqb x x refl) (same-text xs)

pub same-parts : (xs ys : List ℕ) → IsParts xs → IsParts ys → pointwise nat_eq xs ys ≡ nat_eq (joined xs) (joined ys)
same-parts xs ys ix iy =
    elim (cases_Bool (pointwise nat_eq xs ys)) [
      | inl same ↦ same ∙ sym (eq-eqb (joined xs) (joined ys) (ap joined (same_text xs ys (sym same))))
      | inr other ↦ other ∙ sym (ne_eqb (joined xs) (joined ys) (λ e. false≢true (sym other ∙ ap (pointwise nat_eq xs) (sym (sym (parts_of-joined xs ix) ∙ ap parts_of e ∙ parts_of-joined ys iy)) ∙ same-text xs)))
    ]

-- the mask of the parts that differ
no-bit : (xs ys : List ℕ) → length xs ≡ length ys → eqb (mask_l (zip2 (λ x y. not (eqb x y)) xs ys)) 0 ≡ pointwise nat_eq xs ys
no-bit [] [] e = refl
no-bit [] (y ∷ ys) e = absurd (omega (arith, e))
no-bit (x ∷ xs) [] e = absurd (omega (arith, e))
no-bit (x ∷ xs) (y ∷ ys) e = by_first (eqb x y) (mask_l (zip2 (λ x y. not (eqb x y)) xs ys)) (pointwise nat_eq xs ys) (no-bit xs ys (omega (arith, e)))
  where
    by_first : (same : Bool) (mask : ℕ) (rest : Bool) → eqb mask 0 ≡ rest → eqb (cond (not same) 1 0 + 2 * mask) 0 ≡ (same && rest)
    by_first true mask rest h = elim (cases_eq mask 0) [
      | inl none ↦ eq-eqb (0 + 2 * mask) 0 (omega (arith, none)) ∙ sym (eq-eqb mask 0 none) ∙ h
      | inr some ↦ ne_eqb (0 + 2 * mask) 0 (λ e. some (omega (arith, e))) ∙ sym (ne_eqb mask 0 some) ∙ h
    ]
    by_first false mask rest h = ne_eqb (1 + 2 * mask) 0 (λ e. omega (arith, e))

pub same-mask : (n : ℕ) (xs ys : List ℕ) → n ≤ 64 → length xs ≡ n → length ys ≡ n → eqb (mask_l (map (top 63) (zip2 (λ a b. cond (not (eqb a b)) (2 ^ 64 - 1) 0) xs ys)) % 2 ^ 64) 0 ≡ pointwise nat_eq xs ys
same-mask n xs ys few ex ey =
    let e : length xs ≡ length ys = ex ∙ sym ey in
    ap (λ ms. eqb (mask_l ms % 2 ^ 64) 0) (tops_compared w64 (λ a b. not (eqb a b)) xs ys)
    ∙ ap (λ m. eqb m 0) (mask_l-mod (zip2 (λ a b. not (eqb a b)) xs ys) 64 (omega (arith, length-zip2 (λ (a b : ℕ). not (eqb a b)) xs ys e, ex, few)))
    ∙ no-bit xs ys e

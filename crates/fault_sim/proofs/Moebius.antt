-- The coefficients of a polynomial over two signals, from its four values.
use Rattle.std.proofs.Common.{◌≡◌, ℕ, zero, suc, ◌-◌, ◌<◌, ◌≤◌, Bool, true, false, ◌&&◌, ◌||◌, List, [], ◌∷◌, ◌++◌, length, refl, ap, sym, subst, ◌∙◌, eqb, arith}
use Rattle.std.specs.Prelude.{IfSome, Option, Some, slice_get, slice_index}
use Rattle.ae_base.specs.Mask.{differ, has}
use Rattle.fault_sim.specs.Polynomials.{lane_of}
use Rattle.fault_sim.specs.declared.polynomial.Polynomial.{Polynomial}

differ-false : (a : Bool) → differ a false ≡ a
differ-false true = refl
differ-false false = refl

differ-back : (a b : Bool) → differ b (differ a b) ≡ a
differ-back true true = refl
differ-back true false = refl
differ-back false true = refl
differ-back false false = refl

-- a value for each lane, of which the polynomial is made
pub picked : (t : ℕ → Bool) (a b : Bool) →
    let first = differ (t 1) (t 0) in
    let second = differ (t 2) (t 0) in
    differ (differ (t 0) (differ (a && first) (b && second))) ((a && b) && differ (t 3) (differ (t 0) (differ first second))) ≡ t (lane_of a b)
picked t false false = differ-false _ ∙ differ-false (t 0)
picked t true false = differ-false _ ∙ ap (differ (t 0)) (differ-false _) ∙ differ-back (t 1) (t 0)
picked t false true = differ-false _ ∙ differ-back (t 2) (t 0)
picked t true true = differ-back (t 3) (differ (t 0) (differ (differ (t 1) (t 0)) (differ (t 2) (t 0))))

pub lane_of-first : (a b : Bool) → (eqb (lane_of a b) 1 || eqb (lane_of a b) 3) ≡ a
lane_of-first false false = refl
lane_of-first true false = refl
lane_of-first false true = refl
lane_of-first true true = refl

pub lane_of-second : (a b : Bool) → (eqb (lane_of a b) 2 || eqb (lane_of a b) 3) ≡ b
lane_of-second false false = refl
lane_of-second true false = refl
lane_of-second false true = refl
lane_of-second true true = refl

pub lane_of-few : (a b : Bool) → lane_of a b < 512
lane_of-few false false = omega arith
lane_of-few true false = omega arith
lane_of-few false true = omega arith
lane_of-few true true = omega arith

-- pins see their values in the lane of the two
pub pins-agree : (pins seen : List ℕ) (v : ℕ → Bool) (x y k : ℕ) → x ≡ slice_index pins 0 → y ≡ slice_index pins (length pins - 1) → length pins ≤ 2
    → ((l : ℕ) → has (slice_index seen 0) l ≡ (eqb l 1 || eqb l 3)) → ((l : ℕ) → has (slice_index seen 1) l ≡ (eqb l 2 || eqb l 3)) → k < length pins → v (slice_index pins k) ≡ has (slice_index seen k) (lane_of (v x) (v y))
pins-agree pins seen v x y zero first last few one two lt = ap v (sym first) ∙ sym (one (lane_of (v x) (v y)) ∙ lane_of-first (v x) (v y))
pins-agree pins seen v x y (suc zero) first last few one two lt =
    let e : length pins - 1 ≡ 1 = omega (arith, few, lt) in
    ap v (sym (last ∙ ap (slice_index pins) e)) ∙ sym (two (lane_of (v x) (v y)) ∙ lane_of-second (v x) (v y))
pins-agree pins seen v x y (suc (suc k)) first last few one two lt = absurd (omega (arith, few, lt))

-- ---- a list of polynomials that grows

some_is : {X : Type 0} (x y : X) → Some x ≡ Some y → x ≡ y
some_is x y e = cc

pub more-polynomials : (P : ℕ → Polynomial → Type 0) (ps : List (Option Polynomial)) (found : Option Polynomial) → ((j : ℕ) (p : Polynomial) → slice_get ps j ≡ Some (Some p) → P j p) → IfSome found (P (length ps))
    → (j : ℕ) (p : Polynomial) → slice_get (ps ++ found ∷ []) j ≡ Some (Some p) → P j p
more-polynomials P [] found each one zero p at = subst (λ f. IfSome f (P 0)) (some_is found (Some p) at) one
more-polynomials P [] found each one (suc j) p at = absurd (let s : ⊥ = cc in s)
more-polynomials P (f ∷ ps) found each one zero p at = each 0 p at
more-polynomials P (f ∷ ps) found each one (suc j) p at = more-polynomials (λ j. P (suc j)) ps found (λ j p. each (suc j) p) one j p at

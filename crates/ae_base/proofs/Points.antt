-- Points with one input set or changed: their members, and the literals of that input.
use Rattle.std.proofs.Common.{◌≡◌, ◌≢◌, ℕ, ◌<◌, Bool, true, false, not, ◌&&◌, ◌||◌, cond, inl, inr, refl, sym, ap, ◌∙◌, eqb, eq-eqb, ne_eqb, arith}
use Rattle.std.proofs.lemmas.Bool.{cases_eq}
use Rattle.ae_base.specs.Cube.{Signs}
use Rattle.ae_base.specs.Mask.{Set, differ, has, empty, with, first, inside}
use Rattle.ae_base.specs.Points.{put, flipped}
use Rattle.ae_base.specs.Terms.{literal}
use Rattle.ae_base.proofs.Sets.{same_set, has-empty, has-with, has-without, has-xor, inside-above, inside-from}
use Rattle.ae_base.proofs.Truth.{or-false}

-- ---- an input put at a value

pub put-same : (j : ℕ) (v : Bool) (x : Set) → has (put j v x) j ≡ v
put-same j true x = has-with x j j ∙ ap (λ b. b || has x j) (eq-eqb j j refl)
put-same j false x = has-without x j j ∙ ap (λ b. not b && has x j) (eq-eqb j j refl)

pub put-other : (j k : ℕ) (v : Bool) (x : Set) → (k ≢ j) → has (put j v x) k ≡ has x k
put-other j k true x n = has-with x j k ∙ ap (λ b. b || has x k) (ne_eqb k j n)
put-other j k false x n = has-without x j k ∙ ap (λ b. not b && has x k) (ne_eqb k j n)

pub put-has : (j : ℕ) (v : Bool) (x : Set) → has x j ≡ v → put j v x ≡ x
put-has j v x h = same_set _ _ (λ k. elim (cases_eq k j) [ inl e ↦ ap (has (put j v x)) e ∙ put-same j v x ∙ sym h ∙ ap (has x) (sym e) | inr n ↦ put-other j k v x n ])

pub inside-put : (n j : ℕ) (v : Bool) (x : Set) → inside x (first n) ≡ true → j < n → inside (put j v x) (first n) ≡ true
inside-put n j v x h l = inside-from n (put j v x) (λ k m. put-other j k v x (λ e. absurd (omega (arith, e))) ∙ inside-above n x h k m)

-- the other literals stay
pub literal-put : (p : Signs) (j k : ℕ) (v : Bool) (x : Set) → (k ≢ j) → literal p k (put j v x) ≡ literal p k x
literal-put p j k v x n = ap (λ b. cond (has p.plain k) b (not b)) (put-other j k v x n)

-- its literal is 0 where it is put against the polarity
pub literal-low : (p : Signs) (j : ℕ) (x : Set) → literal p j (put j (not (has p.plain j)) x) ≡ false
literal-low p j x = by_sign (has p.plain j) (put-same j (not (has p.plain j)) x)
  where
    by_sign : (b : Bool) → has (put j (not (has p.plain j)) x) j ≡ not b → cond b (has (put j (not (has p.plain j)) x) j) (not (has (put j (not (has p.plain j)) x) j)) ≡ false
    by_sign true e = e
    by_sign false e = ap not e

-- and 1 where it is put as the polarity has it
pub literal-high : (p : Signs) (j : ℕ) (x : Set) → literal p j (put j (has p.plain j) x) ≡ true
literal-high p j x = by_sign (has p.plain j) (put-same j (has p.plain j) x)
  where
    by_sign : (b : Bool) → has (put j (has p.plain j) x) j ≡ b → cond b (has (put j (has p.plain j) x) j) (not (has (put j (has p.plain j) x) j)) ≡ true
    by_sign true e = e
    by_sign false e = ap not e

-- ---- an input flipped

pub has-flipped : (j : ℕ) (x : Set) (k : ℕ) → has (flipped j x) k ≡ differ (has x k) (eqb k j)
has-flipped j x k = has-xor x (with empty j) k ∙ ap (differ (has x k)) (has-with empty j k ∙ ap (λ b. eqb k j || b) (has-empty k) ∙ or-false (eqb k j))

-- Laws of a set in two halves.
use Rattle.std.proofs.Common.{◌≡◌, ℕ, ◌+◌, ◌-◌, ◌*◌, ◌^◌, ◌<◌, ◌≤◌, Bool, false, inl, inr, sym, ap, ap₂, ◌∙◌, arith, refl, ◌%◌, pow_pos, pow-add}
use Rattle.std.specs.Prelude.{Some, None}
use Rattle.std.specs.Int.{bit_at, trailing_zeros, w128}
use Rattle.std.proofs.lemmas.Bool.{cases_lt}
use Rattle.std.proofs.lemmas.Nat.{one_shl}
use Rattle.std.proofs.lemmas.Nat.Bits.{bit_at_cat_low, bit_at_cat_high, bit_at-trailing_zeros}
use Rattle.ae_base.specs.Halves.{joined}
use Rattle.ae_base.specs.Mask.{Set, has, least}
use Rattle.ae_base.proofs.Members.{has_above, least-some, least-zero, digit_none, digit_one}
use Rattle.ae_base.proofs.Sets.{same_set}

pub has-low : (h l k : ℕ) → k < 128 → has (joined h l) k ≡ has l k
unfolding has
has-low h l k b = rw (bit_at_cat_low h 128 l k b) refl

pub has-high : (h l k : ℕ) → l < 2 ^ 128 → 128 ≤ k → has (joined h l) k ≡ has h (k - 128)
unfolding has
has-high h l k b c = rw (bit_at_cat_high h 128 l k b c) refl

pub joined_lt : (h l : ℕ) → h < 2 ^ 128 → l < 2 ^ 128 → joined h l < 2 ^ 256
joined_lt h l a b = omega arith

-- an operation by members acts on the halves
pub joined_op : (op : Set → Set → Set) (f : Bool → Bool → Bool) → ((s t : Set) (k : ℕ) → has (op s t) k ≡ f (has s k) (has t k))
    → (h l g m : ℕ) → l < 2 ^ 128 → m < 2 ^ 128 → op l m < 2 ^ 128 → joined (op h g) (op l m) ≡ op (joined h l) (joined g m)
joined_op op f law h l g m a b c = same_set _ _ (λ k.
    elim (cases_lt k 128) [
      | inl low ↦ has-low _ _ k low ∙ law l m k ∙ sym (law _ _ k ∙ ap₂ f (has-low h l k low) (has-low g m k low))
      | inr high ↦ has-high _ _ k c high ∙ law h g (k - 128) ∙ sym (law _ _ k ∙ ap₂ f (has-high h l k a high) (has-high g m k b high))
    ])

-- ---- one member, and the first

-- a power of two from 2 ^ 128 on
pub high_power : (j : ℕ) → 128 ≤ j → 2 ^ (j - 128) * 2 ^ 128 ≡ 2 ^ j
high_power j l = sym (pow-add 2 (j - 128) 128) ∙ ap (λ n. 2 ^ n) (omega arith)

pub one-low : (j : ℕ) → j < 128 → joined 0 (1 * 2 ^ j % 2 ^ 128) ≡ 2 ^ j
one-low j l = omega (arith, one_shl j 128 l)

pub one-high : (j : ℕ) → 128 ≤ j → j < 256 → joined (1 * 2 ^ (j - 128) % 2 ^ 128) 0 ≡ 2 ^ j
one-high j l h = ap (λ n. joined n 0) (one_shl (j - 128) 128 (omega arith)) ∙ omega (arith, high_power j l)

pub first-high : (n : ℕ) → 128 ≤ n → joined (2 ^ (n - 128) - 1) (2 ^ 128 - 1) ≡ 2 ^ n - 1
first-high n l = omega (arith, high_power n l, pow_pos (n - 128))

-- ---- the least member

-- the lowest digit 1 stands for the least member
pub least-low : (h l : ℕ) → l < 2 ^ 128 → (l ≡ 0 → ⊥) → least (joined h l) ≡ Some (trailing_zeros w128 l)
least-low h l small ne =
    let z = bit_at-trailing_zeros w128 l (omega (arith, ne)) small in
    least-some _ _ (λ k m. has-low h l k (omega (arith, m, z.0)) ∙ digit_none l k (z.2 k m)) (has-low h l _ z.0 ∙ digit_one l _ z.1)

pub least-high : (h l : ℕ) → h < 2 ^ 128 → l ≡ 0 → (h ≡ 0 → ⊥) → least (joined h l) ≡ Some (128 + trailing_zeros w128 h)
least-high h l small none ne =
    let z = bit_at-trailing_zeros w128 h (omega (arith, ne)) small in
    let back : 128 + trailing_zeros w128 h - 128 ≡ trailing_zeros w128 h = omega arith in
    least-some _ _ (λ k m. none_before k m (z.2 (k - 128)))
    (has-high h l _ (omega (arith, none)) (omega arith) ∙ ap (has h) back ∙ digit_one h _ z.1)
  where
    none_before : (k : ℕ) → k < 128 + trailing_zeros w128 h → (k - 128 < trailing_zeros w128 h → bit_at h (k - 128) ≡ 0) → has (joined h l) k ≡ false
    none_before k m digit =
        elim (cases_lt k 128) [
          | inl low ↦ has-low h l k low ∙ has_above l 0 k (omega (arith, none)) (omega arith)
          | inr high ↦ has-high h l k (omega (arith, none)) high ∙ digit_none h (k - 128) (digit (omega (arith, m, high)))
        ]

pub least-neither : (h l : ℕ) → h ≡ 0 → l ≡ 0 → least (joined h l) ≡ None
least-neither h l e f = least-zero (joined h l) (omega (arith, e, f))

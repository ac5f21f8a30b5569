-- The places of gates in an order.
use Rattle.std.proofs.Common.{◌≡◌, ℕ, suc, ◌+◌, ◌-◌, ◌<◌, Bool, true, false, not, cond, eqb, ltb, List, [], ◌∷◌, ◌++◌, length, get_or, take, Some, None, refl, sym, ap, ◌∙◌, arith, inl, inr}
use Rattle.std.specs.List.{list_any, position_or_len}
use Rattle.std.specs.Option.{option_or}
use Rattle.std.proofs.lemmas.Bool.{cases_lt, lt-ltb, le-ltb, cases_Bool, eqb-true, eqb-false}
use Rattle.std.proofs.lemmas.List.{take_more, length-take-le, length_push}
use Rattle.std.proofs.lemmas.List.Folds.{position_or_len_push}
use Rattle.std.proofs.lemmas.List.Sums.{prefix_len-le-length}
use Rattle.blif_read.specs.Build.{rank_in, gates_among}

ltb_suc : (a b : ℕ) → ltb (1 + a) (suc b) ≡ ltb a b
ltb_suc a b = elim (cases_lt a b) [
  | inl lt ↦ lt-ltb (1 + a) (suc b) (omega arith) ∙ sym (lt-ltb a b lt)
  | inr le ↦ le-ltb (1 + a) (suc b) (omega arith) ∙ sym (le-ltb a b le)
]

-- a place within the list is found exactly where some element passes
pub any_within : {X : Type 0} (p : X → Bool) (xs : List X) → ltb (position_or_len p xs) (length xs) ≡ list_any p xs
any_within p [] = le-ltb 0 0 (omega arith)
any_within p (x ∷ xs) = elim (cases_Bool (p x)) [
  | inl t ↦ rw t (lt-ltb 0 (suc (length xs)) (omega arith))
  | inr f ↦ rw f (ltb_suc (position_or_len p xs) (length xs) ∙ any_within p xs)
]

rank_push : (order : List ℕ) (h g : ℕ) → rank_in (order ++ h ∷ []) g ≡ option_or (rank_in order g) (cond (eqb h g) (Some (length order)) None)
rank_push order h g = at (eqb n (length order)) refl
  where
    n : ℕ
    n = position_or_len (λ x. eqb x g) order

    long : length (order ++ h ∷ []) ≡ length order + 1
    long = omega (arith, length_push order h)

    at : (b : Bool) → eqb n (length order) ≡ b → rank_in (order ++ h ∷ []) g ≡ option_or (rank_in order g) (cond (eqb h g) (Some (length order)) None)
    at true e = rw (position_or_len_push (λ x. eqb x g) order h, e, long, le-ltb n (length order) (omega (arith, eqb-true n (length order) e))) (last (eqb h g))
      where
        last : (b : Bool) → cond (ltb (length order + cond b 0 1) (length order + 1)) (Some (length order + cond b 0 1)) None ≡ cond b (Some (length order)) None
        last true = rw (lt-ltb (length order + 0) (length order + 1) (omega arith)) (ap (λ (k : ℕ). Some k) (omega arith))
        last false = rw (le-ltb (length order + 1) (length order + 1) (omega arith)) refl
    at false e =
        (let lt : n < length order = omega (arith, prefix_len-le-length (λ x. not (eqb x g)) order, eqb-false n (length order) e) in
        rw (position_or_len_push (λ x. eqb x g) order h, e, long, lt-ltb n (length order) lt, lt-ltb n (length order + 1) (omega (arith, lt))) refl)

pub rank_more : (order : List ℕ) (i g : ℕ) → i < length order → rank_in (take (i + 1) order) g ≡ option_or (rank_in (take i order) g) (cond (eqb (get_or order i 0) g) (Some i) None)
rank_more order i g lt =
    let size : length (take i order) ≡ i = length-take-le i order (omega arith) in
    ap (λ (xs : List ℕ). rank_in xs g) (take_more order i 0 lt) ∙ rank_push (take i order) (get_or order i 0) g ∙ ap (λ n. option_or (rank_in (take i order) g) (cond (eqb (get_or order i 0) g) (Some n) None)) size

pub gates_push : (n : ℕ) (ss : List ℕ) (s : ℕ) → gates_among n (ss ++ s ∷ []) ≡ gates_among n ss ++ gates_among n (s ∷ [])
gates_push n [] s = refl
gates_push n (x ∷ ss) s = elim (cases_Bool (ltb x n)) [
  | inl t ↦ rw t (gates_push n ss s)
  | inr f ↦ rw f (ap (λ (gs : List ℕ). (x - n) ∷ gs) (gates_push n ss s))
]

pub gates_more : (n : ℕ) (ss : List ℕ) (i : ℕ) → i < length ss → gates_among n (take (i + 1) ss) ≡ gates_among n (take i ss) ++ gates_among n (get_or ss i 0 ∷ [])
gates_more n ss i lt = ap (gates_among n) (take_more ss i 0 lt) ∙ gates_push n (take i ss) (get_or ss i 0)

-- The terms of a source's expansions are as many as their polarity costs.
use Rattle.std.proofs.Common.{◌≡◌, ◌+◌, ◌^◌, ◌∙◌, ℕ, suc, List, [], ◌∷◌, length, refl, sym, ap, ap₂, arith}
use Rattle.std.specs.Prelude.{Bool, Some, slice_get, count_by}
use Rattle.std.specs.List.{sum_by, range_with_len}
use Rattle.std.proofs.lemmas.List.Sums.{sum_by-cons}
use Rattle.ae_base.specs.Mask.{Set}
use Rattle.ae_base.specs.Cube.{Signs}
use Rattle.ae_base.specs.Source.{Source, on_set}
use Rattle.fn_store.specs.Davio.{IsExpansion, coefficient}
use Rattle.expansion.specs.Functions.{AreExpansions}
use Rattle.expansion.specs.Terms.{Terms, cost}
use Rattle.polarity.specs.Cost.{cost_of}

-- an expansion has as many terms as there are coefficients that are 1
abbrev pub Counts : Type 0
Counts = (p : Signs) (f : Set → Bool) (ts : List Set) → IsExpansion p f ts → length ts ≡ count_by (coefficient p f) (range_with_len 0 (2 ^ p.n))

-- a sum over a list is a sum over its places
by_place : {X : Type 0} (f : X → ℕ) (g : ℕ → ℕ) (xs : List X) (a : ℕ) → ((i : ℕ) (x : X) → slice_get xs i ≡ Some x → f x ≡ g (a + i)) → sum_by f xs ≡ sum_by g (range_with_len a (length xs))
by_place f g [] a h = refl
by_place f g (x ∷ xs) a h =
    let at : a + 0 ≡ a = omega arith in
    sum_by-cons f x xs
    ∙ ap₂ (λ m n. m + n) (h 0 x refl ∙ ap g at) (by_place f g xs (a + 1) (λ i y there. h (suc i) y there ∙ ap g (let e : a + suc i ≡ a + 1 + i = omega arith in e)))
    ∙ sym (sum_by-cons g a (range_with_len (a + 1) (length xs)))

pub cost-is : Counts → (s : Source) (p : Signs) (e : Terms) → AreExpansions s p e → cost e ≡ cost_of s p
unfolding cost_of
cost-is counts s p e are =
    let g = λ (o : ℕ). count_by (coefficient p (on_set s o)) (range_with_len 0 (2 ^ p.n)) in
    by_place length g e.outs 0 (λ o ts there. counts p (on_set s o) ts (are.each o ts there) ∙ ap g (let z : o ≡ 0 + o = omega arith in z))
    ∙ ap (λ n. sum_by g (range_with_len 0 n)) are.outputs

-- The lists of an expansion at the polarity that differs in one input.
use Rattle.std.proofs.Common.{◌≡◌, ◌<◌, ◌≤◌, ◌+◌, ◌^◌, ◌∙◌, ℕ, Bool, true, List, [], ◌∷◌, length, get_or, take, take_all, refl, sym, ap, subst, arith, inl, inr, ne_eqb}
use Rattle.std.proofs.lemmas.Bool.{cases_eq}
use Rattle.std.specs.Prelude.{All}
use Rattle.std.specs.List.{AllByRecursion, AllZip, sum_by}
use Rattle.std.proofs.lemmas.List.Elements.{All-from_recursion, recursion_from_All, AllZip-get_or, length_all_zip}
use Rattle.std.proofs.lemmas.List.Sums.{sum_by-cons}
use Rattle.std.proofs.lemmas.Option.{get_or_from_slice_get, slice_get-get_or, slice_get_within}
use Rattle.ae_base.specs.Mask.{Set, differ, has, first, inside}
use Rattle.ae_base.specs.Cube.{Signs, IsSigns}
use Rattle.ae_base.specs.Source.{on_set}
use Rattle.ae_base.specs.Terms.{IsInOrder, value}
use Rattle.ae_base.proofs.Truth.{differ-false}
use Rattle.ae_base.proofs.Points.{has-flipped}
use Rattle.fn_store.specs.Davio.{IsExpansion}
use Rattle.expansion.specs.Flipped.{flipped_polarity}
use Rattle.expansion.specs.Terms.{Terms, cost}
use Rattle.expansion.specs.Kept.{IsTerms, KeepsFunctions}
use Rattle.expansion.proofs.Flips.{Laws}

flipped_signs : (p : Signs) (j : ℕ) → IsSigns p → j < p.n → IsSigns (flipped_polarity p j)
flipped_signs p j (few, below) input = (
  few,
  λ k m.
      elim (cases_eq k j) [
        | inl e ↦ omega (arith, e, input)
        | inr ne ↦ below k (sym (has-flipped j p.plain k ∙ ap (differ (has p.plain k)) (ne_eqb k j ne) ∙ differ-false (has p.plain k)) ∙ m)
      ],
)

-- one list at the two polarities
pub record IsFlip (j : ℕ) (ts us : List Set) : Type 0 where
  pub expansion : (p : Signs) (f : Set → Bool) → IsExpansion p f ts → IsExpansion (flipped_polarity p j) f us
  pub count : length us ≤ length ts + length ts

flips_cost : (j : ℕ) (tss uss : List (List Set)) → AllZip (IsFlip j) tss uss → sum_by length uss ≤ sum_by length tss + sum_by length tss
flips_cost j [] [] h = omega arith
flips_cost j [] (us ∷ uss) h = absurd h
flips_cost j (ts ∷ tss) [] h = absurd h
flips_cost j (ts ∷ tss) (us ∷ uss) (h, hs) = omega (arith, h.count, flips_cost j tss uss hs, sum_by-cons length us uss, sum_by-cons length ts tss)

pub flipped_keeps : (e : Terms) (j : ℕ) (outs : List (List Set)) → AllZip (IsFlip j) e.outs outs → KeepsFunctions e (record { polarity = flipped_polarity e.polarity j; outs = outs })
flipped_keeps e j outs flips s are = record {
  inputs = are.inputs;
  polarity = refl;
  outputs = sym (length_all_zip (IsFlip j) e.outs outs flips) ∙ are.outputs;
  each = λ o us there.
      let within : o < length e.outs = omega (arith, slice_get_within outs o us there, length_all_zip (IsFlip j) e.outs outs flips) in
      let flip : IsFlip j (get_or e.outs o []) (get_or outs o []) = AllZip-get_or (IsFlip j) e.outs outs o [] [] flips within in
      rw (sym (get_or_from_slice_get outs o us [] there)) (flip.expansion e.polarity (on_set s o) (are.each o (get_or e.outs o []) (slice_get-get_or e.outs o [] within)));
}

pub flipped_terms : (laws : Laws) (e : Terms) (j : ℕ) (outs : List (List Set)) → IsTerms e → j < e.polarity.n → cost e < 2 ^ 61 → AllZip (IsFlip j) e.outs outs
    → IsTerms (record { polarity = flipped_polarity e.polarity j; outs = outs })
flipped_terms laws e j outs is input cheap flips = record {
  signs = flipped_signs e.polarity j is.signs input;
  below = λ k d l. laws.below q _ _ (own k d l);
  order = λ k d l. (own k d l).order;
  few_lists = omega (arith, length_all_zip (IsFlip j) e.outs outs flips, is.few_lists);
  few_terms = omega (arith, flips_cost j e.outs outs flips, cheap);
}
  where
    q : Signs
    q = flipped_polarity e.polarity j

    own : (k : ℕ) (d : List Set) → k < length outs → IsExpansion q (value e.polarity (get_or e.outs k d)) (get_or outs k d)
    own k d l =
        let within : k < length e.outs = omega (arith, l, length_all_zip (IsFlip j) e.outs outs flips) in
        (AllZip-get_or (IsFlip j) e.outs outs k d d flips within).expansion e.polarity _ (laws.only e.polarity _ _ (is.order k d within) (is.below k d within) (λ x point. refl))

pub all_flips : (j k : ℕ) (tss uss lists : List (List Set)) → lists ≡ tss → length lists ≤ k → AllZip (IsFlip j) (take k tss) uss → AllZip (IsFlip j) tss uss
all_flips j k tss uss lists is all flips = subst (λ front. AllZip (IsFlip j) front uss) (take_all k tss (omega (arith, all, ap length is))) flips

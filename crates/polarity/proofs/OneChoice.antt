-- The first cheapest polarity of a list is one, and so is what is settled from it.
use Rattle.std.proofs.Common.{◌≡◌, ◌<◌, ◌≤◌, List, [], ◌∷◌, ◌++◌, sym, ap, ◌∙◌, subst, arith}
use Rattle.std.specs.List.{AllByRecursion}
use Rattle.std.proofs.lemmas.List.Elements.{recursion_from_All}
use Rattle.ae_base.proofs.Distinct.{each_front}
use Rattle.ae_base.specs.Cube.{Signs}
use Rattle.ae_base.specs.Source.{Source}
use Rattle.polarity.specs.Cost.{cost_of}
use Rattle.polarity.specs.Search.{Advised, IsChosen, IsFirstCheapest, candidates, new_entries}
use Rattle.polarity.specs.Settling.{settling}

module _ (s : Source) where
  abbrev Dearer : Signs → List Signs → Type 0
  Dearer p qs = AllByRecursion (λ q. cost_of s p < cost_of s q) qs

  abbrev NoCheaper : Signs → List Signs → Type 0
  NoCheaper p qs = AllByRecursion (λ q. cost_of s p ≤ cost_of s q) qs

  -- of two first cheapest ones neither stands before the other
  not_before : (p q y : Signs) (xb ys yb : List Signs) → p ∷ xb ≡ y ∷ (ys ++ q ∷ yb) → NoCheaper p xb → cost_of s q < cost_of s y → ⊥
  not_before p q y xb ys yb same none dearer =
      let head : p ≡ y = cc in
      let tail : xb ≡ ys ++ q ∷ yb = cc in
      let no = (each_front (λ r. cost_of s p ≤ cost_of s r) ys (q ∷ yb) (subst (NoCheaper p) tail none)).1.0 in
      omega (arith, no, dearer, ap (cost_of s) head)

  first_once : (xs ys xb yb : List Signs) (p q : Signs) → xs ++ p ∷ xb ≡ ys ++ q ∷ yb → Dearer p xs → NoCheaper p xb → Dearer q ys → NoCheaper q yb → p ≡ q
  first_once [] [] xb yb p q same dp np dq nq = cc same
  first_once [] (y ∷ ys) xb yb p q same dp np dq nq = absurd (not_before p q y xb ys yb same np dq.0)
  first_once (x ∷ xs) [] xb yb p q same dp np dq nq = absurd (not_before q p x yb xs xb (sym same) nq dp.0)
  first_once (x ∷ xs) (y ∷ ys) xb yb p q same dp np dq nq = first_once xs ys xb yb p q (cc same) dp.1 np dq.1 nq

  one_cheapest : (ps : List Signs) (p q : Signs) → IsFirstCheapest s ps p → IsFirstCheapest s ps q → p ≡ q
  one_cheapest ps p q a b =
      first_once a.before b.before a.after b.after p q (sym a.is ∙ b.is)
      (recursion_from_All _ a.before a.dearer) (recursion_from_All _ a.after a.no_cheaper) (recursion_from_All _ b.before b.dearer) (recursion_from_All _ b.after b.no_cheaper)

  pub one_chosen : (start p q : Signs) (before after : List Advised) → IsChosen s start before after p → IsChosen s start before after q → p ≡ q
  one_chosen start p q before after a b =
      a.settling ∙ ap (settling s) (one_cheapest (start ∷ candidates (new_entries before after)) a.cheapest b.cheapest a.first b.first) ∙ sym b.settling

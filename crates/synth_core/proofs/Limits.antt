-- A source has one list of expansions, and its running sum passes a limit first at one output at most.
use Rattle.std.proofs.Common.{◌≡◌, ◌<◌, ◌≤◌, ◌∷◌, ℕ, suc, Bool, List, [], length, inl, inr, refl, sym, ap, ap₂, ◌∙◌, subst, arith, take}
use Rattle.std.specs.Prelude.{Some, slice_get}
use Rattle.std.specs.List.{sum_by}
use Rattle.std.proofs.lemmas.Bool.{cases_eq, cases_lt}
use Rattle.std.proofs.lemmas.List.{take-take}
use Rattle.std.proofs.lemmas.List.Sums.{sum_by-take-le}
use Rattle.ae_base.specs.Mask.{Set}
use Rattle.ae_base.specs.Cube.{Signs}
use Rattle.ae_base.specs.Source.{Source, on_set}
use Rattle.fn_store.specs.Davio.{IsExpansion}
use Rattle.expansion.specs.Terms.{Terms, PassesAt}
use Rattle.expansion.specs.Functions.{AreExpansions}
use Rattle.synth_core.specs.Asked.{IsExpanded, IsWithin, HasTooMany, polarity_of, terms_limit}
use Rattle.synth_core.specs.declared.settings.Settings.{Settings}

-- ---- one source, one list of expansions

-- an equation between records or pairs, whose type is given
abbrev pub same : {X : Type 0} → X → X → Type 0
same x y = x ≡ y

-- lists with the same elements
pub same_all : {X : Type 0} (xs ys : List X) → length xs ≡ length ys → ((i : ℕ) (a b : X) → slice_get xs i ≡ Some a → slice_get ys i ≡ Some b → a ≡ b) → xs ≡ ys
same_all [] [] e h = refl
same_all [] (y ∷ ys) e h = absurd (omega (arith, e))
same_all (x ∷ xs) [] e h = absurd (omega (arith, e))
same_all (x ∷ xs) (y ∷ ys) e h =
    let tails : xs ≡ ys = same_all xs ys (omega (arith, e)) (λ i a b p q. h (suc i) a b p q) in
    let heads : x ≡ y = h 0 x y refl refl in
    ap₂ (λ z zs. z ∷ zs) heads tails

module _ (one : (p : Signs) (f : Set → Bool) (ts us : List Set) → IsExpansion p f ts → IsExpansion p f us → ts ≡ us) where
  pub one_terms : (s : Source) (p : Signs) (e d : Terms) → AreExpansions s p e → AreExpansions s p d → e ≡ d
  one_terms s p e d a b =
      let outs : e.outs ≡ d.outs = same_all e.outs d.outs (a.outputs ∙ sym b.outputs) (λ o ts us x y. one p (on_set s o) ts us (a.each o ts x) (b.each o us y)) in
      let signs : e.polarity ≡ d.polarity = a.polarity ∙ sym b.polarity in
      ap₂ (λ x y. record { polarity = x; outs = y }) signs outs

  module _ (settings : Settings) (bytes : List ℕ) where
    pub one_source : (s r : Source) (e d : Terms) → IsExpanded settings bytes s e → IsExpanded settings bytes r d → s ≡ r
    one_source s r e d a b = let both = sym a.says ∙ b.says in cc both

    pub one_expanded : (s r : Source) (e d : Terms) → IsExpanded settings bytes s e → IsExpanded settings bytes r d → e ≡ d
    one_expanded s r e d a b =
        one_terms r (polarity_of settings.polarity (length r.inputs)) e d
        (subst (λ q. AreExpansions q (polarity_of settings.polarity (length q.inputs)) e) (one_source s r e d a b) a.expansions) b.expansions

-- ---- the limit

-- a list within the limit passes it nowhere
within_not : (limit place : ℕ) (lists : List (List Set)) → sum_by length lists ≤ limit → PassesAt limit lists place → ⊥
within_not limit place lists few passes = absurd (omega (arith, few, passes.past, sum_by-take-le length lists (suc place)))

not_before : (limit a b : ℕ) (lists : List (List Set)) → PassesAt limit lists a → PassesAt limit lists b → a < b → ⊥
not_before limit a b lists earlier later l =
    let front : take (suc a) (take b lists) ≡ take (suc a) lists = take-take (suc a) b lists (omega arith) in
    absurd (omega (arith, earlier.past, later.before, sum_by-take-le length (take b lists) (suc a), ap (λ xs. sum_by length xs) front))

-- a limit is passed first at one place alone
pub passes_once : (limit a b : ℕ) (lists : List (List Set)) → PassesAt limit lists a → PassesAt limit lists b → a ≡ b
passes_once limit a b lists first second =
    elim (cases_eq a b) [
      | inl same ↦ same
      | inr other ↦ elim (cases_lt a b) [
        | inl l ↦ absurd (not_before limit a b lists first second l)
        | inr l ↦ absurd (not_before limit b a lists second first (omega (arith, l, other)))
      ]
    ]

pub apart : ((p : Signs) (f : Set → Bool) (ts us : List Set) → IsExpansion p f ts → IsExpansion p f us → ts ≡ us)
    → (settings : Settings) (bytes : List ℕ) (output : ℕ) → IsWithin settings bytes → HasTooMany settings bytes output → ⊥
apart one settings bytes output within many =
    let same : many.expansions ≡ within.expansions = one_expanded one settings bytes many.source within.source many.expansions within.expansions many.expanded within.expanded in
    within_not (terms_limit settings.form) output within.expansions.outs within.within (subst (λ e. PassesAt (terms_limit settings.form) e.outs output) same many.passes)

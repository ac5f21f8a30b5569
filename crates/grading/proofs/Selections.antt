-- The elements of a list of which something holds, and the others.
use Rattle.std.proofs.Common.{◌≡◌, ◌+◌, Bool, true, false, List, [], ◌∷◌, length, inl, inr, refl, sym, ap, subst, arith}
use Rattle.std.specs.Prelude.{Contains, filter}
use Rattle.std.proofs.lemmas.Bool.{cases_Bool}
use Rattle.ae_base.proofs.Contained.{Contains-cases, Contains-first, Contains-later, nothing_in_none}
use Rattle.test_gen.specs.Selection.{IsSelection}
use Rattle.test_gen.specs.Selection.IsSelection.{none, taken, left}

-- those that pass a test which decides it
pub selected_by : {X : Type 0} (P : X → Type 0) (p : X → Bool) (xs : List X) → ((x : X) → p x ≡ true → P x) → ((x : X) → p x ≡ false → ¬ P x) → IsSelection P xs (filter p xs)
selected_by P p [] sure never = none
selected_by P p (x ∷ xs) sure never =
    elim (cases_Bool (p x)) [
      | inl holds ↦ rw holds (taken (sure x holds) (selected_by P p xs sure never))
      | inr fails ↦ rw fails (left (never x fails) (selected_by P p xs sure never))
    ]

-- they are one list
pub selected_once : {X : Type 0} (P : X → Type 0) (xs a b : List X) → IsSelection P xs a → IsSelection P xs b → a ≡ b
selected_once P xs a b none none = refl
selected_once P xs a b (taken {x = x} h rest) (taken also more) = ap (λ l. x ∷ l) (selected_once P _ _ _ rest more)
selected_once P xs a b (left never rest) (left also more) = selected_once P _ _ _ rest more
selected_once P xs a b (taken h rest) (left never more) = absurd (never h)
selected_once P xs a b (left never rest) (taken h more) = absurd (never h)

pub selected_in : {X : Type 0} (P : X → Type 0) (xs ys : List X) (x : X) → IsSelection P xs ys → Contains xs x → P x → Contains ys x
selected_in P xs ys x none there holds = absurd (nothing_in_none x there)
selected_in P xs ys x (taken {x = y} {xs = zs} {ys = ws} h rest) there holds =
    elim (Contains-cases y zs x there) [
      | inl here ↦ subst (Contains (y ∷ ws)) here (Contains-first y ws)
      | inr later ↦ Contains-later y ws x (selected_in P zs ws x rest later holds)
    ]
selected_in P xs ys x (left {x = y} {xs = zs} never rest) there holds =
    elim (Contains-cases y zs x there) [
      | inl here ↦ absurd (never (subst P (sym here) holds))
      | inr later ↦ selected_in P zs ys x rest later holds
    ]

-- where there is none, it holds of never element
pub none_selected : {X : Type 0} (P : X → Type 0) (xs ys : List X) (x : X) → IsSelection P xs ys → ys ≡ [] → Contains xs x → ¬ P x
none_selected P xs ys x is empty there holds = nothing_in_none x (subst (λ l. Contains l x) empty (selected_in P xs ys x is there holds))

-- there is none where it holds of never element
pub selected_none : {X : Type 0} (P : X → Type 0) (xs ys : List X) → ((x : X) → ¬ P x) → IsSelection P xs ys → ys ≡ []
selected_none P xs ys nowhere none = refl
selected_none P xs ys nowhere (taken {x = x} h rest) = absurd (nowhere x h)
selected_none P xs ys nowhere (left never rest) = selected_none P _ _ nowhere rest

-- those of which it holds and the others are all
pub selected_all : {X : Type 0} (P : X → Type 0) (xs a b : List X) → IsSelection P xs a → IsSelection (λ x. ¬ P x) xs b → length a + length b ≡ length xs
selected_all P xs a b none none = refl
selected_all P xs a b (taken h rest) (left never more) = let r = selected_all P _ _ _ rest more in omega (arith, r)
selected_all P xs a b (left never rest) (taken h more) = let r = selected_all P _ _ _ rest more in omega (arith, r)
selected_all P xs a b (taken h rest) (taken never more) = absurd (never h)
selected_all P xs a b (left never rest) (left not_no more) = absurd (not_no never)

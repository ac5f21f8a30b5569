-- Lines that begin with a word.
use Rattle.std.proofs.Common.{◌≡◌, ℕ, Bool, true, false, not, cond, List, [], ◌∷◌, ◌++◌, get_or, map, drop, refl, sym, ap, subst, ◌∙◌, inl, inr}
use Rattle.std.specs.Prelude.{filter}
use Rattle.std.specs.List.{list_all, AllByRecursion}
use Rattle.std.specs.Str.{bytes_eq}
use Rattle.std.proofs.lemmas.Bool.{and_parts, cases_Bool, false≢true}
use Rattle.std.proofs.lemmas.List.{map-append}
use Rattle.std.proofs.lemmas.List.Elements.{filter-append}
use Rattle.std.proofs.lemmas.Slice.Eq.{bytes_eq-Decides}
use Rattle.ae_base.proofs.Distinct.{each_weaker}

-- the line begins with this word
abbrev begins : List ℕ → List (List ℕ) → Bool
begins h line = bytes_eq (get_or line 0 []) h

at_head : (P : List (List ℕ) → Type 0) (h : List ℕ) → not (bytes_eq [] h) ≡ true → ((ws : List (List ℕ)) → P (h ∷ ws)) → (line : List (List ℕ)) → begins h line ≡ true → P line
at_head P h some each [] e = absurd (let none = sym (ap not e) ∙ some in false≢true none)
at_head P h some each (w ∷ ws) e = subst (λ (x : List ℕ). P (x ∷ ws)) (sym ((bytes_eq-Decides w h).0 e)) (each ws)

-- what holds of each line that begins with one of these words, and of each line that begins with none, holds of every line
pub by_heads : (P : List (List ℕ) → Type 0) (hs : List (List ℕ)) → list_all (λ h. not (bytes_eq [] h)) hs ≡ true → AllByRecursion (λ h. (ws : List (List ℕ)) → P (h ∷ ws)) hs
    → ((line : List (List ℕ)) → AllByRecursion (λ h. begins h line ≡ false) hs → P line) → (line : List (List ℕ)) → P line
by_heads P [] some each other line = other line tt
by_heads P (h ∷ hs) some each other line =
    let parts = and_parts (not (bytes_eq [] h)) (list_all (λ h. not (bytes_eq [] h)) hs) some in
    elim (cases_Bool (begins h line)) [
      | inl e ↦ at_head P h parts.0 each.0 line e
      | inr f ↦ by_heads (λ l. begins h l ≡ false → P l) hs parts.1 (each_weaker (λ h. (ws : List (List ℕ)) → P (h ∷ ws)) (λ x. (ws : List (List ℕ)) → begins h (x ∷ ws) ≡ false → P (x ∷ ws)) (λ x k ws no. k ws) hs each.1) (λ l none no. other l (no, none)) line f
    ]

-- the words after a first word, with one more line
pub after_more : (h : List ℕ) (before : List (List (List ℕ))) (line : List (List ℕ))
    → map (drop 1) (filter (begins h) (before ++ line ∷ [])) ≡ map (drop 1) (filter (begins h) before) ++ cond (begins h line) (drop 1 line ∷ []) []
after_more h before line =
    ap (map (drop 1)) (filter-append (begins h) before (line ∷ [])) ∙ map-append (drop 1) (filter (begins h) before) (filter (begins h) (line ∷ []))
    ∙ ap (λ (ls : List (List (List ℕ))). map (drop 1) (filter (begins h) before) ++ ls) (alone (begins h line))
  where
    alone : (b : Bool) → map (drop 1) (cond b (line ∷ []) []) ≡ cond b (drop 1 line ∷ []) []
    alone true = refl
    alone false = refl

-- Where two cubes have a common point.
use Rattle.std.proofs.Common.{◌≡◌, ℕ, ◌<◌, Bool, true, false, ◌&&◌, inl, inr, refl, sym, ◌∙◌, eqb, eq-eqb, eqb-true, lt-ltb}
use Rattle.std.proofs.lemmas.Bool.{and_from, and_parts, false≢true, or_cases, or_from, or_left, or_right}
use Rattle.ae_base.specs.Mask.{Set, has, len, both, either, first}
use Rattle.ae_base.specs.Cube.{Product, IsProduct, holds, meet}
use Rattle.ae_base.specs.Terms.{IsPoint}
use Rattle.ae_base.proofs.Sets.{has-both, has-either, has-inside, has-first}
use Rattle.ae_base.proofs.Members.{len-zero, len-none}
use Rattle.ae_base.proofs.Products.{holds-has, has-holds}
use Rattle.ae_base.proofs.Truth.{no_and, not_both}

none_both : (a b : Bool) → (a ≡ true → b ≡ true → ⊥) → (a && b) ≡ false
none_both true true h = absurd (h refl refl)
none_both true false h = refl
none_both false b h = refl

-- an input with a complemented literal has no plain one
not_plain : (c : Product) (j : ℕ) → IsProduct c → has c.neg j ≡ true → has c.pos j ≡ false
not_plain c j p h = not_both _ _ (p j) h

-- two sets with no common member
apart : (s t : Set) → eqb (len (both s t)) 0 ≡ true → (j : ℕ) → has s j ≡ true → has t j ≡ false
apart s t h j = no_and _ _ (sym (has-both s t j) ∙ len-zero (both s t) (eqb-true _ _ h) j)

-- the point at which the inputs with a plain literal in one of the two are 1, and no others
pub common : Product → Product → Set
common c d = either c.pos d.pos

pub left_holds : (c d : Product) → IsProduct c → meet c d ≡ true → holds c (common c d) ≡ true
unfolding meet common
left_holds c d p h =
    has-holds c (common c d) (
      λ j e. has-either c.pos d.pos j ∙ or_left _ _ e,
      λ j e. has-either c.pos d.pos j ∙ or_from _ _ (not_plain c j p e) (apart c.neg d.pos (and_parts _ _ h).1 j e),
    )

pub right_holds : (c d : Product) → IsProduct d → meet c d ≡ true → holds d (common c d) ≡ true
unfolding meet common
right_holds c d p h =
    has-holds d (common c d) (
      λ j e. has-either c.pos d.pos j ∙ or_right _ _ e,
      λ j e. has-either c.pos d.pos j ∙ or_from _ _ (not_both _ _ (apart c.pos d.neg (and_parts _ _ h).0 j) e) (not_plain d j p e),
    )

pub common_is_point : (n : ℕ) (c d : Product) → ((j : ℕ) → has c.pos j ≡ true → j < n) → ((j : ℕ) → has d.pos j ≡ true → j < n) → IsPoint n (common c d)
unfolding common
common_is_point n c d hc hd =
    has-inside (common c d) (first n) (λ j e.
    has-first n j
    ∙ lt-ltb j n (elim (or_cases (has c.pos j) (has d.pos j) (sym (has-either c.pos d.pos j) ∙ e)) [ inl a ↦ hc j a | inr b ↦ hd j b ]))

pub meets : (c d : Product) (x : Set) → holds c x ≡ true → holds d x ≡ true → meet c d ≡ true
unfolding meet
meets c d x hc hd =
    let left = holds-has c x hc in
    let right = holds-has d x hd in
    and_from _ _
    (eq-eqb _ _ (len-none (both c.pos d.neg) (λ j. has-both c.pos d.neg j ∙ none_both _ _ (λ a b. false≢true (sym (right.1 j b) ∙ left.0 j a)))))
    (eq-eqb _ _ (len-none (both c.neg d.pos) (λ j. has-both c.neg d.pos j ∙ none_both _ _ (λ a b. false≢true (sym (left.1 j a) ∙ right.0 j b)))))

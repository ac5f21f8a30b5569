-- What it means for a product to hold at a point.
use Rattle.std.proofs.Common.{◌≡◌, Bool, true, false, ◌&&◌, refl, sym, ◌∙◌, eqb-true, eq-eqb}
use Rattle.std.proofs.lemmas.Bool.{and_from, and_parts}
use Rattle.ae_base.specs.Mask.{Set, both, inside}
use Rattle.ae_base.specs.Cube.{Product, EachHolds, holds}
use Rattle.ae_base.proofs.Sets.{inside-has, has-inside, has-both}
use Rattle.ae_base.proofs.Members.{len-zero, len-none}
use Rattle.ae_base.proofs.Truth.{no_and}

and_none : (a b : Bool) → (a ≡ true → b ≡ false) → (a && b) ≡ false
and_none true b h = h refl
and_none false b h = refl

pub holds-has : (c : Product) (x : Set) → holds c x ≡ true → EachHolds c x
unfolding holds
holds-has c x h =
    let parts = and_parts (inside c.pos x) _ h in
    (inside-has c.pos x parts.0, λ j e. no_and _ _ (sym (has-both c.neg x j) ∙ len-zero (both c.neg x) (eqb-true _ _ parts.1) j) e)

pub has-holds : (c : Product) (x : Set) → EachHolds c x → holds c x ≡ true
unfolding holds
has-holds c x h = and_from (inside c.pos x) _ (has-inside c.pos x h.0) (eq-eqb _ _ (len-none (both c.neg x) (λ j. has-both c.neg x j ∙ and_none _ _ (h.1 j))))

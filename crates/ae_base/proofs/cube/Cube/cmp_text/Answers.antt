use Rattle.std.proofs.Common.{◌∙◌, ap, ap₂, sym, subst, nat_cmp}
use Rattle.ae_base.specs.Mask as set
use Rattle.ae_base.specs.Cube.{IsProduct}
use Rattle.ae_base.proofs.Members.{least-empty}
use Rattle.ae_base.proofs.Texts.{apart_at, cmp_text-same, cmp_text-apart}
use Rattle.ae_base.proofs.cube.Cube.cmp_text.Goals as goal

pub returns-in-None : goal.returns-in-None
returns-in-None c =
    let e = c.or-apart.ensures ∙ ap₂ set.either c.xor.ensures c.xor-2.ensures ∙ ap₂ apart_at c.self.view_is c.other.view_is in
    sym (cmp_text-same _ _ (least-empty _ (sym (ap set.least e) ∙ sym c.least.ensures.least ∙ c.in-None.is)))

pub returns-in-Some : goal.returns-in-Some
returns-in-Some c =
    let e = c.or-apart.ensures ∙ ap₂ set.either c.xor.ensures c.xor-2.ensures ∙ ap₂ apart_at c.self.view_is c.other.view_is in
    let l = sym (ap set.least e) ∙ sym c.least.ensures.least ∙ c.in-Some.is in
    c.cmp.ensures ∙ ap₂ nat_cmp c.literal_text.ensures c.literal_text-in-Some.ensures
    ∙ sym (cmp_text-apart _ _ c.in-Some.j (subst IsProduct c.self.view_is c.self.invariant) (subst IsProduct c.other.view_is c.other.invariant) c.in-Some.ensures.below l)

use Rattle.std.proofs.Common.{◌≡◌, ℕ, ◌<◌, ◌≤◌, ltb, Bool, true, ◌&&◌, ap, sym, ◌∙◌, arith}
use Rattle.std.proofs.lemmas.Bool.Decides.{nat_tests}
use Rattle.ae_base.proofs.Sets.{has-where_below}
use Rattle.ae_base.specs.Mask.{Set, has, where_below}
use Rattle.polarity.proofs.walker.draw_polarity.Goals as goal

below : (n m : ℕ) (test : ℕ → Bool) (s : Set) (j : ℕ) → s ≡ where_below n test → has s j ≡ true → n ≤ m → j < m
below n m test s j is h le =
    let both : (ltb j n && test j) ≡ true = sym (has-where_below n test j) ∙ ap (λ x. has x j) (sym is) ∙ h in
    grind (arith, nat_tests)

pub invariant_of-result : goal.invariant_of-result
invariant_of-result c = (omega arith, λ j h. below c.loop-j.j c.args.n _ _ j c.loop-j.invariant.plain h (omega arith))

-- Sets that are cut to the numbers below n.
use Rattle.std.proofs.Common.{◌≡◌, ℕ, ◌≤◌, true, sym, ◌∙◌}
use Rattle.std.proofs.lemmas.Bool.{and_parts}
use Rattle.ae_base.specs.Mask.{Set, has, both, inside, first}
use Rattle.ae_base.specs.Cube.{IsSigns}
use Rattle.ae_base.specs.Terms.{IsPoint}
use Rattle.ae_base.proofs.Sets.{has-both, has-inside, inside-below}
use Rattle.ae_base.specs.declared.limits.TheConstants.{NET_LINES}

inside_both : (s t : Set) → inside (both s t) t ≡ true
inside_both s t = has-inside (both s t) t (λ k m. (and_parts _ _ (sym (has-both s t k) ∙ m)).1)

pub point : (n : ℕ) (s f x : Set) → f ≡ first n → x ≡ both s f → IsPoint n x
point n s f x f_is x_is = rw (x_is, f_is) (inside_both s (first n))

pub signs : (n : ℕ) (s f plain : Set) → n ≤ NET_LINES → f ≡ first n → plain ≡ both s f → IsSigns (record { n = n; plain = plain })
signs n s f plain few f_is plain_is = (few, λ j h. inside-below n plain (point n s f plain f_is plain_is) j h)

use Rattle.std.proofs.Common.{◌≡◌, ◌≢◌, Bool, true, false, not, refl, sym, ap, ◌∙◌, eqb, eqb-true, eq-eqb}
use Rattle.std.specs.Prelude.{Some, None}
use Rattle.std.proofs.lemmas.Bool.{true≢false}
use Rattle.ae_net.specs.Out.{out}
use Rattle.test_gen.proofs.laws.truth_law.Goals as goal

pub returns : goal.returns
returns c n fault x valid = (
  λ d. by_test (eqb (out n (Some fault) x) (out n None x)) refl ((c.detects_law.ensures n fault x valid).0 d),
  λ h. (c.detects_law.ensures n fault x valid).1 (λ same. true≢false (sym h ∙ ap not (eq-eqb _ _ same))),
)
  where
    by_test : (b : Bool) → eqb (out n (Some fault) x) (out n None x) ≡ b → (out n (Some fault) x ≢ out n None x) → not b ≡ true
    by_test true e ne = absurd (ne (eqb-true _ _ e))
    by_test false e ne = refl

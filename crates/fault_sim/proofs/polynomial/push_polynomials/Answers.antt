use Rattle.std.proofs.Common.{◌≡◌, ◌≤◌, ℕ, ◌∷◌, [], length, length-append, ap, sym, subst, ◌∙◌, arith}
use Rattle.std.specs.Prelude.{IfSome, Some, slice_get}
use Rattle.ae_net.specs.Network.{gate_at}
use Rattle.fault_sim.specs.Polynomials.{IsPolynomial}
use Rattle.fault_sim.proofs.Moebius.{more-polynomials}
use Rattle.fault_sim.proofs.polynomial.push_polynomials.Goals as goal

pub loop-i-preserved : goal.loop-i-preserved
loop-i-preserved c =
    let n = c.args.net.now in
    let found = c.polynomial_of-found.result in
    let here : IfSome found (IsPolynomial (gate_at n (length c.loop-i.polynomials.items))) = subst (λ i. IfSome found (IsPolynomial (gate_at n i))) (sym c.loop-i.invariant.all) (subst (λ g. IfSome found (IsPolynomial g)) c.gate.ensures.gate c.polynomial_of-found.ensures.polynomial) in record {
      seen = omega (arith, c.polynomial_of-found.ensures.len, c.loop-i.invariant.seen);
      all = omega (arith, ap length c.in_ok-push.ensures.items, length-append c.loop-i.polynomials.items (found ∷ []), c.loop-i.invariant.all);
      each = λ j p at. more-polynomials (λ j p. IsPolynomial (gate_at n j) p) c.loop-i.polynomials.items found c.loop-i.invariant.each here j p (sym (ap (λ ps. slice_get ps j) c.in_ok-push.ensures.items) ∙ at);
    }

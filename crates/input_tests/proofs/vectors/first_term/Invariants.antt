use Rattle.std.proofs.Common.{◌≡◌, drop}
use Rattle.std.specs.List.{find, flat_map}
use Rattle.ae_base.specs.Mask.{has}
use Rattle.input_tests.specs.Inputs.{first_term}
use Rattle.input_tests.proofs.vectors.first_term.Given as goal

abbrev pub invariant-loop-terms : goal.invariant-loop-terms
invariant-loop-terms l = find (λ t. has t l.j) (flat_map (λ terms. terms) (drop l.terms-index l.e.outs)) ≡ first_term l.e l.j

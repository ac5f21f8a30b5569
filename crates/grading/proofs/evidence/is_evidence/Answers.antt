use Rattle.std.proofs.Common.{subst, sym}
use Rattle.std.specs.Prelude.{◌↔◌, IsTrue}
use Rattle.redundancy.specs.Evidence.{WordHolds}
use Rattle.grading.specs.Grade.{IsEvidence}
use Rattle.grading.proofs.Checked.{evidence_is}
use Rattle.grading.proofs.evidence.is_evidence.Goals as goal

pub returns-in-Tree-clause-holds : goal.returns-in-Tree-clause-holds
returns-in-Tree-clause-holds c =
    let n = c.args.net.now in
    let fault = c.args.fault in
    let both = evidence_is n fault c.in-Tree.steps in
    subst (λ shown. IsTrue c.check_tree.result ↔ IsEvidence n fault shown) (sym c.in-Tree.is) (
      λ t. both.0 (subst (WordHolds n fault) c.as_slice.ensures (c.check_tree.ensures.holds.0 t)),
      λ e. c.check_tree.ensures.holds.1 (subst (WordHolds n fault) (sym c.as_slice.ensures) (both.1 e)),
    )

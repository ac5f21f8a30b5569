use Rattle.std.proofs.Common.{◌∙◌, arith}
use Rattle.polarity.proofs.Asked.{part_none, part_more, stands_still, stands_more, ends_untold-push}
use Rattle.polarity.proofs.asking.ask_one.Goals as goal

pub asking-init : goal.asking-init
asking-init g c = record {
  inputs = c.inputs-n.ensures.inputs;
  best = c.requires.best;
  asked = λ s h. part_none s _ _ _;
  stands = stands_still _;
}

pub tell-requires : goal.tell-requires
tell-requires g c =
    let next = rw c.in-Some.is at c.in_ok-proposal.ensures in
    rw next.2 (ends_untold-push (g.A.Advisor.log c.asking.advisor) c.in-Some.proposal)

pub asking-preserved : goal.asking-preserved
asking-preserved g c =
    let next = rw c.in-Some.is at c.in_ok-proposal.ensures in
    let told = c.tell.ensures.log (g.A.Advisor.log c.asking.advisor) c.in-Some.proposal next.2 in
    record {
      inputs = c.asking.invariant.inputs;
      best = c.in_ok-cost.ensures.best;
      asked = λ s h. part_more s _ _ _ _ _ _ c.in-Some.proposal _ _ (c.asking.invariant.asked s h) told (next.1 ∙ c.asking.invariant.inputs ∙ c.requires.best.inputs ∙ h.inputs) (c.in_ok-cost.ensures.told s h) (c.in_ok-cost.ensures.cheaper s h);
      stands = stands_more _ _ _ _ _ _ c.asking.invariant.stands (omega (arith, next.0, c.tell.ensures.left)) told;
    }

use Rattle.std.proofs.Common.{◌∙◌, arith, ap, sym, ◌+◌}
use Rattle.std.proofs.lemmas.List.Sums.{count_by_more_no, count_by_more_yes}
use Rattle.grading.specs.Counts.{is_wrong}
use Rattle.grading.proofs.Detected.{wrong_at}
use Rattle.grading.proofs.responses.wrong_count.Goals as goal
use Rattle.grading.proofs.responses.wrong_count.Goals.{then-ne, else-ne}

pub loop-i-preserved : goal.loop-i-preserved
loop-i-preserved c =
    let n = c.args.net.now in
    let vectors = c.args.vectors.now in
    let i = c.loop-i.i in
    let d = c.index-vectors-i.result in
    let is = wrong_at n vectors c.args.points.now c.in_ok-good.good.items i d c.index.result.now c.index.result.now c.ne.result c.requires c.in_ok-good.ensures.outs c.loop-i-test.true c.index.ensures c.ne.ensures in
    elim c.if-ne.branch [
      | then-ne w ↦ (w.wrong-is ∙ ap (λ k. k + 1) c.loop-i.invariant.0 ∙ sym (count_by_more_yes (is_wrong n) vectors i d c.loop-i-test.true (is ∙ w.if-ne.true)), omega (arith, w.wrong-is, c.loop-i.invariant.1))
      | else-ne w ↦ (w.wrong-is ∙ c.loop-i.invariant.0 ∙ sym (count_by_more_no (is_wrong n) vectors i d c.loop-i-test.true (is ∙ w.if-ne.false)), omega (arith, w.wrong-is, c.loop-i.invariant.1))
    ]

use Rattle.std.proofs.Common.{ℕ, Option, Some, None, cond, eqb, get_or, sym, ap, ◌∙◌, arith}
use Rattle.std.specs.Option.{option_or}
use Rattle.std.proofs.lemmas.List.{take_all}
use Rattle.blif_read.specs.Build.{rank_in}
use Rattle.blif_read.proofs.Ranks.{rank_more}
use Rattle.blif_read.proofs.order.rank_all.Goals as goal

pub loop-i-preserved : goal.loop-i-preserved
loop-i-preserved c = λ g.
    let i = c.loop-i.i in
    c.rank.ensures.ranks g ∙ ap (λ (o : Option ℕ). option_or o (cond (eqb (get_or c.args.order.now i 0) g) (Some i) None)) (c.loop-i.invariant g) ∙ sym (rank_more c.args.order.now i g c.loop-i-test.true)

pub returns-clause-ranks : goal.returns-clause-ranks
returns-clause-ranks c = λ g. c.loop-i.invariant g ∙ ap (λ xs. rank_in xs g) (take_all c.loop-i.i c.args.order.now (omega arith))

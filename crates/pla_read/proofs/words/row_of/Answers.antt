use Rattle.std.proofs.Common.{length, take, ap, subst, sym, arith}
use Rattle.std.proofs.lemmas.List.{length-map, length-take}
use Rattle.ae_base.specs.Cube.{IsOver}
use Rattle.ae_base.proofs.ReadBack.{cube_over}
use Rattle.ae_base.proofs.Sets.{inside-below}
use Rattle.pla_read.specs.Words.{mark}
use Rattle.pla_read.proofs.words.row_of.Goals as goal

pub returns-clause-fits : goal.returns-clause-fits
returns-clause-fits c =
    let front = c.split_at.result.0.now in
    let done = take c.loop-b.b-index c.split_at.result.1.now in
    let over : IsOver c.args.n c.cube_of-cube.result = subst (IsOver c.args.n) (sym c.cube_of-cube.ensures) (cube_over c.args.n front (omega arith)) in
    record {
      is_product = over.0;
      pos = inside-below c.args.n c.cube_of-cube.result.pos over.1;
      neg = inside-below c.args.n c.cube_of-cube.result.neg over.2;
      marks = omega (arith, ap length c.loop-b.invariant, length-map done mark, length-take c.loop-b.b-index c.split_at.result.1.now, c.split_at.ensures.back_len, c.loop-b.auto.b-index-end, c.loop-b-test.false);
    }

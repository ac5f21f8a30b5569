use Rattle.std.proofs.Common.{◌≡◌, length, get_or, refl}
use Rattle.std.proofs.lemmas.Option.{slice_get_read, get_or_from_slice_get}
use Rattle.ae_cover.proofs.Least.{union_more}
use Rattle.ae_cover.proofs.clash.union.Goals as goal

pub loop-s-preserved : goal.loop-s-preserved
loop-s-preserved c =
    let sets = c.args.sets.now in
    let there = slice_get_read sets (length sets) c.loop-s.s-index c.s-item.result refl c.loop-s-test.true c.s-item.is in
    let item : get_or sets c.loop-s.s-index 0 ≡ c.s-item.result = get_or_from_slice_get sets c.loop-s.s-index c.s-item.result 0 there in
    rw c.or-all.ensures (union_more sets c.loop-s.s-index c.s-item.result c.loop-s.all item c.loop-s.invariant)

use Rattle.std.proofs.Common.{◌<◌, ◌^◌, refl, arith, w64}
use Rattle.std.specs.Prelude.{slice_index}
use Rattle.std.specs.Int.{trailing_zeros}
use Rattle.std.proofs.lemmas.Nat.Bits.{bit_at-trailing_zeros}
use Rattle.fault_sim.proofs.MarkWords.{first-marked, none-marked}
use Rattle.fault_sim.proofs.marks.take_first.Goals as goal

pub returns-then-w-marks-clause-taken : goal.returns-then-w-marks-clause-taken
returns-then-w-marks-clause-taken c =
    let marks = c.args.marks.now in
    let w = c.first_some-w.result in
    let some : 0 < slice_index marks w = c.first_some-w.ensures.some c.if-w-marks.true in
    let fits : slice_index marks w < 2 ^ 64 = omega arith in
    let small : trailing_zeros w64 (slice_index marks w) < 64 = (bit_at-trailing_zeros w64 (slice_index marks w) some fits).0 in
    first-marked marks c.args.from w _ _ (trailing_zeros w64 (slice_index marks w)) c.if-w-marks.true some fits refl refl small refl c.requires.from c.first_some-w.ensures.none

pub returns-else-w-marks-clause-taken : goal.returns-else-w-marks-clause-taken
returns-else-w-marks-clause-taken c = none-marked c.args.marks.now c.args.from c.first_some-w.result c.if-w-marks.false c.requires.from c.first_some-w.ensures.none

use Rattle.std.proofs.Common.{◌≡◌, ℕ, ◌+◌, length, slice_get, Option, Some, refl, sym, subst, ◌∙◌, arith, ap, eqb-true}
use Rattle.std.proofs.lemmas.Option.{slice_get_read, get_or_from_slice_get}
use Rattle.ae_base.specs.Mask.{len, both}
use Rattle.ae_cover.specs.declared.parts.Clash.{Clash}
use Rattle.ae_cover.specs.LeastClash.{IsLeastIn, InRow, of_pair, ones_at}
use Rattle.ae_cover.proofs.Least.{none_shared, one_more}
use Rattle.ae_cover.proofs.clash.of_row.Goals as goal

pub loop-k-preserved : goal.loop-k-preserved
loop-k-preserved c =
    let rows = c.args.rows.now in
    let place = c.args.start + c.loop-k.k in
    let on = c.index-rows-on_row.result in
    let off = c.index-rows-off_row.result in
    let on_there : slice_get rows place ≡ Some on = slice_get_read rows (length rows) place on refl (omega arith) c.index-rows-on_row.is in
    let off_there : slice_get rows c.args.off_row ≡ Some off = slice_get_read rows (length rows) c.args.off_row off refl c.requires.off c.index-rows-off_row.is in
    let kept_there = slice_get_read c.args.ones.now (length c.args.ones.now) c.loop-k.k c.index-ones-k.result refl c.loop-k-test.true c.index-ones-k.is in
    let with_one : c.index-ones-k.result ≡ ones_at rows c.args.limit place = sym (get_or_from_slice_get c.args.ones.now c.loop-k.k c.index-ones-k.result 0 kept_there) ∙ c.requires.ones c.loop-k.k c.loop-k-test.true in
    let found_is : c.of_pair-found.result ≡ of_pair c.index-ones-k.result c.outputs_with-zeros.result on.cube off.cube place c.args.off_row = cc in
    let P : Option Clash → Type 0 = IsLeastIn rows (InRow c.args.start (c.args.start + (c.loop-k.k + 1)) c.args.limit c.args.off_row) in
    subst P (sym c.lesser-best.ensures)
    (one_more rows c.args.start c.args.limit c.loop-k.k c.args.off_row c.loop-k.best c.of_pair-found.result c.index-ones-k.result c.outputs_with-zeros.result on off on_there off_there with_one c.outputs_with-zeros.ensures found_is c.loop-k.invariant)

pub returns : goal.returns
returns c =
    let P : ℕ → Type 0 = λ k. IsLeastIn c.args.rows.now (InRow c.args.start (c.args.start + k) c.args.limit c.args.off_row) c.loop-k.best in
    let all : c.loop-k.k ≡ length c.args.ones.now = omega arith in
    subst P all c.loop-k.invariant

pub returns-then-is_empty : goal.returns-then-is_empty
returns-then-is_empty c =
    let rows = c.args.rows.now in
    let off = c.index-rows-off_row.result in
    let off_there : slice_get rows c.args.off_row ≡ Some off = slice_get_read rows (length rows) c.args.off_row off refl c.requires.off c.index-rows-off_row.is in
    let none : len (both c.args.any c.outputs_with-zeros.result) ≡ 0 = ap len (sym c.both.ensures) ∙ eqb-true (len c.both.result) 0 (sym c.is_empty.ensures.len ∙ c.if-is_empty.true) in
    none_shared rows c.args.start c.args.limit c.args.off_row c.args.ones.now c.args.any c.outputs_with-zeros.result off c.requires.ones c.requires.any off_there c.outputs_with-zeros.ensures none

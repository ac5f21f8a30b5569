use Rattle.std.proofs.Common.{◌≡◌, [], refl, ◌∙◌, arith}
use Rattle.std.proofs.lemmas.List.{get_or_default}
use Rattle.fault_sim.specs.Spread.{row}
use Rattle.fault_sim.proofs.Cones.{written}
use Rattle.fault_sim.proofs.Holding.{refilled}
use Rattle.fault_sim.proofs.cone.put.Goals as goal

pub returns-then-ne-clause-put : goal.returns-then-ne-clause-put
returns-then-ne-clause-put c =
    let list : c.as_slice.result.now ≡ row c.args.readers.now c.args.s = c.as_slice.ensures ∙ c.index-readers-s.is ∙ get_or_default c.args.readers.now c.args.s c.index-readers-s.result [] c.requires.readers in
    let marked = refilled c.args.cone.now.marked c.mark_all.new.marks (omega (arith, c.mark_all.ensures.len, c.as_mut_slice-then-ne.ensures.len, c.args.cone.now.marked.ok.0)) in
    let changed = refilled c.args.cone.now.changed c.mark.new.marks (omega (arith, c.mark.ensures.len, c.as_mut_slice.ensures.len, c.args.cone.now.changed.ok.0)) in
    written c.args.good.now (row c.args.readers.now c.args.s) c.as_slice.result.now c.args.s c.args.word c.args.cone.now _ c.as_mut_slice-then-ne.result.now c.as_mut_slice.result.now c.mark_all.new.marks c.mark.new.marks list c.as_mut_slice-then-ne.ensures.value c.as_mut_slice.ensures.value marked changed c.requires.words refl c.mark.ensures.marked c.mark_all.ensures.each c.mark_all.ensures.kept c.mark_all.ensures.only

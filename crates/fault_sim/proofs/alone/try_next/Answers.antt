use Rattle.std.proofs.Common.{◌≡◌, ◌+◌, ◌≤◌, ◌<◌, ℕ, false, inl, inr, length, sym, subst, ap, ◌∙◌, arith}
use Rattle.std.specs.Prelude.{slice_get}
use Rattle.std.proofs.lemmas.Bool.{cases_lt}
use Rattle.fault_sim.specs.declared.words.TheConstants.{LANES}
use Rattle.fault_sim.specs.Lanes.{Tells}
use Rattle.fault_sim.specs.Sites.{entry, room}
use Rattle.fault_sim.specs.Taken.{AreWritten}
use Rattle.fault_sim.proofs.Taking.{kept-outside, tried}
use Rattle.fault_sim.proofs.alone.try_next.Goals as goal

pub returns-clause-first : goal.returns-clause-first
returns-clause-first c points alone before after k fault first from to there at =
    let n = c.args.net.now in
    let list = c.args.list.now in
    let found = c.args.found.now in
    let held = c.take_next.new.held in
    let taken = c.in_ok-to.ensures.taken in
    let ids = c.take_next.new.ids.items in
    let written : AreWritten c.telling-told.result c.args.point ids found c.write_found.new.found (length ids) = subst (λ ids. AreWritten c.telling-told.result c.args.point ids found c.write_found.new.found (length ids)) c.as_slice-3.ensures.value c.write_found.ensures.written in
    elim (cases_lt k c.args.from) [
      | inl early ↦ kept-outside n points list found c.write_found.new.found ids held.faults.items c.telling-told.result c.args.point c.args.from _ 0 c.args.from (c.args.point + 1) taken written (λ k from to. inl to) before k fault first from early there at
      | inr late ↦
          let all : held.all ≡ false = c.in_ok-to.ensures.all in
          let few : length ids ≤ LANES = omega (arith, taken.as_many, subst (λ all. length held.faults.items ≤ room all) all c.in_ok-to.ensures.held.few) in
          let tells : Tells n (slice_get held.faults.items) c.as_slice.result.now c.telling-told.result = subst (λ all. Tells n (λ l. slice_get held.faults.items (entry all l)) c.as_slice.result.now c.telling-told.result) all c.telling-told.ensures.tells in
          tried n points list found c.write_found.new.found ids held.faults.items c.args.bench.now.good.items c.telling-told.result c.args.point c.args.from _ c.requires.len few taken written alone (subst (λ good. Tells n (slice_get held.faults.items) good c.telling-told.result) c.as_slice.ensures.value tells)
          (λ k fault first from to. after k fault first from (omega (arith, to, c.in_ok-to.ensures.within))) k fault first late to there at
    ]

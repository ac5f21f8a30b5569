use Rattle.std.proofs.Common.{◌+◌, ◌≤◌, subst, sym, arith}
use Rattle.fault_sim.specs.Lanes.{IsFirstBelow}
use Rattle.fault_sim.proofs.Searches.{found-stays, first-found}
use Rattle.fault_sim.proofs.search.try_fault.Goals as goal

pub returns-in-Some-clause-first : goal.returns-in-Some-clause-first
returns-in-Some-clause-first c points pass before =
    let more : c.args.base ≤ c.args.base + c.args.count = omega arith in
    found-stays c.args.net.now points c.args.base (c.args.base + c.args.count) c.args.fault c.in-Some.i more (subst (IsFirstBelow c.args.net.now points c.args.base c.args.fault) c.in-Some.is before)

pub returns-in_ok-told-in-None-clause-first : goal.returns-in_ok-told-in-None-clause-first
returns-in_ok-told-in-None-clause-first c points pass before =
    subst (IsFirstBelow c.args.net.now points (c.args.base + c.args.count) c.args.fault) (sym c.place_of.ensures)
    (first-found c.args.net.now points c.args.base c.args.count c.args.fault c.args.bench.now.good.items c.in_ok-told-in-None.told c.first_lane.result c.requires.count c.in_ok-told-in-None.ensures.tells c.first_lane.ensures pass (subst (IsFirstBelow c.args.net.now points c.args.base c.args.fault) c.in-None.is before))

use Rattle.std.proofs.Common.{◌≡◌, ◌<◌, ℕ, not, length, subst}
use Rattle.ae_base.specs.Mask.{has}
use Rattle.fault_sim.specs.declared.words.TheConstants.{LANES}
use Rattle.fault_sim.specs.Lanes.{each_below, port_differs}
use Rattle.fault_sim.specs.Sites.{fault_in}
use Rattle.fault_sim.proofs.Cones.{lanes-tell}
use Rattle.fault_sim.proofs.cone.telling.Goals as goal

pub returns-clause-tells : goal.returns-clause-tells
returns-clause-tells c =
    let n = c.args.net.now in
    let faults = fault_in c.args.held.now in
    let valid = c.valid_law.ensures in
    lanes-tell n faults c.args.good.now c.spread.new.cone.words.items c.ports_apart-told.result valid (λ h x. c.one_run.ensures.one n h x valid) (λ h x w. c.one_run.ensures.out n h x w valid) c.spread.ensures.faulty
    (subst (λ words. (l : ℕ) → l < LANES → has c.ports_apart-told.result l ≡ not (each_below (length n.outputs) (λ o. not (port_differs n.outputs (faults l) c.args.good.now words l o)))) c.as_slice.ensures.value c.ports_apart-told.ensures)

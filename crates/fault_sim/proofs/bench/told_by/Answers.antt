use Rattle.std.proofs.Common.{◌≡◌, ◌++◌, [], ◌∷◌, ℕ, sym, subst, ap, ap₂, ◌∙◌}
use Rattle.std.specs.Prelude.{◌≢◌, ◌↔◌, Option, Some, None, true, slice_get}
use Rattle.ae_base.specs.Mask.{has}
use Rattle.ae_net.specs.declared.net.Fault.{Fault}
use Rattle.ae_net.specs.Out.{out}
use Rattle.fault_sim.specs.Lanes.{IsGood}
use Rattle.fault_sim.specs.Sites.{entry, fault_in}
use Rattle.fault_sim.proofs.bench.told_by.Goals as goal

pub returns-clause-tells : goal.returns-clause-tells
returns-clause-tells c l x lt is_good =
    let n = c.args.net.now in
    let faults : c.hold.new.held.faults.items ≡ c.args.fault ∷ [] = c.in_ok-hold.ensures.faults ∙ ap (λ fs. fs ++ c.args.fault ∷ []) c.requires.bench.none in
    let lane : fault_in c.hold.new.held l ≡ Some c.args.fault = ap₂ (λ fs all. slice_get fs (entry all l)) faults (c.hold.ensures.all ∙ c.requires.all) in
    subst (λ fault. (has c.telling-told.result l ≡ true) ↔ (out n fault x ≢ out n None x)) lane
    (c.telling-told.ensures.tells l x lt (subst (λ good. IsGood n x l good) (sym c.as_slice.ensures.value) is_good))

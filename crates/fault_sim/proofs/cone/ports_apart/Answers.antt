use Rattle.std.proofs.Common.{◌<◌, ℕ, length, ap, ap₂, ◌∙◌, ◌||◌, arith}
use Rattle.std.specs.Prelude.{slice_index}
use Rattle.std.proofs.lemmas.List.{get_or_default}
use Rattle.ae_base.specs.Mask.{differ, has}
use Rattle.ae_net.specs.Network.{signals}
use Rattle.ae_net.specs.Run.{seen}
use Rattle.ae_net.specs.declared.net.Place.TheVariants.{Port}
use Rattle.fault_sim.specs.Lanes.{port_differs}
use Rattle.fault_sim.specs.Sites.{fault_in}
use Rattle.fault_sim.proofs.Cones.{more-apart}
use Rattle.fault_sim.proofs.cone.ports_apart.Goals as goal

pub loop-o-preserved : goal.loop-o-preserved
loop-o-preserved c lane lt =
    let o = c.loop-o.o in
    let s : ℕ = slice_index c.outputs-outputs.result.now o in
    let port = c.outputs-outputs.ensures.valid.ports o 0 (omega (arith, c.loop-o-test.true, c.loop-o.auto.o-end, ap length c.outputs-outputs.ensures.outputs)) in
    let within : s < signals c.args.net.now = omega (arith, port.1, ap (λ os. slice_index os o) c.outputs-outputs.ensures.outputs) in
    let with = c.index-words-s.is ∙ get_or_default c.args.words.now s c.index-words-s.result 0 (omega (arith, within, c.requires.words)) in
    let without = c.index-good-s.is ∙ get_or_default c.args.good.now s c.index-good-s.result 0 (omega (arith, within, c.requires.good)) in
    c.either-word.ensures lane
    ∙ ap₂ (λ a b. a || b) (c.loop-o.invariant lane lt)
    (c.apart.ensures lane
    ∙ ap₂ differ (c.shown-seen.ensures lane lt ∙ ap (λ word. seen (fault_in c.args.held.now lane) (Port o) (has word lane)) with) (ap (λ word. has word lane) without)
    ∙ ap (λ outputs. port_differs outputs (fault_in c.args.held.now lane) c.args.good.now c.args.words.now lane o) c.outputs-outputs.ensures.outputs)
    ∙ more-apart (port_differs c.args.net.now.outputs (fault_in c.args.held.now lane) c.args.good.now c.args.words.now lane) o

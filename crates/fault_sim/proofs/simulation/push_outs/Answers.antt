use Rattle.std.proofs.Common.{◌≡◌, ◌<◌, ◌+◌, length, map, take, ap, sym, ◌∙◌, arith}
use Rattle.std.specs.Prelude.{None, slice_index}
use Rattle.ae_base.specs.Mask.{has, where_below}
use Rattle.ae_net.specs.Out.{out}
use Rattle.fault_sim.proofs.Cones.{lane-out}
use Rattle.fault_sim.proofs.Simulated.{one-more}
use Rattle.fault_sim.proofs.simulation.push_outs.Goals as goal

pub loop-lane-init : goal.loop-lane-init
loop-lane-init c points room pass before =
    let start : c.args.base + 0 ≡ c.args.base = omega arith in
    before ∙ ap (λ b. map (out c.args.net.now None) (take b points)) (sym start)

pub loop-lane-preserved : goal.loop-lane-preserved
loop-lane-preserved c points room pass before =
    let n = c.args.net.now in
    let lane = c.loop-lane.lane in
    let within : lane < c.args.count = omega (arith, c.loop-lane-test.true, c.loop-lane.auto.lane-end) in
    let valid = c.outputs.ensures.valid in
    let x = slice_index points (c.args.base + lane) in
    let is : c.outputs_in.result ≡ out n None x =
    c.outputs_in.ensures
    ∙ ap (λ outputs. where_below (length outputs) (λ o. has (slice_index c.args.words.now (slice_index outputs o)) lane)) c.outputs.ensures.outputs
    ∙ lane-out n x lane c.args.words.now valid (c.one_run.ensures.one n None x valid) (λ w. c.one_run.ensures.out n None x w valid) (pass lane within) in
    one-more (out n None) points c.loop-lane.outs.items c.push.new.self.items (c.args.base + lane) (c.args.base + (lane + 1)) 0 c.outputs_in.result (omega arith) (omega (arith, within, room)) is c.in_ok-push.ensures.items (c.loop-lane.invariant points room pass before)

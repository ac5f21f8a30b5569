use Rattle.std.proofs.Common.{◌≡◌, ℕ, List, [], ◌++◌, ap, append_assoc, arith, length, length-append}
use Rattle.ae_net.specs.declared.net.Gate.{Gate}
use Rattle.expansion.specs.Terms.{Terms}
use Rattle.cascade.specs.Reddy.{inverters, control_gates, and_gates}
use Rattle.cascade.proofs.Law.{length-control_gates}
use Rattle.cascade.proofs.Valid.{chain_after, few_lines, few_turned, few_wide, front, front_chains, length-front, length-inverters}
use Rattle.cascade.proofs.build.push_gates.Goals as goal

-- the gates before the chains, put together part after part
parts : (k : ℕ) (e : Terms) (a b c d : List Gate) → a ≡ [] → b ≡ a ++ inverters k e → c ≡ b ++ control_gates k e → d ≡ c ++ and_gates k e → d ≡ front k e
parts k e a b c d a_is b_is c_is d_is = rw (d_is, c_is, b_is, a_is) (append_assoc (inverters k e) (control_gates k e) (and_gates k e))

pub push_control-requires-clause-room : goal.push_control-requires-clause-room
push_control-requires-clause-room c =
    let e = c.args.plan.now.expansion.now in
    omega (arith, simp length-append at (ap length c.in_ok-push_inverters.ensures.gates), ap length c.requires.no_gates, length-inverters c.args.plan.now.lead e, few_turned e, c.requires.plan.few_inputs)

pub push_ands-requires-clause-room : goal.push_ands-requires-clause-room
push_ands-requires-clause-room c =
    let e = c.args.plan.now.expansion.now in
    let k = c.args.plan.now.lead in
    omega (
      arith,
      simp length-append at (ap length c.in_ok-push_inverters.ensures.gates),
      simp length-append at (ap length c.in_ok-push_control.ensures.gates),
      ap length c.requires.no_gates,
      length-inverters k e,
      length-control_gates k e,
      (few_lines e).1,
      c.requires.plan.few_inputs,
      c.requires.plan.few_wide,
    )

pub push_outputs-requires-clause-low : goal.push_outputs-requires-clause-low
push_outputs-requires-clause-low c =
    let e = c.args.plan.now.expansion.now in
    let all = parts _ e _ _ _ _ c.requires.no_gates c.in_ok-push_inverters.ensures.gates c.in_ok-push_control.ensures.gates c.in_ok-push_ands.ensures.gates in
    omega (arith, ap length all, length-front c.args.plan.now.lead e, (few_lines e).1, chain_after e, few_wide e, c.requires.plan.few_inputs, c.requires.cheap)

pub returns-clause-gates : goal.returns-clause-gates
returns-clause-gates c =
    let all = parts _ c.args.plan.now.expansion.now _ _ _ _ c.requires.no_gates c.in_ok-push_inverters.ensures.gates c.in_ok-push_control.ensures.gates c.in_ok-push_ands.ensures.gates in
    rw (front_chains c.args.plan.now.lead c.args.names.now c.args.plan.now.expansion.now) (rw (all, length-front c.args.plan.now.lead c.args.plan.now.expansion.now, c.outputs.ensures.outputs) at c.push_outputs.ensures.gates)

pub returns-clause-ports : goal.returns-clause-ports
returns-clause-ports c =
    let all = parts _ c.args.plan.now.expansion.now _ _ _ _ c.requires.no_gates c.in_ok-push_inverters.ensures.gates c.in_ok-push_control.ensures.gates c.in_ok-push_ands.ensures.gates in
    rw (all, length-front c.args.plan.now.lead c.args.plan.now.expansion.now) at c.push_outputs.ensures.ports

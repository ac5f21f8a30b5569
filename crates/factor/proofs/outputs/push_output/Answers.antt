use Rattle.std.proofs.Common.{◌≡◌, ◌+◌, ◌≤◌, ◌∙◌, ap, sym, subst, length, arith}
use Rattle.std.proofs.lemmas.List.Elements.{All-from_recursion}
use Rattle.ae_base.specs.declared.limits.TheConstants.{PINS}
use Rattle.ae_net.specs.Gates.{pins_of}
use Rattle.factor.specs.Cells.{output_cells}
use Rattle.factor.specs.Seen.{seen}
use Rattle.factor.proofs.Valid.{FewPins, output_few}
use Rattle.factor.proofs.Sizes.{output_bound}
use Rattle.factor.proofs.outputs.push_output.Goals as goal

pub push_named-requires-clause-small : goal.push_named-requires-clause-small
push_named-requires-clause-small c =
    let k = c.args.plan.now.wires.inputs + length c.gates.result.now in
    let s = seen c.args.sum.now in
    omega (arith, c.requires.small, c.requires.room, ap length (c.as_slice.ensures.value ∙ c.in_ok-cells.ensures), output_bound c.args.plan.now.wires k s)

pub push_named-requires-clause-room : goal.push_named-requires-clause-room
push_named-requires-clause-room c =
    let k = c.args.plan.now.wires.inputs + length c.gates.result.now in
    let s = seen c.args.sum.now in
    omega (arith, c.requires.room, ap length (c.as_slice.ensures.value ∙ c.in_ok-cells.ensures), output_bound c.args.plan.now.wires k s)

pub push_named-requires-clause-few_pins : goal.push_named-requires-clause-few_pins
push_named-requires-clause-few_pins c =
    let w = c.args.plan.now.wires in
    let k = w.inputs + length c.gates.result.now in
    let e : c.as_slice.result.now ≡ output_cells w k (seen c.args.sum.now) = c.as_slice.ensures.value ∙ c.in_ok-cells.ensures in
    All-from_recursion (λ d. length (pins_of d) ≤ PINS) c.as_slice.result.now (subst FewPins (sym e) (output_few w w.inputs k (seen c.args.sum.now) c.requires.plan.wires.few_inputs c.requires.within))

pub returns-clause-few : goal.returns-clause-few
returns-clause-few c =
    let k = c.args.plan.now.wires.inputs + length c.gates.result.now in
    let s = seen c.args.sum.now in
    omega (arith, c.requires.room, c.saturating_sub.ensures, c.len.ensures, ap length c.in_ok-cells.ensures, output_bound c.args.plan.now.wires k s)

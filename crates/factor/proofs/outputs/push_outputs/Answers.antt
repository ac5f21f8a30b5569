use Rattle.std.proofs.Common.{◌≡◌, ℕ, ◌+◌, ◌<◌, ◌∙◌, List, ◌++◌, drop, get_or, ap, sym, length, length-append, arith}
use Rattle.std.proofs.lemmas.List.{length-map, get_or-map}
use Rattle.factor.specs.Cells.{output_cells}
use Rattle.factor.specs.Factored.{named, ends}
use Rattle.factor.specs.Plan.{sums_of}
use Rattle.factor.specs.Seen.{seen, IsWithin}
use Rattle.factor.specs.declared.outputs.Plan.{Plan}
use Rattle.factor.specs.declared.sums.Sum.{Sum}
use Rattle.factor.proofs.Valid.{outputs_more, ends_more, most_more, each_get, length-named}
use Rattle.factor.proofs.Sizes.{output_bound}
use Rattle.factor.proofs.outputs.push_outputs.Goals as goal

-- a sum of the plan by its place
at_place : (plan : Plan) (o : ℕ) (sum : Sum) → o < length plan.sums.items → sum ≡ get_or plan.sums.items o sum → seen sum ≡ get_or (sums_of plan) o (seen sum)
at_place plan o sum l e = ap seen e ∙ sym (get_or-map seen plan.sums.items o sum (seen sum) l)

within : (plan : Plan) (o : ℕ) → o < length plan.sums.items → o < length (sums_of plan)
within plan o l = omega (arith, l, length-map plan.sums.items seen)

pub push_output-requires-clause-within : goal.push_output-requires-clause-within
push_output-requires-clause-within c =
    let plan = c.args.plan.now in
    let o = c.loop-o.o in
    let l : o < length plan.sums.items = omega (arith, c.loop-o-test.true, c.len-o-end.ensures) in
    each_get (IsWithin plan.wires.inputs) (sums_of plan) c.requires.plan.within o (seen c.index.result.now) (within plan o l) (at_place plan o c.index.result.now l c.index.ensures)

pub push_output-requires-clause-room : goal.push_output-requires-clause-room
push_output-requires-clause-room c =
    let plan = c.args.plan.now in
    let o = c.loop-o.o in
    let l : o < length plan.sums.items = omega (arith, c.loop-o-test.true, c.len-o-end.ensures) in
    omega (arith, c.loop-o.invariant.room, most_more (sums_of plan) o (seen c.index.result.now) (within plan o l) (at_place plan o c.index.result.now l c.index.ensures))

pub loop-o-preserved : goal.loop-o-preserved
loop-o-preserved c =
    let plan = c.args.plan.now in
    let o = c.loop-o.o in
    let s = seen c.index.result.now in
    let now = c.loop-o.net.gates in
    let next = c.push_output.new.net.gates in
    let l : o < length plan.sums.items = omega (arith, c.loop-o-test.true, c.len-o-end.ensures) in
    let m : o < length c.args.names.now = omega (arith, l, c.requires.fits) in
    let at = at_place plan o c.index.result.now l c.index.ensures in
    let cells = output_cells plan.wires (plan.wires.inputs + length now) s in
    let grown : length next ≡ length now + length cells = omega (arith, ap length c.in_ok-inner.ensures.gates, length-append now (named plan.lead c.loop-o.number c.index-names-o.result cells), length-named plan.lead c.loop-o.number c.index-names-o.result cells) in
    record {
      gates = (outputs_more plan.lead plan.wires (sums_of plan) c.args.names.now o c.loop-o.number c.in_ok-inner.inner s c.index-names-o.result now next _ (within plan o l) m at c.index-names-o.is c.in_ok-inner.ensures.gates c.in_ok-inner.ensures.inner c.loop-o.invariant.gates);
      ports =
          ap (λ (ps : List ℕ). ps ++ ends plan.wires (plan.wires.inputs + length next) (drop (o + 1) (sums_of plan))) c.in_ok-push.ensures.ok
          ∙ ends_more plan.lead c.loop-o.number plan.wires (sums_of plan) o c.in_ok-inner.inner _ s c.index-names-o.result now next c.loop-o.ports _ (within plan o l) at c.in_ok-inner.ensures.gates c.in_ok-inner.ensures.inner (ap (λ n. plan.wires.inputs + n + c.in_ok-inner.inner) (ap length c.gates.ensures)) c.loop-o.invariant.ports;
      small = omega (arith, c.loop-o.invariant.small, grown, c.in_ok-inner.ensures.inner);
      inputs = c.push_output.ensures.inputs ∙ c.loop-o.invariant.inputs;
      room = omega (arith, c.loop-o.invariant.room, grown, output_bound plan.wires (plan.wires.inputs + length now) s, most_more (sums_of plan) o s (within plan o l) at);
    }

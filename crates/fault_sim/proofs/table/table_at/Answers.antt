use Rattle.std.proofs.Common.{◌≡◌, ◌<◌, ℕ, length, sym, subst, ◌∙◌}
use Rattle.std.specs.Prelude.{Some, slice_get, slice_index}
use Rattle.fault_sim.proofs.Cones.{there_at, free-lane}
use Rattle.fault_sim.proofs.table.table_at.Goals as goal

pub returns-clause-value : goal.returns-clause-value
returns-clause-value c faults far l x v lt run lane =
    let n = c.args.net.now in
    let i = c.args.i in
    let gate = c.gate-gate.result.now in
    let there : slice_get n.gates i ≡ Some gate = subst (λ g. slice_get n.gates i ≡ Some g) (sym c.gate-gate.ensures.gate) (there_at n i c.requires.place) in
    let read : (k : ℕ) → k < length gate.pins → slice_index c.read_pins.new.seen k ≡ slice_index c.args.words.now (slice_index gate.pins k) = subst (λ pins. (k : ℕ) → k < length pins → slice_index c.read_pins.new.seen k ≡ slice_index c.args.words.now (slice_index pins k)) c.as_slice.ensures c.read_pins.ensures.pins in
    c.table_word.ensures l lt ∙ free-lane n (faults l) x v i gate l c.args.words.now c.read_pins.new.seen c.inputs-names.ensures.valid there (far l lt) run read lane

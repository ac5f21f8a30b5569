use Rattle.std.proofs.Common.{◌≡◌, ℕ, ◌<◌, ◌+◌, length, ap, sym, subst, ◌∙◌}
use Rattle.std.specs.Prelude.{Some, slice_get, slice_index}
use Rattle.ae_base.specs.Mask.{has, where_below}
use Rattle.ae_net.specs.Run.{seen, table}
use Rattle.ae_net.specs.declared.net.Place.TheVariants.{Pin, Stem}
use Rattle.ae_net.specs.Network.{gate_at}
use Rattle.fault_sim.specs.declared.words.TheConstants.{LANES}
use Rattle.fault_sim.specs.Lanes.{sees}
use Rattle.fault_sim.specs.Sites.{fault_in}
use Rattle.fault_sim.proofs.Cones.{there_at, held-lane}
use Rattle.fault_sim.proofs.table.held_word.Goals as goal

pub returns-clause-value : goal.returns-clause-value
returns-clause-value c l x v lt run lane =
    let n = c.args.net.now in
    let i = c.args.i in
    let at : length c.inputs.result.now + i ≡ length n.inputs + i = ap (λ inputs. length inputs + i) c.inputs.ensures.inputs in
    let pins : c.as_slice.result.now ≡ (gate_at n i).pins = c.as_slice.ensures ∙ ap (λ gate. gate.pins) c.gate-gate.ensures.gate in
    let pin : (k l : ℕ) → k < length (gate_at n i).pins → l < LANES → has (slice_index c.show_pins.new.seen k) l ≡ seen (fault_in c.args.held.now l) (Pin i k) (has (slice_index c.args.words.now (slice_index (gate_at n i).pins k)) l) =
    subst (λ pins. (k l : ℕ) → k < length pins → l < LANES → has (slice_index c.show_pins.new.seen k) l ≡ seen (fault_in c.args.held.now l) (Pin i k) (has (slice_index c.args.words.now (slice_index pins k)) l)) pins c.show_pins.ensures.pins in
    held-lane n (fault_in c.args.held.now l) x v i (gate_at n i) l c.args.words.now c.show_pins.new.seen (has c.shown.result l) c.inputs.ensures.valid (there_at n i c.requires.place) run (λ k within. pin k l within lt) lane
    (c.shown.ensures l lt
    ∙ ap (λ b. seen (fault_in c.args.held.now l) (Stem (length c.inputs.result.now + i)) b) (c.table_word.ensures l lt ∙ ap (λ gate. table gate (where_below (length gate.pins) (sees c.show_pins.new.seen l))) c.gate-gate.ensures.gate)
    ∙ ap (λ s. seen (fault_in c.args.held.now l) (Stem s) (table (gate_at n i) (where_below (length (gate_at n i).pins) (sees c.show_pins.new.seen l)))) at)

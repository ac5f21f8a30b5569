use Rattle.std.proofs.Common.{◌≡◌, ◌+◌, length, ap, sym, ◌∙◌, arith}
use Rattle.std.specs.Prelude.{slice_index}
use Rattle.std.proofs.lemmas.List.{get_or_default}
use Rattle.fault_sim.specs.Sites.{fault_in}
use Rattle.fault_sim.proofs.Holding.{free-site}
use Rattle.fault_sim.proofs.cone.visited_word.Goals as goal

pub returns-then-index-eq0-clause-value : goal.returns-then-index-eq0-clause-value
returns-then-index-eq0-clause-value c =
    let n = c.args.net.now in
    let at : length c.inputs.result.now + c.args.i ≡ length n.inputs + c.args.i = ap (λ inputs. length inputs + c.args.i) c.inputs.ensures.inputs in
    c.gate_word.ensures.value (fault_in c.args.held.now) (free-site n c.args.held.now c.args.i c.requires.held c.requires.place (ap (slice_index c.args.held.now.last.items) (sym at) ∙ sym (get_or_default c.args.held.now.last.items (length c.inputs.result.now + c.args.i) _ 0 (omega (arith, at, c.requires.place, c.requires.held.count))) ∙ sym c.index.ensures ∙ c.if-index-eq0.true))

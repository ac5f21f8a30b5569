use Rattle.std.proofs.Common.{◌≤◌, length, ap, sym, ◌∙◌, arith}
use Rattle.std.proofs.lemmas.List.{length-map}
use Rattle.factor.specs.Factored.{network_of}
use Rattle.synth_core.specs.Made.{names_of}
use Rattle.synth_core.proofs.Filed.{is_valid_factored, factored_inputs, factored_outputs}
use Rattle.synth_core.proofs.Factored.{is_factored}
use Rattle.synth_core.proofs.laws.factored_synthesis_law.Goals as goal

pub returns-clause-valid : goal.returns-clause-valid
returns-clause-valid c names p cubes n points unchanged signs same is tests = is_valid_factored names p cubes n points unchanged signs same is tests

pub returns-clause-made : goal.returns-clause-made
returns-clause-made c s e cubes n points unchanged summary are signs rewritten net tests numbers =
    let keeps = c.said_law.ensures.written n net.valid (factored_inputs (names_of s) cubes n net) (factored_outputs (names_of s) cubes n net) in
    is_factored s e are cubes n points unchanged rewritten net tests c.expansion_law.ensures.meaning
    (c.said_again.ensures n net.valid keeps)
    (c.said_again-2.ensures _ (is_valid_factored (names_of s) e.polarity cubes n points unchanged signs (sym rewritten.inputs) net tests)) c.one_run.ensures.shows c.lead_law.ensures.least summary numbers

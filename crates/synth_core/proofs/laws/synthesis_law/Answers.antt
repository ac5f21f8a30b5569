use Rattle.synth_core.specs.Made.{names_of}
use Rattle.synth_core.proofs.Filed.{few_inputs, few_outputs, is_valid_file}
use Rattle.synth_core.proofs.Synthesised.{is_synthesised}
use Rattle.synth_core.proofs.laws.synthesis_law.Goals as goal

pub returns-clause-valid : goal.returns-clause-valid
returns-clause-valid c names e ready =
    let can = ready.built in
    is_valid_file names e can (c.reddy_law.ensures.valid names e can) (c.reddy_law.ensures.inputs names e can) (c.reddy_law.ensures.ports names e can) ready.points

pub returns-clause-made : goal.returns-clause-made
returns-clause-made c s e summary ready are numbers =
    let can = ready.built in
    let names = names_of s in
    let valid = c.reddy_law.ensures.valid names e can in
    let inputs = c.reddy_law.ensures.inputs names e can in
    let ports = c.reddy_law.ensures.ports names e can in
    let keeps = c.said_law.ensures.written _ valid (few_inputs names e can valid inputs ports) (few_outputs names e can valid inputs ports) in
    is_synthesised s e are valid inputs ports
    (c.reddy_law.ensures.functions names e can) (c.reddy_law.ensures.complements names e can) c.one_run.ensures.shows c.expansion_law.ensures.inside c.expansion_law.ensures.meaning
    (c.said_again.ensures _ valid keeps) (c.said_again-2.ensures _ (is_valid_file names e can valid inputs ports ready.points))
    (c.input_law.ensures.complete names e can) (c.input_law.ensures.few e) (c.even_law.ensures.even s e.polarity e are)
    c.lead_law.ensures.least summary numbers

use Rattle.std.proofs.Common.{◌∙◌, sym, ap, map, string_bytes, subst}
use Rattle.synth_cmd.specs.Asked.{command_by}
use Rattle.synth_cmd.specs.Words.{IsParsed}
use Rattle.synth_cmd.proofs.Matched.{asked_none, asked_some}
use Rattle.synth_cmd.proofs.words.read_command.Goals as goal

pub returns-in-Some-clause-asked : goal.returns-in-Some-clause-asked
returns-in-Some-clause-asked c =
    c.command_by.ensures.asked ∙ ap (λ said. command_by said said.names) c.said_by.ensures
    ∙ sym (asked_some _ c.in-Some.matches (subst (IsParsed (map string_bytes c.args.words.now)) c.in-Some.is c.in_ok-matches.ensures))

pub returns-in-None-clause-asked : goal.returns-in-None-clause-asked
returns-in-None-clause-asked c = sym (asked_none _ (subst (IsParsed (map string_bytes c.args.words.now)) c.in-None.is c.in_ok-matches.ensures))

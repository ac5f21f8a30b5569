use Rattle.std.proofs.Common.{◌∙◌, ap₂}
use Rattle.std.proofs.lemmas.Result.{IfOk-weaker}
use Rattle.clap.specs.Words.{with_rule}
use Rattle.synth_cmd.proofs.command_line.positionals.Goals as goal

pub returns : goal.returns
returns c =
    let one = c.in_ok-arg.ensures.shape c.mode.ensures.local ∙ ap₂ with_rule c.bare.ensures c.mode.ensures.rule in
    IfOk-weaker c.arg-2.result _ _ (λ r h. h.shape c.names.ensures.local ∙ ap₂ with_rule one c.names.ensures.rule) c.arg-2.ensures

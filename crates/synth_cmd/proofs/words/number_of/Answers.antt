use Rattle.std.proofs.Common.{◌≡◌, ◌∙◌, true, sym, ap}
use Rattle.synth_cmd.specs.Asked.{has_digits}
use Rattle.synth_cmd.proofs.Numbers.{number_found, number_unread}
use Rattle.synth_cmd.proofs.words.number_of.Goals as goal

pub returns-in-Ok : goal.returns-in-Ok
returns-in-Ok c =
    let digits : has_digits c.args.word.now ≡ true = ap has_digits (sym c.as_bytes.ensures.value) ∙ sym c.has_digits.ensures ∙ c.if-not-has_digits.false in
    number_found c.args.word.now c.parse.result digits c.parse.ensures.value.0 c.in-Ok.number c.in-Ok.is c.if-number.true

pub returns-in_default-2 : goal.returns-in_default-2
returns-in_default-2 c =
    let digits : has_digits c.args.word.now ≡ true = ap has_digits (sym c.as_bytes.ensures.value) ∙ sym c.has_digits.ensures ∙ c.if-not-has_digits.false in
    number_unread c.args.word.now c.parse.result digits c.parse.ensures.value.0 c.in_default.field-0 c.in_default.is

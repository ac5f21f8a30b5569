use Rattle.std.proofs.Common.{[], get_or, sym, ◌∙◌, arith}
use Rattle.vec_text.proofs.Found.{named_idle, pin_idle, four_texts, five_texts}
use Rattle.vec_text.proofs.idle.read_idle.Goals as goal

pub returns-in-len4 : goal.returns-in-len4
returns-in-len4 c =
    let words = c.args.words.now in
    rw (four_texts words (record { ref_ptr = (0, 0); now = [] }) (omega arith)) (named_idle (get_or words 0 _).now (get_or words 1 _).now (get_or words 2 _).now (get_or words 3 _).now c.read_named.result c.read_named.ensures)

pub returns-else-not-is_word : goal.returns-else-not-is_word
returns-else-not-is_word c =
    let words = c.args.words.now in
    rw (five_texts words (record { ref_ptr = (0, 0); now = [] }) (omega arith))
    (pin_idle (get_or words 0 _).now (get_or words 1 _).now (get_or words 2 _).now (get_or words 3 _).now (get_or words 4 _).now c.read_pin.result (sym c.is_word.ensures ∙ c.if-not-is_word.false) c.read_pin.ensures)

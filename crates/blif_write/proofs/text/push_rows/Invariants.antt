use Rattle.std.proofs.Common.{◌≡◌, ◌++◌, map, take}
use Rattle.ae_base.specs.Text.{text_of}
use Rattle.ae_net.specs.Blif as text
use Rattle.blif_write.proofs.text.push_rows.Given as goal

abbrev pub invariant-loop-row : goal.invariant-loop-row
invariant-loop-row l = l.out.items ≡ l.fn.out.items ++ text_of (map (text.row_words l.k l.on) (take l.row-index l.rows))

use Rattle.std.proofs.Common.{◌≡◌, ◌++◌}
use Rattle.ae_base.specs.Text.{bits_of}
use Rattle.ae_base.proofs.text.push_bits.Given as goal

abbrev pub invariant-loop-j : goal.invariant-loop-j
invariant-loop-j l = l.out.items ≡ l.fn.out.items ++ bits_of l.j l.bits

use Rattle.std.proofs.Common.{◌+◌, ap, length, length-append, arith}
use Rattle.factor.specs.Cells.{chain_of}
use Rattle.factor.proofs.Sizes.{length-chain}
use Rattle.factor.proofs.parts.push_closing.Goals as goal

pub push-requires-then-constant-2 : goal.push-requires-then-constant-2
push-requires-then-constant-2 c =
    let k = c.args.first + length c.args.cells.now.items in
    omega (arith, c.requires, ap length c.in_ok-line.ensures.cells, length-append c.args.cells.now.items (chain_of k c.args.factors.now).cells, length-chain k c.args.factors.now)

use Rattle.std.proofs.Common.{arith}
use Rattle.redundancy.proofs.Simulated.{holds_by_site, holds_by_ports}
use Rattle.redundancy.proofs.lines.leaf_holds.Goals as goal

pub returns-then-is_known-clause-worked : goal.returns-then-is_known-clause-worked
returns-then-is_known-clause-worked c =
    holds_by_site c.args.net.now c.args.fault c.args.cube.now c.evaluate.new.cells (omega arith) c.evaluate.ensures
    c.signal_of.result c.line_in-site.result c.is_known.result c.signal_of.ensures.signal c.signal_of.ensures.within c.line_in-site.ensures c.is_known.ensures c.if-is_known.true

pub returns-else-is_known-clause-worked : goal.returns-else-is_known-clause-worked
returns-else-is_known-clause-worked c =
    holds_by_ports c.args.net.now c.args.fault c.args.cube.now c.evaluate.new.cells (omega arith) c.evaluate.ensures
    c.signal_of.result c.line_in-site.result c.is_known.result c.all_untouched.result c.outputs-outputs.result.now c.signal_of.ensures.signal c.signal_of.ensures.within c.line_in-site.ensures c.is_known.ensures c.if-is_known.false
    c.outputs-outputs.ensures.outputs (λ o e l. (c.outputs-outputs.ensures.valid.ports o e l).1) c.all_untouched.ensures

pub returns-then-is_known-clause-tells : goal.returns-then-is_known-clause-tells
returns-then-is_known-clause-tells c = c.leaf_law.ensures c.args.net.now c.args.fault c.args.cube.now c.outputs-outputs.ensures.valid

pub returns-else-is_known-clause-tells : goal.returns-else-is_known-clause-tells
returns-else-is_known-clause-tells c = c.leaf_law.ensures c.args.net.now c.args.fault c.args.cube.now c.outputs-outputs.ensures.valid

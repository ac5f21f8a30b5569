use Rattle.davio_dd.specs.Diagram.{top}
use Rattle.davio_dd.proofs.Splits.{depth, high_depth}
use Rattle.davio_dd.proofs.diagram.Davio.+product.Given as goal

abbrev pub decreases-product : goal.decreases-product
decreases-product l = let s = l.self.now in depth s.polarity.n (top s.polarity.n s.nodes.keys l.a) (top s.polarity.n s.nodes.keys l.b)

abbrev pub decreases-product_high : goal.decreases-product_high
decreases-product_high l = high_depth l.self.now.polarity.n l.split.input

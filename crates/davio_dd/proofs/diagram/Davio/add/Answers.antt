use Rattle.davio_dd.proofs.Growing.{diagram-added, right-grows, Grows-added}
use Rattle.davio_dd.proofs.diagram.Davio.add.Goals as goal

pub invariant_of-self : goal.invariant_of-self
invariant_of-self c =
    let s = c.args.self.now in
    record {
      narrow = s.narrow;
      is_diagram = diagram-added _ _ _ _ s.is_diagram c.requires.low c.requires.high c.requires.some c.requires.below c.requires.before_low c.requires.before_high c.put.ensures.added;
      sums_right = right-grows _ _ _ _ _ (Grows-added _ _ _ c.put.ensures.added) s.sums_right;
      products_right = right-grows _ _ _ _ _ (Grows-added _ _ _ c.put.ensures.added) s.products_right;
    }

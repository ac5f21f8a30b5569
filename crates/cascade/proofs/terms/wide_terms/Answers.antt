use Rattle.std.proofs.Common.{◌∙◌, ap, List}
use Rattle.std.specs.Prelude.{filter}
use Rattle.std.specs.List.{flat_map}
use Rattle.ae_base.specs.Mask.{Set}
use Rattle.ae_base.specs.Terms.{in_order}
use Rattle.cascade.specs.Reddy.{is_wide, wide_terms}
use Rattle.cascade.proofs.Ordered.{sorted_terms}
use Rattle.cascade.proofs.terms.wide_terms.Goals as goal

pub returns : goal.returns
unfolding wide_terms
returns c =
    sorted_terms c.in_ok-list.list.items c.sort.new.self.items c.dedup.new.self.items c.sort.ensures.permutation c.in_ok-sort.ensures.sorted c.dedup.ensures.filtered
    ∙ ap in_order (c.in_ok-list.ensures ∙ ap (λ (tss : List (List Set)). filter is_wide (flat_map (λ ts. ts) tss)) c.lists.ensures.lists)

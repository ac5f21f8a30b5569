use Rattle.std.proofs.Common.{◌≡◌}
use Rattle.std.proofs.lemmas.List.Elements.{All-from_recursion}
use Rattle.ae_base.specs.Cube.{holds}
use Rattle.ae_base.specs.Mask.{differ}
use Rattle.ae_base.proofs.Distinct.{each_weaker}
use Rattle.esop.specs.Links.{Link, links}
use Rattle.esop.proofs.Thirds.{IsLink, are_links, merged_value}
use Rattle.esop.proofs.laws.link_law.Goals as goal

pub returns : goal.returns
returns c = record {
  merge = merged_value;
  links = λ c d x hc hd.
      let same : Link → Type 0 = λ l. differ (holds l.first x) (holds l.second x) ≡ differ (holds c x) (holds d x) in
      All-from_recursion same (links c d) (each_weaker (IsLink c d) same (λ l h. h.value x hc hd) (links c d) (are_links c d));
}

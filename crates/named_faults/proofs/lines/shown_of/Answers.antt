use Rattle.std.proofs.Common.{subst}
use Rattle.redundancy.specs.declared.trees.Found.TheVariants.{Differs, TooWide}
use Rattle.redundancy.specs.Visits.{IsFound}
use Rattle.named_faults.proofs.Selected.{nowhere}
use Rattle.named_faults.proofs.lines.shown_of.Goals as goal

pub returns-in-TooWide : goal.returns-in-TooWide
returns-in-TooWide c =
    let n = c.args.net.now in
    let fault = c.args.fault in
    let valid = c.valid_law.ensures in
    let tree = (c.evidence_law.ensures.exists n fault valid).1 (nowhere n fault c.requires.undetectable) in
    (tree.0, tree.1, (c.found_law.ensures.wide n fault tree.0 valid tree.1).0 (subst (IsFound n fault) c.in-TooWide.is (c.in_ok-word.ensures)))

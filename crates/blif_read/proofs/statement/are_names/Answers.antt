use Rattle.std.proofs.Common.{rules, sym, ◌∙◌}
use Rattle.std.proofs.lemmas.Iterator.{YieldsList-from_slice}
use Rattle.std.proofs.lemmas.List.Folds.{list_all-map}
use Rattle.std.proofs.lemmas.Iterator.Search.{all_from_yields_List}
use borrow.Author.Tests.{tests}
use Rattle.blif_read.specs.Words as words
use Rattle.blif_read.proofs.statement.are_names.Goals as goal

pub returns : goal.returns
returns c =
    all_from_yields_List (λ w. words.is_name_under c.args.limits w.now) _ _ _ c.all.ensures.ran (YieldsList-from_slice c.args.line.now cc) (λ x b q k. search (rules, tests))
    ∙ sym (list_all-map (words.is_name_under c.args.limits) (λ w. w.now) c.args.line.now)

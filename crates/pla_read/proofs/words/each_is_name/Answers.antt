use Rattle.std.proofs.Common.{rules, sym, ◌∙◌}
use Rattle.std.proofs.lemmas.Iterator.{YieldsList-from_slice}
use Rattle.std.proofs.lemmas.Iterator.Search.{all_from_yields_List}
use Rattle.std.proofs.lemmas.List.Folds.{list_all-map}
use borrow.Author.Tests.{tests}
use Rattle.ae_base.specs.Name.{is_source_name}
use Rattle.pla_read.proofs.words.each_is_name.Goals as goal

pub returns : goal.returns
returns c =
    all_from_yields_List (λ w. is_source_name w.now) _ _ _ c.all.ensures.ran (YieldsList-from_slice c.args.words.now cc) (λ x b q k. search (rules, tests))
    ∙ sym (list_all-map is_source_name (λ w. w.now) c.args.words.now)

use Rattle.davio_dd.specs.Diagram.{product}
use Rattle.davio_dd.proofs.Shown.{Keeps-moved, answer-Shows}
use Rattle.davio_dd.proofs.store.DavioFnStore.and.Goals as goal

pub returns-in_err-at-clause-keeps : goal.returns-in_err-at-clause-keeps
returns-in_err-at-clause-keeps c = let e = c.product.ensures in Keeps-moved _ _ _ _ (e.polarity, e.grows)

pub returns-clause-shows : goal.returns-clause-shows
returns-clause-shows c =
    let e = c.product.ensures in
    answer-Shows product _ _ _ _ c.args.self.now.is_diagram c.product.new.self.is_diagram (e.polarity, e.grows) c.args.a c.args.b (record { at = c.in_ok-at.at }) c.in_ok-at.ensures.answer

pub returns-clause-keeps : goal.returns-clause-keeps
returns-clause-keeps c = let e = c.product.ensures in Keeps-moved _ _ _ _ (e.polarity, e.grows)

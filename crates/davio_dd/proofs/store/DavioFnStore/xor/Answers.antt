use Rattle.ae_base.specs.Mask.{differ}
use Rattle.davio_dd.proofs.Shown.{Keeps-moved, answer-Shows}
use Rattle.davio_dd.proofs.store.DavioFnStore.xor.Goals as goal

pub returns-in_err-at-clause-keeps : goal.returns-in_err-at-clause-keeps
returns-in_err-at-clause-keeps c = let e = c.sum.ensures in Keeps-moved _ _ _ _ (e.polarity, e.grows)

pub returns-clause-shows : goal.returns-clause-shows
returns-clause-shows c =
    let e = c.sum.ensures in
    answer-Shows differ _ _ _ _ c.args.self.now.is_diagram c.sum.new.self.is_diagram (e.polarity, e.grows) c.args.a c.args.b (record { at = c.in_ok-at.at }) c.in_ok-at.ensures.answer

pub returns-clause-keeps : goal.returns-clause-keeps
returns-clause-keeps c = let e = c.sum.ensures in Keeps-moved _ _ _ _ (e.polarity, e.grows)

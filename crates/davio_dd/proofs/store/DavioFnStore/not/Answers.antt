use Rattle.std.proofs.Common.{true}
use Rattle.ae_base.specs.Mask.{differ}
use Rattle.davio_dd.proofs.Shown.{Keeps-moved, one-Shows, answer-Shows}
use Rattle.davio_dd.proofs.store.DavioFnStore.not.Goals as goal

pub returns-in_err-at-clause-keeps : goal.returns-in_err-at-clause-keeps
returns-in_err-at-clause-keeps c = let e = c.sum.ensures in Keeps-moved _ _ _ _ (e.polarity, e.grows)

pub returns-clause-shows : goal.returns-clause-shows
returns-clause-shows c f shows =
    let s = c.args.self.now in
    let e = c.sum.ensures in
    answer-Shows differ _ _ _ _ s.is_diagram c.sum.new.self.is_diagram (e.polarity, e.grows) (record { at = 1 }) c.args.a (record { at = c.in_ok-at.at }) c.in_ok-at.ensures.answer
    (λ x. true) f (one-Shows s.polarity s.nodes.keys s.is_diagram) shows

pub returns-clause-keeps : goal.returns-clause-keeps
returns-clause-keeps c = let e = c.sum.ensures in Keeps-moved _ _ _ _ (e.polarity, e.grows)

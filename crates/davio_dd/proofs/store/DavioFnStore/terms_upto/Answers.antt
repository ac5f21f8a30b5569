use Rattle.std.proofs.Common.{refl, rules}
use Rattle.davio_dd.proofs.Shown.{more-terms}
use Rattle.davio_dd.proofs.store.DavioFnStore.terms_upto.Goals as goal

pub returns-then-is_none-clause-more : goal.returns-then-is_none-clause-more
returns-then-is_none-clause-more c =
    let s = c.args.self.now in
    let more = (more-terms s.polarity s.nodes.keys s.is_diagram c.args.a c.requires c.args.k c.room_beside.result c.room_beside.ensures).0 c.if-is_none.ensures in
    (λ e. more, λ l. refl)

pub returns-in-Ok-clause-more : goal.returns-in-Ok-clause-more
returns-in-Ok-clause-more c =
    let s = c.args.self.now in
    let none = (more-terms s.polarity s.nodes.keys s.is_diagram c.args.a c.requires c.args.k c.room_beside.result c.room_beside.ensures).1 c.if-is_none.ensures in
    (λ e. absurd (search (rules, e)), λ l. absurd (none l))

pub returns-in-Err-clause-more : goal.returns-in-Err-clause-more
returns-in-Err-clause-more c =
    let s = c.args.self.now in
    let none = (more-terms s.polarity s.nodes.keys s.is_diagram c.args.a c.requires c.args.k c.room_beside.result c.room_beside.ensures).1 c.if-is_none.ensures in
    (λ e. absurd (search (rules, e)), λ l. absurd (none l))

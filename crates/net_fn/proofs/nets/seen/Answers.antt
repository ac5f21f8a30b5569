use Rattle.std.proofs.Common.{rules, ◌≡◌, Bool, sym}
use Rattle.ae_net.specs.Run.{seen}
use Rattle.net_fn.proofs.Kept.{Shows-same}
use Rattle.net_fn.proofs.nets.seen.Goals as goal

pub returns-then-eq-clause-shows : goal.returns-then-eq-clause-shows
returns-then-eq-clause-shows g c f h =
    let held : (v : Bool) → seen c.args.fault c.args.at v ≡ c.in-Some.fault.value = search rules in
    Shows-same (g.S.FnStore.functions c.args.store.now) c.constant.result (λ x. c.in-Some.fault.value) (λ x. seen c.args.fault c.args.at (f x)) (λ x. sym (held (f x))) c.constant.ensures

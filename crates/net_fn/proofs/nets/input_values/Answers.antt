use Rattle.std.proofs.Common.{◌≡◌, length, rules}
use Rattle.ae_base.specs.Mask.{has}
use Rattle.ae_net.specs.declared.net.Place.TheVariants.{Stem}
use Rattle.ae_net.specs.Run.{seen}
use Rattle.net_fn.proofs.References.{Shown-push}
use Rattle.net_fn.proofs.Signals.{inputs-shown}
use Rattle.net_fn.proofs.nets.input_values.Goals as goal

pub loop-j-preserved : goal.loop-j-preserved
loop-j-preserved g c =
    rw c.in_ok-push.ensures.items
    (Shown-push (g.S.FnStore.functions c.args.store.now) (g.S.FnStore.functions c.loop-j.store) (g.S.FnStore.functions c.input.new.store) c.loop-j.refs.items c.seen.result (λ j x. seen c.args.fault (Stem j) (has x j)) c.loop-j.j
    c.loop-j.invariant c.input.ensures.keeps (c.seen.ensures.shows (λ x. has x c.loop-j.j) c.in_ok-value.ensures.shows))

pub returns-clause-shows : goal.returns-clause-shows
returns-clause-shows g c =
    let all : c.loop-j.j ≡ length c.args.net.now.inputs = search rules in
    inputs-shown (g.S.FnStore.functions c.args.store.now) (g.S.FnStore.functions c.loop-j.store) c.args.net.now c.args.fault c.loop-j.refs.items c.loop-j.j all c.loop-j.invariant

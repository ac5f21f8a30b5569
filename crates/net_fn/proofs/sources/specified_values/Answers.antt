use Rattle.std.proofs.Common.{rules, ◌≡◌, ◌<◌, Bool, true, false, not, ◌&&◌, if◌then◌else◌, None, length, refl}
use Rattle.std.proofs.lemmas.Option.{slice_get-get_or}
use Rattle.ae_base.specs.Mask.{has}
use Rattle.ae_base.specs.Source.{is_on, on_set}
use Rattle.ae_base.specs.Source.Specified.{On, Off, Free}
use Rattle.ae_net.specs.NetSource.{is_free, specified_by}
use Rattle.ae_net.specs.Out.{out}
use Rattle.fn_store.specs.Functions.{Keeps}
use Rattle.net_fn.proofs.Kept.{Shows-kept, Shows-same}
use Rattle.net_fn.proofs.References.{Shown-push}
use Rattle.net_fn.proofs.sources.specified_values.Goals as goal

on_where_not_free : (on free : Bool) → (on && not free) ≡ is_on (if free then Free else if on then On else Off)
on_where_not_free true true = refl
on_where_not_free true false = refl
on_where_not_free false true = refl
on_where_not_free false false = refl

pub loop-k-preserved : goal.loop-k-preserved
loop-k-preserved g c =
    let fns = g.S.FnStore.functions in
    let s = c.args.source.now in
    let k = c.loop-k.k in
    let here : k < length c.args.values.now = search rules in
    let there : k < length c.args.frees.now = search rules in
    let start : Keeps (fns c.args.store.now) (fns c.loop-k.store) = c.loop-k.invariant.keeps in
    let inverted : Keeps (fns c.loop-k.store) (fns c.not.new.self) = c.in_ok-kept.ensures.keeps in
    let joined : Keeps (fns c.not.new.self) (fns c.and.new.self) = c.in_ok-and.ensures.keeps in
    let value = Shows-kept _ _ inverted _ _ (Shows-kept _ _ start _ _ (c.requires.values.each k _ (slice_get-get_or c.args.values.now k (record { at = 0 }) here))) in
    let free = Shows-kept _ _ start _ _ (c.requires.frees.each k _ (slice_get-get_or c.args.frees.now k (record { at = 0 }) there)) in
    rw c.in_ok-push.ensures.items
    (Shown-push _ _ (fns c.and.new.self) c.loop-k.refs.items _ (on_set (specified_by s)) k c.loop-k.invariant (search rules)
    (Shows-same _ _ (λ x. has (out s.net None x) k && not (is_free s.free k x)) (on_set (specified_by s) k) (λ x. on_where_not_free (has (out s.net None x) k) (is_free s.free k x))
    (c.in_ok-and.ensures.shows (λ x. has (out s.net None x) k) (λ x. not (is_free s.free k x)) value (c.in_ok-kept.ensures.shows (is_free s.free k) free))))

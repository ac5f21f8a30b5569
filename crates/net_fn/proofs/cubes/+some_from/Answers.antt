use Rattle.std.proofs.Common.{rules, ◌≡◌, ◌<◌, ◌≤◌, ◌+◌, cond, length, true, false, sym, ◌∙◌}
use Rattle.std.proofs.lemmas.Result.{IfOk-weaker}
use Rattle.std.proofs.lemmas.Option.{slice_get-get_or}
use Rattle.ae_base.specs.Mask.{Set}
use Rattle.fn_store.specs.Cubes.{some_holds}
use Rattle.net_fn.specs.Cofactor.{AreFrom, cofactor}
use Rattle.net_fn.specs.Refs.{AreLive, ones_at}
use Rattle.net_fn.proofs.Cofactors.{IsNext, next-is, AreFrom-cofactor, none-left, whole-holds, some-split}
use Rattle.net_fn.proofs.Kept.{Shows-kept, Shows-same}
use Rattle.net_fn.proofs.References.{AreLive-kept, ShowEach-kept}
use Rattle.net_fn.proofs.cubes.+some_from.Goals as goal

pub some_from-requires : goal.some_from-requires
some_from-requires g t c κs within =
    let next : IsNext (length c.args.refs.now) c.args.from c.args.products.now c.in-Some.k = next-is (length c.args.refs.now) c.args.from c.args.products.now c.numbers_read.result c.in-Some.k c.requires.products c.numbers_read.ensures (sym c.in-Some.ensures.least) in
    let below : c.in-Some.k < length c.args.refs.now = next.below in
    let above : c.args.from ≤ c.in-Some.k = next.above in
    let e : c.deref.result.now ≡ cofactor c.in-Some.k false c.args.products.now = c.deref.ensures.value ∙ c.in_ok-without.ensures in
    let are : AreFrom (length c.args.refs.now) (c.in-Some.k + 1) c.deref.result.now = rw e (AreFrom-cofactor (length c.args.refs.now) c.args.from c.in-Some.k false c.args.products.now c.requires.products next) in
    search rules

pub some_from-requires-2 : goal.some_from-requires-2
some_from-requires-2 g t c κs within =
    let next : IsNext (length c.args.refs.now) c.args.from c.args.products.now c.in-Some.k = next-is (length c.args.refs.now) c.args.from c.args.products.now c.numbers_read.result c.in-Some.k c.requires.products c.numbers_read.ensures (sym c.in-Some.ensures.least) in
    let below : c.in-Some.k < length c.args.refs.now = next.below in
    let above : c.args.from ≤ c.in-Some.k = next.above in
    let e : c.deref-2.result.now ≡ cofactor c.in-Some.k true c.args.products.now = c.deref-2.ensures.value ∙ c.in_ok-with.ensures in
    let are : AreFrom (length c.args.refs.now) (c.in-Some.k + 1) c.deref-2.result.now = rw e (AreFrom-cofactor (length c.args.refs.now) c.args.from c.in-Some.k true c.args.products.now c.requires.products next) in
    let live : AreLive (g.S.FnStore.functions c.some_from.new.store) c.args.refs.now = AreLive-kept _ _ c.args.refs.now c.some_from.ensures.keeps c.requires.live in
    search rules

pub bounds-refs-k : goal.bounds-refs-k
bounds-refs-k g t c =
    let next : IsNext (length c.args.refs.now) c.args.from c.args.products.now c.in-Some.k = next-is (length c.args.refs.now) c.args.from c.args.products.now c.numbers_read.result c.in-Some.k c.requires.products c.numbers_read.ensures (sym c.in-Some.ensures.least) in
    next.below

pub choose-requires-clause-by : goal.choose-requires-clause-by
choose-requires-clause-by g t c =
    let next : IsNext (length c.args.refs.now) c.args.from c.args.products.now c.in-Some.k = next-is (length c.args.refs.now) c.args.from c.args.products.now c.numbers_read.result c.in-Some.k c.requires.products c.numbers_read.ensures (sym c.in-Some.ensures.least) in
    c.some_from-2.ensures.keeps.live _ (c.some_from.ensures.keeps.live _ (c.requires.live.each c.in-Some.k _ (slice_get-get_or c.args.refs.now c.in-Some.k (record { at = 0 }) next.below)))

pub returns-clause-shows : goal.returns-clause-shows
returns-clause-shows g t c =
    let n = length c.args.refs.now in
    let k = c.in-Some.k in
    let next : IsNext (length c.args.refs.now) c.args.from c.args.products.now c.in-Some.k = next-is (length c.args.refs.now) c.args.from c.args.products.now c.numbers_read.result c.in-Some.k c.requires.products c.numbers_read.ensures (sym c.in-Some.ensures.least) in
    IfOk-weaker c.choose.result _ _
    (λ r step fs each.
    let zeros = λ (x : Set). some_holds c.deref.result.now (ones_at n fs x) in
    let ones = λ (x : Set). some_holds c.deref-2.result.now (ones_at n fs x) in
    Shows-same _ r (λ x. cond (fs k x) (ones x) (zeros x)) (λ x. some_holds c.args.products.now (ones_at n fs x))
    (λ x. some-split n k fs c.args.products.now c.deref.result.now c.deref-2.result.now x next.below (c.deref.ensures.value ∙ c.in_ok-without.ensures) (c.deref-2.ensures.value ∙ c.in_ok-with.ensures))
    (step (fs k) zeros ones
    (Shows-kept _ _ c.some_from-2.ensures.keeps _ (fs k) (Shows-kept _ _ c.some_from.ensures.keeps _ (fs k) (each.each k _ (slice_get-get_or c.args.refs.now k (record { at = 0 }) next.below))))
    (Shows-kept _ _ c.some_from-2.ensures.keeps c.in_ok-low.low zeros (c.in_ok-low.ensures.shows fs each))
    (c.in_ok-high.ensures.shows fs (ShowEach-kept _ _ c.args.refs.now fs c.some_from.ensures.keeps each))))
    c.choose.ensures.shows

pub returns-then-has_whole-clause-shows : goal.returns-then-has_whole-clause-shows
returns-then-has_whole-clause-shows g t c fs each =
    Shows-same _ c.one.result (λ x. true) (λ x. some_holds c.args.products.now (ones_at (length c.args.refs.now) fs x))
    (λ x. whole-holds c.args.products.now (sym c.has_whole.ensures ∙ c.if-has_whole.true) (ones_at (length c.args.refs.now) fs x)) c.one.ensures

pub returns-in_default-clause-shows : goal.returns-in_default-clause-shows
returns-in_default-clause-shows g t c fs each =
    Shows-same _ c.zero.result (λ x. false) (λ x. some_holds c.args.products.now (ones_at (length c.args.refs.now) fs x))
    (λ x. none-left c.args.products.now c.numbers_read.result c.numbers_read.ensures (sym c.least.ensures.least ∙ c.in_default.is) (sym c.has_whole.ensures ∙ c.if-has_whole.false) (ones_at (length c.args.refs.now) fs x)) c.zero.ensures

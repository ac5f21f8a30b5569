use Rattle.std.proofs.Common.{sym}
use Rattle.ae_base.specs.Source.{on_set}
use Rattle.ae_cover.specs.Cover.{is_one, some_row, source_of}
use Rattle.net_fn.proofs.References.{ShowEach-same}
use Rattle.net_fn.proofs.covers.cover_values.Goals as goal

pub returns-clause-source : goal.returns-clause-source
returns-clause-source g c =
    let t = c.args.cover.now in
    ShowEach-same (g.S.FnStore.functions c.loop-output.store) c.loop-output.refs.items (some_row is_one t.rows) (on_set (source_of t)) (λ o x. sym (c.on_law.ensures t o x)) c.loop-output.invariant.shows

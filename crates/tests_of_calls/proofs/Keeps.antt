-- What the covers of tests keep to.
use Rattle.ae_cover.specs.declared.parts.Kind.{Kind}
use Rattle.ae_cover.specs.Cover.{Table, IsCover}

pub with_kind : (t : Table) (kind : Kind) → IsCover t → IsCover (record { inputs = t.inputs; outputs = t.outputs; kind = kind; rows = t.rows })
with_kind t kind cover = record { inputs = cover.inputs; outputs = cover.outputs; named = cover.named; distinct = cover.distinct; few = cover.few; rows = cover.rows }

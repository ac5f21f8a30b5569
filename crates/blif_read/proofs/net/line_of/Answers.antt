use Rattle.std.proofs.Common.{◌<◌, length, sym, subst, ◌∙◌}
use Rattle.blif_read.specs.declared.draft.Draft.{Draft}
use Rattle.blif_read.proofs.Drafts.{line_number}
use Rattle.blif_read.proofs.net.line_of.Goals as goal

pub returns : goal.returns
returns c =
    let draft = c.index-drafts-place.result in
    let lt : draft.line < length c.args.lines.now = subst (λ (d : Draft). d.line < length c.args.lines.now) (sym c.index-drafts-place.is) (c.requires.lines c.args.place draft c.requires.within) in
    c.number.ensures ∙ line_number c.args.lines.now c.args.drafts.now c.args.place draft c.index-lines-draft.result c.requires.within c.index-drafts-place.is c.index-lines-draft.is lt

use Rattle.std.proofs.Common.{◌≡◌, ◌<◌, ℕ, List, [], length, get_or, subst, ap, ◌∙◌, arith}
use Rattle.std.specs.Prelude.{IfOk}
use Rattle.std.proofs.lemmas.List.{get_or_read}
use Rattle.ae_net.specs.declared.net.Gate.{Gate}
use Rattle.blif_read.proofs.Drafts.{built_is}
use Rattle.blif_read.proofs.net.gate_at.Goals as goal

pub returns : goal.returns
returns c =
    let driven = c.args.seen.now.driven in
    let slice : c.as_slice.result.now ≡ driven = c.as_slice.ensures in
    let within : c.args.place < length c.as_slice.result.now = omega (arith, ap length slice, c.requires.buildable.drafts_size, c.requires.within) in
    let name : c.index-as_slice-place.result ≡ get_or driven c.args.place [] =
    get_or_read c.as_slice.result.now c.args.place c.index-as_slice-place.result within c.index-as_slice-place.is [] ∙ ap (λ (ws : List (List ℕ)). get_or ws c.args.place []) slice in
    subst (λ (g : Gate). IfOk c.gate_of.result (λ gate. gate ≡ g))
    (built_is c.args.lines.now c.lines_after-after.result.now driven c.args.drafts.now (length c.args.seen.now.inputs) c.args.ranks.now c.args.place c.index-drafts-place.result c.index-as_slice-place.result c.as_slice-2.result.now c.len-inputs.result
    c.requires.within c.index-drafts-place.is c.lines_after-after.ensures name c.as_slice-2.ensures c.len-inputs.ensures)
    c.gate_of.ensures

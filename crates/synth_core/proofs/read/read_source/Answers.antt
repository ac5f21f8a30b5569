use Rattle.std.proofs.Common.{◌≡◌, ◌∙◌, Ok, length, ap, refl}
use Rattle.ae_cover.specs.Cover.{source_of}
use Rattle.ae_net.specs.NetSource.{specified_by}
use Rattle.synth_core.specs.Says.{source_says}
use Rattle.synth_core.proofs.Sources.{other_count}
use Rattle.synth_core.proofs.read.read_source.Goals as goal

pub returns-in_err-polarity-in-Pla-clause-bit_count : goal.returns-in_err-polarity-in-Pla-clause-bit_count
returns-in_err-polarity-in-Pla-clause-bit_count c =
    let cover = c.in_ok-cover-in-Pla.cover in
    let says : source_says c.args.settings.now.kind c.args.bytes.now ≡ Ok (source_of cover) = rw (c.in-Pla.is, c.in_ok-cover-in-Pla.ensures) refl in
    other_count c.args.settings.now c.args.bytes.now (source_of cover) _ _ _ says (ap length c.inputs.ensures.inputs) c.in_err-polarity-in-Pla.ensures.other c.in_err-polarity-in-Pla.ensures.differ c.from_residual-in_err-polarity-in-Pla.ensures.1

pub returns-in_err-polarity-in-Blif-clause-bit_count : goal.returns-in_err-polarity-in-Blif-clause-bit_count
returns-in_err-polarity-in-Blif-clause-bit_count c =
    let s = c.in_ok-source-in-Blif.source in
    let says : source_says c.args.settings.now.kind c.args.bytes.now ≡ Ok (specified_by s) = rw (c.in-Blif.is, c.in_ok-source-in-Blif.ensures) refl in
    other_count c.args.settings.now c.args.bytes.now (specified_by s) _ _ _ says (ap length c.inputs-in-Blif.ensures.inputs ∙ ap (λ n. length n.inputs) c.net.ensures.net) c.in_err-polarity-in-Blif.ensures.other c.in_err-polarity-in-Blif.ensures.differ c.from_residual-in_err-polarity-in-Blif.ensures.1

use Rattle.std.proofs.Common.{◌≡◌, ◌∙◌, subst}
use Rattle.std.specs.Prelude.{IfOk}
use Rattle.std.specs.Fmt.{decimal}
use Rattle.ae_net.proofs.InnerAreNames.{numbered_is_name, numbered_bytes}
use Rattle.ae_net.proofs.names.numbered_name.Goals as goal

pub known-requires : goal.known-requires
known-requires c =
    numbered_is_name c.args.k c.args.letter c.args.number c.as_slice.result.now
    (numbered_bytes c.args.k c.args.letter (decimal c.args.number) _ _ _ c.in_ok-bytes.ensures (c.as_bytes.ensures.value ∙ c.in_ok-digits.ensures.ok) (c.as_slice.ensures.value ∙ c.in_ok-extend_from_slice.ensures.items))
    c.requires.short c.requires.letter c.ranges.number.fits

pub returns : goal.returns
returns c =
    subst (λ bytes. IfOk c.known.result (λ name. name ≡ bytes))
    (numbered_bytes c.args.k c.args.letter (decimal c.args.number) _ _ _ c.in_ok-bytes.ensures (c.as_bytes.ensures.value ∙ c.in_ok-digits.ensures.ok) (c.as_slice.ensures.value ∙ c.in_ok-extend_from_slice.ensures.items))
    c.known.ensures

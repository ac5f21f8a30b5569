use Rattle.demo_source.proofs.Texts.{demo_made}
use Rattle.demo_source.proofs.text.demo_text.Goals as goal

pub returns : goal.returns
returns c =
    demo_made c.args.seed c.args.form _ _ _ _ _ _ _ _ _ c.sizes_of-sizes.ensures.inputs c.sizes_of-sizes.ensures.outputs c.sizes_of-sizes.ensures.rows c.new.ensures c.new-out.ensures.items
    c.in_ok-push_header.ensures c.in_ok-push_header-2.ensures c.in_ok-push_rows.ensures c.in_ok-extend_from_slice.ensures.items

use Rattle.std.proofs.Common.{◌∷◌, []}
use Rattle.std.specs.Prelude.{codes}
use Rattle.vec_text.proofs.Written.{lines_more}
use Rattle.vec_text.proofs.text.push_lists.Goals as goal

pub returns : goal.returns
returns c =
    lines_more c.args.out.now.items c.push_list.new.out.items c.push_list-2.new.out.items ((codes "inputs" ∷ c.args.inputs.now) ∷ []) ((codes "outputs" ∷ c.args.outputs.now) ∷ [])
    c.in_ok-push_list.ensures c.in_ok-push_list-2.ensures

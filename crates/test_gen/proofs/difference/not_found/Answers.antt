use Rattle.std.proofs.Common.{◌<◌, length, false, not, ap, ◌∙◌, rules}
use Rattle.std.specs.Prelude.{None}
use Rattle.ae_net.specs.declared.net.Place.TheVariants.{Stem}
use Rattle.test_gen.proofs.Picked.{picked-in, picked-out}
use Rattle.test_gen.proofs.difference.not_found.Goals as goal
use Rattle.test_gen.proofs.difference.not_found.Goals.{then-is_none+in_ok-push, else-is_none}

pub loop-k-preserved : goal.loop-k-preserved
loop-k-preserved c keep zip =
    let within : c.loop-k.k < length c.args.list.now = search rules in
    elim c.if-is_none.branch [
      | then-is_none+in_ok-push w ↦
          picked-in keep c.args.list.now c.loop-k.left.items c.if-is_none.left.items c.args.found.now c.loop-k.k (record { place = Stem 0; value = false }) None zip within
          (ap not c.is_none.ensures ∙ ap (λ b. not (not b)) w.if-is_none.true) (c.loop-k.invariant keep zip) (search rules)
      | else-is_none w ↦
          rw w.left-is
          (picked-out keep c.args.list.now c.loop-k.left.items c.args.found.now c.loop-k.k (record { place = Stem 0; value = false }) None zip within
          (ap not c.is_none.ensures ∙ ap (λ b. not (not b)) w.if-is_none.false) (c.loop-k.invariant keep zip))
    ]

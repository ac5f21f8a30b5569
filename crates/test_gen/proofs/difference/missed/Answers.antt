use Rattle.std.proofs.Common.{length}
use Rattle.std.proofs.Common.{not, ap, ◌∙◌}
use Rattle.std.proofs.lemmas.Result.{IfOk-weaker}
use Rattle.std.proofs.lemmas.Slice.Zip.{AllZip-long}
use Rattle.test_gen.specs.Tests.{detects}
use Rattle.test_gen.proofs.Picked.{one_point}
use Rattle.test_gen.proofs.difference.missed.Goals as goal

pub not_found-requires : goal.not_found-requires
not_found-requires c = ap length c.deref.ensures.value ∙ AllZip-long _ c.args.list.now c.in_ok-found.found.items c.in_ok-found.ensures

pub returns : goal.returns
returns c =
    IfOk-weaker c.not_found.result _ _
    (λ left h. h (λ fault. not (detects c.args.net.now fault c.args.point)) (rw c.deref.ensures.value
    (one_point c.args.net.now c.args.point (λ fault. c.truth_law.ensures c.args.net.now fault c.args.point c.valid_law.ensures) c.args.list.now c.in_ok-found.found.items c.in_ok-found.ensures)))
    c.not_found.ensures

use Rattle.std.proofs.Common.{◌≡◌, ◌∙◌, length, map, arith, refl, ap}
use Rattle.std.specs.Prelude.{◌↔◌, None}
use Rattle.ae_base.specs.Mask.{Set}
use Rattle.ae_net.specs.Detects.{Detects}
use Rattle.ae_net.specs.Faults.{fault_list}
use Rattle.ae_net.specs.Out.{Differs}
use Rattle.ae_net.specs.declared.net.Fault.{Fault}
use Rattle.grading.specs.Counts.{wrong_count}
use Rattle.grading.specs.Grade.{points_of}
use Rattle.grading.proofs.Reported.{few, is_report, so_far}
use Rattle.grading.proofs.graded.report_of.Goals as goal

pub overflow_sub-result : goal.overflow_sub-result
overflow_sub-result c =
    let n = c.args.net.now in
    let file = c.args.file.now in
    let vectors : c.as_slice-vectors.result.now ≡ file.vectors = c.as_slice-vectors.ensures ∙ ap (λ f. f.vectors) c.file.view_is in
    let points : c.deref-2.result.now ≡ points_of file = c.deref-2.ensures.value ∙ c.in_ok-points.ensures ∙ ap (map (λ v. v.point)) vectors in
    let list : c.deref-3.result.now ≡ fault_list n = c.deref-3.ensures.value ∙ c.in_ok-list.ensures in
    let so = so_far n file c.in_ok-parts.parts c.looked_at.ensures points list c.in_ok-parts.ensures in
    let detects : (fault : Fault) (x : Set) → Detects n fault x ↔ Differs n fault x = λ fault x. c.detects_law.ensures n fault x c.valid_law.ensures in
    omega (arith, few c.args.mode n file c.in_ok-parts.parts so detects, c.len-2.ensures, ap length c.in_ok-list.ensures)

pub overflow_sub-result-2 : goal.overflow_sub-result-2
overflow_sub-result-2 c =
    let n = c.args.net.now in
    let file = c.args.file.now in
    let vectors : c.as_slice-vectors.result.now ≡ file.vectors = c.as_slice-vectors.ensures ∙ ap (λ f. f.vectors) c.file.view_is in
    let points : c.deref-2.result.now ≡ points_of file = c.deref-2.ensures.value ∙ c.in_ok-points.ensures ∙ ap (map (λ v. v.point)) vectors in
    let list : c.deref-3.result.now ≡ fault_list n = c.deref-3.ensures.value ∙ c.in_ok-list.ensures in
    let so = so_far n file c.in_ok-parts.parts c.looked_at.ensures points list c.in_ok-parts.ensures in
    let detects : (fault : Fault) (x : Set) → Detects n fault x ↔ Differs n fault x = λ fault x. c.detects_law.ensures n fault x c.valid_law.ensures in
    omega (arith, few c.args.mode n file c.in_ok-parts.parts so detects, c.len-2.ensures, c.len-3.ensures, ap length c.in_ok-list.ensures)

pub returns : goal.returns
returns c =
    let n = c.args.net.now in
    let file = c.args.file.now in
    let vectors : c.as_slice-vectors.result.now ≡ file.vectors = c.as_slice-vectors.ensures ∙ ap (λ f. f.vectors) c.file.view_is in
    let points : c.deref-2.result.now ≡ points_of file = c.deref-2.ensures.value ∙ c.in_ok-points.ensures ∙ ap (map (λ v. v.point)) vectors in
    let list : c.deref-3.result.now ≡ fault_list n = c.deref-3.ensures.value ∙ c.in_ok-list.ensures in
    let so = so_far n file c.in_ok-parts.parts c.looked_at.ensures points list c.in_ok-parts.ensures in
    let detects : (fault : Fault) (x : Set) → Detects n fault x ↔ Differs n fault x = λ fault x. c.detects_law.ensures n fault x c.valid_law.ensures in
    let wrong = c.in_ok-wrong.ensures ∙ ap (wrong_count n) vectors in
    is_report c.args.mode n file c.in_ok-parts.parts so detects (λ x. c.one_run.ensures.shows n None x c.valid_law.ensures) (λ x ys. c.one_run.ensures.only n None x ys c.valid_law.ensures) _
    (ap length vectors) wrong (omega (arith, c.len.ensures, ap length c.in_ok-list.ensures))
    (omega (arith, c.len-2.ensures, c.len-3.ensures, ap length c.in_ok-list.ensures)) refl refl

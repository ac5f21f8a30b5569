use Rattle.std.proofs.Common.{◌≡◌, ◌-◌, ◌<◌, ◌≤◌, length, ap, sym, ◌∙◌, arith}
use Rattle.std.specs.Prelude.{slice_index}
use Rattle.ae_base.proofs.Below.{where_below_agree}
use Rattle.ae_net.specs.Run.{table}
use Rattle.fault_sim.specs.Polynomials.{lane_of}
use Rattle.fault_sim.proofs.Moebius.{lane_of-few, pins-agree}
use Rattle.fault_sim.proofs.polynomial.polynomial_of.Goals as goal

pub returns-clause-polynomial : goal.returns-clause-polynomial
returns-clause-polynomial c =
    let gate = c.args.gate.now in
    let p = c.polynomial_from.result in
    let pins : c.as_slice-pins.result.now ≡ gate.pins = c.as_slice-pins.ensures in
    let few : length gate.pins ≤ 2 = omega (arith, c.if-count-gt2.false, ap length pins) in
    let some : 0 < length gate.pins = omega (arith, c.if-count-eq0.false, ap length pins) in
    let first : p.x ≡ slice_index gate.pins 0 = c.polynomial_from.ensures.x ∙ ap (λ list. slice_index list 0) pins in
    let last : p.y ≡ slice_index gate.pins (length gate.pins - 1) = c.polynomial_from.ensures.y ∙ ap (λ list. slice_index list (length list - 1)) pins in record {
      x = (0, some, sym first);
      y = (length gate.pins - 1, omega (arith, some), sym last);
      value_is = λ v.
          ap (table gate) (where_below_agree (length gate.pins) _ _ (λ k lt. pins-agree gate.pins c.write_cases.new.seen v p.x p.y k first last few c.write_cases.ensures.first c.write_cases.ensures.second lt))
          ∙ sym (c.table_word-told.ensures (lane_of (v p.x) (v p.y)) (lane_of-few (v p.x) (v p.y)))
          ∙ sym (c.polynomial_from.ensures.value v);
    }

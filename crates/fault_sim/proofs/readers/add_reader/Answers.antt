use Rattle.std.proofs.Common.{◌≡◌, ◌<◌, ◌++◌, ◌∷◌, [], inl, inr, length, set, arith, ◌∙◌, sym, subst, ap}
use Rattle.std.specs.Prelude.{slice_index}
use Rattle.std.proofs.lemmas.Bool.{cases_eq}
use Rattle.std.proofs.lemmas.List.{length-set, get_or_default}
use Rattle.fault_sim.specs.Marks.{IsAmong}
use Rattle.fault_sim.specs.Spread.{row}
use Rattle.fault_sim.proofs.Reading.{added-kept, added-only, added-self}
use Rattle.fault_sim.proofs.readers.add_reader.Goals as goal

pub loop-pin-preserved : goal.loop-pin-preserved
loop-pin-preserved c =
    let readers = c.loop-pin.readers in
    let gate = c.args.gate in
    let pins = c.args.pins.now in
    let at = c.loop-pin.pin-index in
    let p = slice_index pins at in
    let list = c.push.new.self in
    let within : p < length readers = omega (arith, c.requires.earlier at 0 (omega (arith, c.loop-pin-test.true, c.loop-pin.auto.pin-index-end)), c.loop-pin.invariant.len) in
    let is : list ≡ row readers p ++ gate ∷ [] = c.in_ok-push.ensures.ok ∙ ap (λ xs. xs ++ gate ∷ []) (get_or_default readers p _ [] within) in record {
      kept = λ s i among. added-kept readers p gate list within is s i (c.loop-pin.invariant.kept s i among);
      each = λ k lt. elim (cases_eq k at) [
        | inl e ↦ subst (λ k. IsAmong (row (set readers p list) (slice_index pins k)) gate) (sym e) (added-self readers p gate list within is)
        | inr ne ↦ added-kept readers p gate list within is (slice_index pins k) gate (c.loop-pin.invariant.each k (omega (arith, lt, ne)))
      ];
      only = λ s i among. elim (added-only readers p gate list within is s i among) [
        | inl old ↦ c.loop-pin.invariant.only s i old
        | inr new ↦ inr (new.0, (at, omega (arith, c.loop-pin-test.true, c.loop-pin.auto.pin-index-end), sym new.1))
      ];
      len = length-set readers p list ∙ c.loop-pin.invariant.len;
    }

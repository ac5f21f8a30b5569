use Rattle.std.proofs.Common.{◌<◌, ◌+◌, false, length, subst, ◌∙◌, arith}
use Rattle.std.specs.Prelude.{None}
use Rattle.std.proofs.lemmas.List.{length-set}
use Rattle.std.proofs.lemmas.Option.{slice_get-get_or}
use Rattle.ae_net.specs.declared.net.Place.TheVariants.{Stem}
use Rattle.fault_sim.specs.Lanes.{IsPass}
use Rattle.fault_sim.proofs.Searches.{more-found, rest-found}
use Rattle.fault_sim.proofs.search.try_faults.Goals as goal

pub loop-k-preserved : goal.loop-k-preserved
loop-k-preserved c =
    let k = c.loop-k.k in
    let list = c.args.list.now in
    let n = c.args.net.now in
    let found = c.loop-k.found in
    let within : k < length list = omega (arith, c.loop-k-test.true, c.loop-k.auto.k-end) in
    let there = slice_get-get_or list k (record { place = Stem 0; value = false }) within in
    let found_there = slice_get-get_or found k None (omega (arith, within, c.loop-k.invariant.len, c.requires.len)) in
    record {
      bench = c.in_ok-found.ensures.bench;
      all = c.in_ok-found.ensures.all;
      good = c.in_ok-found.ensures.good ∙ c.loop-k.invariant.good;
      len = length-set found k c.in_ok-found.field-0 ∙ c.loop-k.invariant.len;
      first = λ points pass before.
          let now : IsPass n points c.args.base c.args.count c.loop-k.bench.good.items = subst (λ good. IsPass n points c.args.base c.args.count good.items) c.in_ok-found.ensures.good pass in
          let parts = c.loop-k.invariant.first points now before in (
            more-found n points (c.args.base + c.args.count) list found k _ c.in_ok-found.field-0 there (c.in_ok-found.ensures.first points now (parts.1 k _ _ (omega arith) within there found_there)) parts.0,
            rest-found n points c.args.base (length list) list found k c.in_ok-found.field-0 parts.1,
          );
    }

use Rattle.std.proofs.Common.{◌≡◌, ◌+◌, ◌*◌, ◌++◌, map}
use Rattle.std.specs.List.{range_with_len}
use Rattle.ae_base.specs.Text.{text_of}
use Rattle.polarity.specs.Draws.{after_draws}
use Rattle.demo_source.specs.Demo.{demo_row}
use Rattle.demo_source.proofs.rows.push_rows.Given as goal

abbrev pub invariant-loop : goal.invariant-loop
invariant-loop l = record {
  text : l.out.items ≡ l.fn.out.items ++ text_of (map (demo_row l.sizes.inputs l.sizes.outputs l.fn.generator) (range_with_len 0 l.counter));
  state : l.generator ≡ after_draws (l.counter * (l.sizes.inputs + l.sizes.outputs)) l.fn.generator;
}

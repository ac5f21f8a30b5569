use Rattle.std.proofs.Common.{◌≡◌, ◌++◌}
use Rattle.polarity.specs.Draws.{after_draws}
use Rattle.demo_source.specs.Demo.{characters, input_char}
use Rattle.demo_source.proofs.rows.push_inputs.Given as goal

abbrev pub invariant-loop : goal.invariant-loop
invariant-loop l = record {
  text : l.out.items ≡ l.fn.out.items ++ characters input_char l.fn.generator 0 l.counter;
  state : l.generator ≡ after_draws l.counter l.fn.generator;
}

use Rattle.std.proofs.Common.{◌≡◌, ◌<◌, ◌+◌, ◌-◌, ◌*◌, ◌^◌, take}
use Rattle.std.specs.List.{fold}
use Rattle.ae_base.proofs.digits.value.Given as goal

abbrev pub invariant-loop-b : goal.invariant-loop-b
invariant-loop-b l = record {
  value : l.n ≡ fold (λ n b. 10 * n + (b - 48)) 0 (take l.b-index l.word);
  small : l.n < 10 ^ l.b-index;
}

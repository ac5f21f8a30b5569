use Rattle.std.proofs.Common.{◌≡◌, ℕ, ◌+◌, ◌||◌, ◌&&◌, eqb, ltb, get_or, take}
use Rattle.blif_order.specs.Kept as kept
use Rattle.blif_order.proofs.order.release.Given as goal

abbrev pub invariant-loop-i : goal.invariant-loop-i
invariant-loop-i l = record {
  missing : (i : ℕ) → get_or l.missing i 0 + kept.count i (take l.i-index l.list) ≡ get_or l.fn.missing i 0;
  ready : (i : ℕ) → kept.has l.ready i ≡ (kept.has l.fn.ready i || (ltb 0 (kept.count i (take l.i-index l.list)) && eqb (get_or l.missing i 0) 0));
}

use Rattle.std.proofs.Common.{◌∙◌, ap, sym, inl, inr, eqb, get_or, length, arith, eq-eqb, ne_eqb}
use Rattle.std.proofs.lemmas.Bool.{cases_eq}
use Rattle.std.proofs.lemmas.List.Sums.{position_or_len_is}
use Rattle.factor.proofs.parts.place_of.Goals as goal

pub loop-i-preserved : goal.loop-i-preserved
loop-i-preserved c k l = elim (cases_eq k c.loop-i.i) [
  | inl e ↦ ap (λ i. eqb (get_or c.args.list.now i 0) c.args.x) e ∙ ne_eqb _ _ c.if-list-i.false
  | inr other ↦ c.loop-i.invariant k (omega (arith, l, other))
]

pub returns-then-list-i-clause-place : goal.returns-then-list-i-clause-place
returns-then-list-i-clause-place c = sym (position_or_len_is (λ y. eqb y c.args.x) c.args.list.now c.loop-i.i 0 (omega arith) c.loop-i.invariant (λ l. eq-eqb _ _ c.if-list-i.true))

pub returns-clause-place : goal.returns-clause-place
returns-clause-place c = sym (position_or_len_is (λ y. eqb y c.args.x) c.args.list.now (length c.args.list.now) 0 (omega arith) (λ k l. c.loop-i.invariant k (omega (arith, l, c.loop-i-test.false))) (λ l. absurd (omega (arith, l))))

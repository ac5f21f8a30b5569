use Rattle.std.proofs.Common.{ap, sym, ◌∙◌, arith}
use Rattle.std.proofs.lemmas.List.{drop_all}
use Rattle.ae_base.specs.Twins.{has_twins}
use Rattle.ae_base.proofs.Apart.{distinct_of}
use Rattle.ae_base.proofs.twins.has_twins.Goals as goal

pub returns-clause-distinct : goal.returns-clause-distinct
returns-clause-distinct c = λ _. distinct_of c.args.names.now (sym c.loop-i.invariant ∙ ap has_twins (drop_all c.loop-i.i c.args.names.now (omega (arith, c.loop-i-test.false))))

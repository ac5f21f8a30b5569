use Rattle.factor.proofs.build.factored.Goals as goal

pub returns-clause-values : goal.returns-clause-values
returns-clause-values c = c.factored_law.ensures.values c.args.names.now c.args.e.now c.in_ok-net.net c.can_build.ensures c.in_ok-net.ensures

use Rattle.factor.proofs.Meaning.{picked_none, picked_some}
use Rattle.factor.proofs.literals.most_common.Goals as goal

pub returns-in-None-clause-picked : goal.returns-in-None-clause-picked
returns-in-None-clause-picked c = picked_none c.args.n c.args.cubes.now c.requires.over c.in-None.ensures.best

pub returns-in-Some-clause-picked : goal.returns-in-Some-clause-picked
returns-in-Some-clause-picked c = picked_some c.args.n c.args.cubes.now c.requires.over c.in-Some.best c.in-Some.ensures.best

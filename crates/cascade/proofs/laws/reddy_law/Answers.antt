use Rattle.std.proofs.Common.{ap, ◌∙◌, refl}
use Rattle.std.specs.Prelude.{codes}
use Rattle.ae_base.specs.Mask.{differ}
use Rattle.ae_base.specs.Terms.{value}
use Rattle.ae_net.specs.Lead.{lead}
use Rattle.ae_net.specs.Names.{inner}
use Rattle.cascade.specs.Shows.{reddy_net}
use Rattle.cascade.proofs.Valid.{port_names_are, shown, valid}
use Rattle.cascade.proofs.laws.reddy_law.Goals as goal

pub returns-clause-valid : goal.returns-clause-valid
returns-clause-valid c = valid

pub returns-clause-functions : goal.returns-clause-functions
returns-clause-functions c names e h x low o ts there = shown names e h x o ts there ∙ ap (λ b. differ b (value e.polarity ts x)) low

pub returns-clause-complements : goal.returns-clause-complements
returns-clause-complements c names e h x high o ts there = shown names e h x o ts there ∙ ap (λ b. differ b (value e.polarity ts x)) high

pub returns-clause-inputs : goal.returns-clause-inputs
unfolding reddy_net
returns-clause-inputs c names e h = (inner (lead names) (codes "c"), refl)

pub returns-clause-ports : goal.returns-clause-ports
returns-clause-ports c = port_names_are

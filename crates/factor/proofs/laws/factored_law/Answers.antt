use Rattle.std.proofs.Common.{sym, subst, ◌≤◌}
use Rattle.ae_net.specs.Network.{Network}
use Rattle.ae_net.specs.Valid.{IsValid}
use Rattle.factor.specs.Shows.{ShowsEsop, HasNames, cube_count, exor_count}
use Rattle.factor.proofs.Law as law
use Rattle.factor.proofs.laws.factored_law.Goals as goal

pub returns-clause-valid : goal.returns-clause-valid
returns-clause-valid c names e net can form = subst IsValid (sym form.is) (law.valid names e form.sums c.names_law.ensures can form.are_sums)

pub returns-clause-values : goal.returns-clause-values
returns-clause-values c names e net can form = subst (λ (n : Network). ShowsEsop n e) (sym form.is) (law.shows names e form.sums c.names_law.ensures can form.are_sums)

pub returns-clause-few_exors : goal.returns-clause-few_exors
returns-clause-few_exors c names e net form = subst (λ (n : Network). exor_count n ≤ cube_count e) (sym form.is) (law.few_exors names e form.sums form.are_sums)

pub returns-clause-names : goal.returns-clause-names
returns-clause-names c names e net can form = subst (HasNames names) (sym form.is) (law.named_net names e form.sums can.fits form.are_sums)

pub returns-clause-only : goal.returns-clause-only
returns-clause-only c = law.one_net

use Rattle.std.proofs.Common.{ap}
use Rattle.ae_cover.specs.Clash.{zero_is_off}
use Rattle.ae_cover.proofs.Clashes.{found_is, none_is_before, none_is, test_is, unmarked}
use Rattle.ae_cover.proofs.laws.clash_laws.Goals as goal

pub returns-clause-found : goal.returns-clause-found
returns-clause-found c = found_is

pub returns-clause-first : goal.returns-clause-first
returns-clause-first c = none_is_before

pub returns-clause-none : goal.returns-clause-none
returns-clause-none c = λ t d. none_is t d

pub returns-clause-test : goal.returns-clause-test
returns-clause-test c = test_is

pub returns-clause-f : goal.returns-clause-f
returns-clause-f c = λ t e. unmarked t (ap zero_is_off e)

pub returns-clause-fd : goal.returns-clause-fd
returns-clause-fd c = λ t e. unmarked t (ap zero_is_off e)

use Rattle.universal_tests.proofs.vectors.universal.Goals as goal

pub returns-clause-others : goal.returns-clause-others
returns-clause-others c = rw c.in_ok-list.ensures (λ names can. c.universal_law.ensures.others names c.args.e.now can)

pub returns-clause-literals : goal.returns-clause-literals
returns-clause-literals c = rw c.in_ok-list.ensures (λ names can. c.universal_law.ensures.literals names c.args.e.now can)

pub returns-clause-used_not_even : goal.returns-clause-used_not_even
returns-clause-used_not_even c = rw c.in_ok-list.ensures (λ s names are can. c.universal_law.ensures.used_not_even s names c.args.e.now are can)

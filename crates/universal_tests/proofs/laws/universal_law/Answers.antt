use Rattle.universal_tests.proofs.Literals as literals
use Rattle.universal_tests.proofs.Whole as whole
use Rattle.universal_tests.proofs.laws.universal_law.Goals as goal

pub returns-clause-others : goal.returns-clause-others
returns-clause-others c = whole.detects

pub returns-clause-literals : goal.returns-clause-literals
returns-clause-literals c = literals.detects_odd

pub returns-clause-used_not_even : goal.returns-clause-used_not_even
returns-clause-used_not_even c s names e are can fault j tested =
    literals.detects_odd names e can fault j (literals.held_oddly s e are (c.even_law.ensures.used s e.polarity e are) (c.even_law.ensures.even s e.polarity e are) (c.even_law.ensures.counted e can.terms) j tested)

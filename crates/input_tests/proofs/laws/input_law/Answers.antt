use Rattle.input_tests.proofs.Whole as whole
use Rattle.input_tests.proofs.laws.input_law.Goals as goal

pub returns-clause-complete : goal.returns-clause-complete
returns-clause-complete c names e can = whole.detects_all names e can (c.even_law.ensures.counted e can.terms)

pub returns-clause-few : goal.returns-clause-few
returns-clause-few c = whole.few

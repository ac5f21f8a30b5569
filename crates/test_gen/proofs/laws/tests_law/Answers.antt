use Rattle.test_gen.proofs.Detected.{all_points, is_complete, is_each_new, undetectable_ones}
use Rattle.ae_net.specs.Faults.{fault_list}
use Rattle.test_gen.proofs.laws.tests_law.Goals as goal

pub returns-clause-points : goal.returns-clause-points
returns-clause-points c n p valid inputs = all_points n p inputs (λ fault x. c.truth_law.ensures n fault x valid)

pub returns-clause-complete : goal.returns-clause-complete
returns-clause-complete c n p valid inputs = is_complete n p inputs (λ fault x. c.truth_law.ensures n fault x valid) (λ fault. c.fault_laws.ensures.places n fault valid)

pub returns-clause-each_new : goal.returns-clause-each_new
returns-clause-each_new c n p valid inputs = is_each_new n p inputs (λ fault x. c.truth_law.ensures n fault x valid) (λ fault. c.fault_laws.ensures.places n fault valid)

pub returns-clause-undetectable : goal.returns-clause-undetectable
returns-clause-undetectable c n p valid inputs = undetectable_ones n p inputs (λ fault x. c.truth_law.ensures n fault x valid) (fault_list n)

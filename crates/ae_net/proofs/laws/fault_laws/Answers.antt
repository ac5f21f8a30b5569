use Rattle.ae_net.proofs.FaultLaws.{fault_listed, place_of_fault, faults_once, read_within}
use Rattle.ae_net.proofs.laws.fault_laws.Goals as goal

pub returns-clause-places : goal.returns-clause-places
returns-clause-places c = λ n fault valid. (place_of_fault n fault, fault_listed n valid fault)

pub returns-clause-once : goal.returns-clause-once
returns-clause-once c = faults_once

pub returns-clause-read : goal.returns-clause-read
returns-clause-read c = read_within

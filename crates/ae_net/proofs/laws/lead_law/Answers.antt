use Rattle.ae_net.proofs.LeadLemmas.{lead_is_lead, one_lead}
use Rattle.ae_net.specs.Lead.{lead}
use Rattle.ae_net.proofs.laws.lead_law.Goals as goal

pub returns-clause-least : goal.returns-clause-least
returns-clause-least c = lead_is_lead

pub returns-clause-only : goal.returns-clause-only
returns-clause-only c = λ names k is. one_lead names k (lead names) is (lead_is_lead names)

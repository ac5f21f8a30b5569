use Rattle.ae_base.proofs.Members.{members-has, members-increasing, members-filter, len-members, least-is}
use Rattle.ae_base.proofs.laws.member_laws.Goals as goal

pub returns-clause-members : goal.returns-clause-members
returns-clause-members c = members-has

pub returns-clause-increasing : goal.returns-clause-increasing
returns-clause-increasing c = members-increasing

pub returns-clause-below : goal.returns-clause-below
returns-clause-below c = members-filter

pub returns-clause-len : goal.returns-clause-len
returns-clause-len c = len-members

pub returns-clause-least : goal.returns-clause-least
returns-clause-least c = λ s j e. (least-is s j e).0

pub returns-clause-none_below : goal.returns-clause-none_below
returns-clause-none_below c = λ s j k e. (least-is s j e).1 k

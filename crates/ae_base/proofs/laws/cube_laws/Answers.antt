use Rattle.ae_base.proofs.Products.{holds-has, has-holds}
use Rattle.ae_base.proofs.Meets.{common, left_holds, right_holds, meets}
use Rattle.ae_base.proofs.Texts.{cmp_text_total, cmp_text-equal}
use Rattle.ae_base.proofs.laws.cube_laws.Goals as goal

pub returns-clause-holds : goal.returns-clause-holds
returns-clause-holds c = λ p x. (holds-has p x, has-holds p x)

pub returns-clause-meet : goal.returns-clause-meet
returns-clause-meet c = λ p q is_p is_q. (λ h. (common p q, left_holds p q is_p h, right_holds p q is_q h), λ at. meets p q at.0 at.1 at.2)

pub returns-clause-total : goal.returns-clause-total
returns-clause-total c = cmp_text_total

pub returns-clause-equal : goal.returns-clause-equal
returns-clause-equal c = cmp_text-equal

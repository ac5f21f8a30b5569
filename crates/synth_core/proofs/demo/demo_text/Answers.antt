use Rattle.std.proofs.Common.{arith, subst, sym}
use Rattle.synth_core.specs.Asked.{HasTooMany}
use Rattle.demo_source.specs.Demo.{demo_text}
use Rattle.synth_core.proofs.Drawn.{demo_accepted, demo_few}
use Rattle.synth_core.proofs.demo.demo_text.Goals as goal

pub returns-clause-short : goal.returns-clause-short
returns-clause-short c = omega (arith, c.demo_law.ensures.short c.args.seed c.args.form)

pub returns-clause-accepted : goal.returns-clause-accepted
returns-clause-accepted c = demo_accepted c.demo_law.ensures.said c.args.seed c.args.form

pub returns-clause-few : goal.returns-clause-few
returns-clause-few c settings output kind form many =
    demo_few c.demo_law.ensures.said c.demo_law.ensures.none_past c.args.seed settings output kind (subst (λ f. HasTooMany settings (demo_text c.args.seed f) output) (sym form) many)

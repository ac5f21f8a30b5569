use Rattle.std.proofs.lemmas.Result.{IfOk-weaker}
use Rattle.synth_core.proofs.Remade.{remade, remade_at, remade_keeps}
use Rattle.synth_core.proofs.maker.StoreMakerMaker.at.Goals as goal

pub returns-clause-functions : goal.returns-clause-functions
returns-clause-functions c =
    let is = remade c.args.p c.args.self.now.base _ _ c.deref.result.now _ c.expansion_values.ensures.keeps c.in_ok-store.ensures c.requires c.deref.ensures.value c.in_ok-refs.ensures.count c.in_ok-refs.ensures.source in
    IfOk-weaker c.expand.result _ _ (λ e e_is. remade_keeps c.expanded_law.ensures.source c.args.p c.args.self.now.base _ c.deref.result.now e is e_is) c.expand.ensures.lists

pub returns-clause-too_many : goal.returns-clause-too_many
returns-clause-too_many c output refused s are =
    let is = remade c.args.p c.args.self.now.base _ _ c.deref.result.now _ c.expansion_values.ensures.keeps c.in_ok-store.ensures c.requires c.deref.ensures.value c.in_ok-refs.ensures.count c.in_ok-refs.ensures.source in
    record { expansions = _; are_expansions = remade_at c.expanded_law.ensures.source c.args.p c.args.self.now.base _ c.deref.result.now is s are; passes = c.expand.ensures.too_many output refused }

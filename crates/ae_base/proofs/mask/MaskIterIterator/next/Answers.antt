use Rattle.std.proofs.Common.{◌≡◌, ◌<◌, ℕ, List, ◌∷◌, length, sym, ap, ◌∙◌, subst, arith}
use Rattle.std.specs.Iterator.{YieldsFirst}
use Rattle.ae_base.specs.Mask as set
use Rattle.ae_base.proofs.Members.{least-first, members-none}
use Rattle.ae_base.proofs.mask.MaskIterIterator.next.Goals as goal

fewer : (j : ℕ) (now new : List ℕ) → now ≡ j ∷ new → length new < length now
fewer j now new e = let l = ap length e in omega (arith, l)

pub returns-in_err-j-clause-steps : goal.returns-in_err-j-clause-steps
returns-in_err-j-clause-steps c =
    let none = sym c.self.view_is ∙ members-none _ (sym c.least.ensures.least ∙ c.in_err-j.was) in
    subst (λ r. YieldsFirst (λ (rest : List ℕ). rest) c.args.self.now r c.args.self.now) (sym c.from_residual.ensures) (none, none)

pub returns-clause-steps : goal.returns-clause-steps
returns-clause-steps c =
    sym c.self.view_is
    ∙ least-first _ _ (sym c.least.ensures.least ∙ c.in_ok-j.was)
    ∙ ap (λ s. c.in_ok-j.j ∷ set.members s) (sym c.without-self-inside.ensures)

pub returns-clause-goes : goal.returns-clause-goes
returns-clause-goes c = record { on = λ _. (tt, tt, fewer c.in_ok-j.j _ _ (returns-clause-steps c)); keeps = tt; rests = λ _. tt }

-- Optional values and results.
use Rattle.std.proofs.Common.{◌≡◌, ◌∙◌, Option, Some, None, Result, Err, refl, sym, ap}
use Rattle.std.specs.Prelude.{IsErrAnd}
use Rattle.std.specs.Option.{option_or}
use Rattle.std.proofs.lemmas.Result.{err_from_is_err_and}

-- the first of two optional values
pub or_none : {X : Type 0} (o p : Option X) → option_or o p ≡ None → (o ≡ None) × (p ≡ None)
or_none None p e = (refl, e)
or_none (Some x) p e = absurd cc

-- what a `?` answers of an error is what the error becomes
pub passed_on : {T E : Type 0} (r : Result T E) (e : E) → IsErrAnd r (λ y. y ≡ e) → r ≡ Err e
passed_on r e h = let p = err_from_is_err_and r h in p.1 ∙ ap Err p.2

pub answered : {T E S : Type 0} → (r : Result T S) (becomes : E → S) (e : E) (s : S) → IsErrAnd r (λ y. y ≡ becomes e) → r ≡ Err s → becomes e ≡ s
answered r becomes e s h is =
    let p = err_from_is_err_and r h in
    let same : p.0 ≡ s = cc (p.1, is) in
    sym p.2 ∙ same

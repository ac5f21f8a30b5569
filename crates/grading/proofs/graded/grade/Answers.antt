use Rattle.std.proofs.Common.{◌∙◌, inl, inr, ap, Err}
use Rattle.ae_base.proofs.Results.{passed_on}
use Rattle.grading.proofs.Paired.{is_blif, is_memory, is_names, is_vector}
use Rattle.grading.proofs.graded.grade.Goals as goal

pub returns-in_err-pair-clause-always_blif : goal.returns-in_err-pair-clause-always_blif
returns-in_err-pair-clause-always_blif c line what says =
    let e = c.in_err-pair.field-0.0 in
    let is = passed_on c.from_residual.result e c.from_residual.ensures.1 in
    let p = c.in_err-pair.ensures in
    elim (is_blif c.args.net_bytes.now c.args.vec_bytes.now e (record { blif = λ l w at. p.blif l w (ap Err at); vector = λ l w at. p.vector l w (ap Err at); names = λ at. p.names (ap Err at) }) line what says) [
      | inl fault ↦ inl (is ∙ ap Err fault)
      | inr memory ↦ inr (is ∙ ap Err memory)
    ]

pub returns-in_err-pair-clause-always_vector : goal.returns-in_err-pair-clause-always_vector
returns-in_err-pair-clause-always_vector c line what says =
    let e = c.in_err-pair.field-0.0 in
    let is = passed_on c.from_residual.result e c.from_residual.ensures.1 in
    let p = c.in_err-pair.ensures in
    elim (is_vector c.args.net_bytes.now c.args.vec_bytes.now e (record { blif = λ l w at. p.blif l w (ap Err at); vector = λ l w at. p.vector l w (ap Err at); names = λ at. p.names (ap Err at) }) line what says) [
      | inl fault ↦ inl (is ∙ ap Err fault)
      | inr memory ↦ inr (is ∙ ap Err memory)
    ]

pub returns-in_err-pair-clause-always_names : goal.returns-in_err-pair-clause-always_names
returns-in_err-pair-clause-always_names c other =
    let e = c.in_err-pair.field-0.0 in
    let is = passed_on c.from_residual.result e c.from_residual.ensures.1 in
    let p = c.in_err-pair.ensures in
    elim (is_names c.args.net_bytes.now c.args.vec_bytes.now e (record { blif = λ l w at. p.blif l w (ap Err at); vector = λ l w at. p.vector l w (ap Err at); names = λ at. p.names (ap Err at) }) other) [
      | inl fault ↦ inl (is ∙ ap Err fault)
      | inr memory ↦ inr (is ∙ ap Err memory)
    ]

pub returns-in_err-pair-clause-complete : goal.returns-in_err-pair-clause-complete
returns-in_err-pair-clause-complete c pair =
    let e = c.in_err-pair.field-0.0 in
    let p = c.in_err-pair.ensures in
    inr (passed_on c.from_residual.result e c.from_residual.ensures.1
    ∙ ap Err (is_memory c.args.net_bytes.now c.args.vec_bytes.now e (record { blif = λ l w at. p.blif l w (ap Err at); vector = λ l w at. p.vector l w (ap Err at); names = λ at. p.names (ap Err at) }) pair))

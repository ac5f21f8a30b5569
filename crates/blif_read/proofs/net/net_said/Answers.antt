use Rattle.std.proofs.Common.{ℕ, List, None, sym, subst, ◌∙◌, arith, Result}
use Rattle.std.proofs.lemmas.Result.{err_from_is_err_and}
use Rattle.ae_net.specs.Network.{Network}
use Rattle.blif_read.specs.declared.fault.BlifFault.{BlifFault}
use Rattle.blif_read.specs.declared.draft.Draft.{Draft}
use Rattle.ae_lex.specs.Reads.{Gives}
use Rattle.blif_read.specs.Build.{AreDrafted}
use Rattle.blif_read.proofs.Whole.{signals_are, no_inputs, no_outputs, reads_said, shows_said, model_few, placed_said}
use Rattle.blif_read.proofs.net.net_said.Goals as goal

pub returns-then-len-eq0 : goal.returns-then-len-eq0
returns-then-len-eq0 c = no_inputs c.args.last c.args.lines.now c.args.seen.now c.requires (sym c.len.ensures ∙ c.if-len-eq0.true)

pub returns-then-len-eq0-2 : goal.returns-then-len-eq0-2
returns-then-len-eq0-2 c = no_outputs c.args.last c.args.lines.now c.args.seen.now c.requires (omega (arith, c.len.ensures, c.if-len-eq0.false)) (sym c.len-2.ensures ∙ c.if-len-eq0-2.true)

pub draft_gates-requires-clause-signals : goal.draft_gates-requires-clause-signals
draft_gates-requires-clause-signals c = signals_are c.args.lines.now c.args.seen.now c.requires

pub check_outputs-requires : goal.check_outputs-requires
check_outputs-requires c = signals_are c.args.lines.now c.args.seen.now c.requires

pub returns-in_err-draft_gates : goal.returns-in_err-draft_gates
returns-in_err-draft_gates c =
    let p = err_from_is_err_and c.from_residual.result c.from_residual.ensures.1 in
    rw (p.1, p.2) (reads_said c.args.last c.args.lines.now c.args.seen.now _ c.requires (omega (arith, c.len.ensures, c.if-len-eq0.false)) (omega (arith, c.len-2.ensures, c.if-len-eq0-2.false)) c.in_err-draft_gates.ensures)

pub returns-in_err-check_outputs : goal.returns-in_err-check_outputs
returns-in_err-check_outputs c =
    let p = err_from_is_err_and c.from_residual-in_err-check_outputs.result c.from_residual-in_err-check_outputs.ensures.1 in
    rw (p.1, p.2) (shows_said c.args.last c.args.lines.now c.args.seen.now _ c.requires (omega (arith, c.len.ensures, c.if-len-eq0.false)) (omega (arith, c.len-2.ensures, c.if-len-eq0-2.false)) c.in_ok-draft_gates.ensures.0 c.in_err-check_outputs.ensures)

pub net_drafted-requires-clause-drafted : goal.net_drafted-requires-clause-drafted
net_drafted-requires-clause-drafted c =
    subst (λ (ds : List Draft). AreDrafted c.args.lines.now c.args.seen.now ds) (sym c.as_slice.ensures)
    (record {
      model = None;
      faultless = c.requires;
      reads = c.in_ok-draft_gates.ensures.0;
      drafts_are = c.in_ok-draft_gates.ensures.1;
      some_input = omega (arith, c.len.ensures, c.if-len-eq0.false);
      some_output = omega (arith, c.len-2.ensures, c.if-len-eq0-2.false);
      few = model_few c.args.lines.now c.args.seen.now c.requires c.in_ok-check_outputs.ensures.0;
    })

pub returns : goal.returns
returns c =
    let all = c.args.lines.now in
    let same =
    placed_said c.args.last all c.args.seen.now c.in_ok-name.name c.requires (omega (arith, c.len.ensures, c.if-len-eq0.false)) (omega (arith, c.len-2.ensures, c.if-len-eq0-2.false))
    c.in_ok-draft_gates.ensures.0 c.in_ok-check_outputs.ensures.0 c.in_ok-name.ensures.model in
    subst (λ (said : Result Network (ℕ × BlifFault)). Gives said c.net_drafted.result) (sym same) c.net_drafted.ensures

use Rattle.std.proofs.Common.{ℕ, None, Result, sym, subst}
use Rattle.std.proofs.lemmas.Result.{err_from_is_err_and}
use Rattle.ae_lex.specs.Reads.{Gives}
use Rattle.ae_net.specs.Network.{Network}
use Rattle.blif_read.specs.declared.fault.BlifFault.{BlifFault}
use Rattle.blif_read.proofs.Whole.{line_fault, no_line_fault}
use Rattle.blif_read.proofs.read.read_model.Goals as goal

pub returns-in_err-read_lines : goal.returns-in_err-read_lines
returns-in_err-read_lines c =
    let p = err_from_is_err_and c.from_residual.result c.from_residual.ensures.1 in
    rw (p.1, p.2) (line_fault c.args.limits c.args.last c.args.lines.now _ (c.in_err-read_lines.ensures None c.new-seen.ensures))

pub net_said-requires : goal.net_said-requires
net_said-requires c =
    let read = c.in_ok-read_lines.ensures None c.new-seen.ensures in
    record { limits = c.args.limits; of = tt; none = read.0; seen_is = read.1 }

pub returns : goal.returns
returns c =
    let read = c.in_ok-read_lines.ensures None c.new-seen.ensures in
    subst (λ (said : Result Network (ℕ × BlifFault)). Gives said c.net_said.result) (sym (no_line_fault c.args.limits c.args.last c.args.lines.now read.0)) c.net_said.ensures

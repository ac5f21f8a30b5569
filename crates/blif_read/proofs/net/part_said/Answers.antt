use Rattle.std.proofs.Common.{ℕ, List, Some, sym, subst, Result}
use Rattle.std.proofs.lemmas.Result.{err_from_is_err_and}
use Rattle.ae_lex.specs.Reads.{Gives}
use Rattle.ae_net.specs.Network.{Network}
use Rattle.blif_read.specs.Build.{AreDrafted}
use Rattle.blif_read.specs.declared.draft.Draft.{Draft}
use Rattle.blif_read.specs.declared.fault.BlifFault.{BlifFault}
use Rattle.blif_read.proofs.Whole.{signals_are, part_reads, part_placed, part_few}
use Rattle.blif_read.proofs.net.part_said.Goals as goal

pub draft_gates-requires-clause-signals : goal.draft_gates-requires-clause-signals
draft_gates-requires-clause-signals c = signals_are c.args.lines.now c.args.seen.now c.requires.part.faultless

pub returns-in_err-draft_gates : goal.returns-in_err-draft_gates
returns-in_err-draft_gates c =
    let p = err_from_is_err_and c.from_residual.result c.from_residual.ensures.1 in
    rw (p.1, p.2) (part_reads c.args.name.now c.args.lines.now c.args.seen.now _ c.requires.part c.in_err-draft_gates.ensures)

pub net_drafted-requires-clause-drafted : goal.net_drafted-requires-clause-drafted
net_drafted-requires-clause-drafted c =
    let part = c.requires.part in
    subst (λ (ds : List Draft). AreDrafted c.args.lines.now c.args.seen.now ds) (sym c.as_slice.ensures)
    (record {
      model = Some part.model;
      faultless = part.faultless;
      reads = c.in_ok-draft_gates.ensures.0;
      drafts_are = c.in_ok-draft_gates.ensures.1;
      some_input = part.some_input;
      some_output = part.some_output;
      few = part_few c.args.lines.now c.args.seen.now part;
    })

pub returns : goal.returns
returns c =
    let same = part_placed c.args.name.now c.args.lines.now c.args.seen.now c.requires.part c.in_ok-draft_gates.ensures.0 in
    subst (λ (said : Result Network (ℕ × BlifFault)). Gives said c.net_drafted.result) (sym same) c.net_drafted.ensures

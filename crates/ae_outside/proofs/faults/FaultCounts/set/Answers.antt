use Rattle.std.proofs.Common.{rules, string_bytes, ◌∙◌, ap}
use Rattle.ae_outside.specs.Views.{with_count, tally_of}
use Rattle.ae_outside.proofs.Tables.{tally_updates}
use Rattle.ae_outside.proofs.faults.FaultCounts.set.Goals as goal

pub returns-in-Some-clause-reads : goal.returns-in-Some-clause-reads
returns-in-Some-clause-reads c =
    tally_updates (λ f. f.reads) c.self.inside.by_name (c.get_mut.follows.lender c.args.failed) c.args.name.now c.args.failed ((c.get_mut.follows.holds c.args.failed).3 (search rules))
    ∙ ap (λ m. with_count m.reads c.args.name.now c.args.failed.reads) c.self.view_is

pub returns-in-Some-clause-writes : goal.returns-in-Some-clause-writes
returns-in-Some-clause-writes c =
    tally_updates (λ f. f.writes) c.self.inside.by_name (c.get_mut.follows.lender c.args.failed) c.args.name.now c.args.failed ((c.get_mut.follows.holds c.args.failed).3 (search rules))
    ∙ ap (λ m. with_count m.writes c.args.name.now c.args.failed.writes) c.self.view_is

pub returns-clause-reads : goal.returns-clause-reads
returns-clause-reads c =
    tally_updates (λ f. f.reads) c.get_mut.follows.lender-at-none c.insert.new.self (string_bytes c.in_ok-from_str.field-0) c.args.failed c.in_ok-insert.ensures.updates
    ∙ (λ i. with_count (tally_of (λ f. f.reads) (c.get_mut.follows.holds-at-none i).entries) (c.in_ok-from_str.ensures.ok i) c.args.failed.reads)
    ∙ ap (λ m. with_count m.reads c.args.name.now c.args.failed.reads) c.self.view_is

pub returns-clause-writes : goal.returns-clause-writes
returns-clause-writes c =
    tally_updates (λ f. f.writes) c.get_mut.follows.lender-at-none c.insert.new.self (string_bytes c.in_ok-from_str.field-0) c.args.failed c.in_ok-insert.ensures.updates
    ∙ (λ i. with_count (tally_of (λ f. f.writes) (c.get_mut.follows.holds-at-none i).entries) (c.in_ok-from_str.ensures.ok i) c.args.failed.writes)
    ∙ ap (λ m. with_count m.writes c.args.name.now c.args.failed.writes) c.self.view_is

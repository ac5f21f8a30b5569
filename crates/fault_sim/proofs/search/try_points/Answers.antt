use Rattle.std.proofs.Common.{length, ◌∙◌}
use Rattle.fault_sim.proofs.Searches.{all-found, none-found}
use Rattle.fault_sim.proofs.search.try_points.Goals as goal

pub try_passes-requires-clause-first : goal.try_passes-requires-clause-first
try_passes-requires-clause-first c = c.in_ok-try_alone.ensures.first (none-found c.args.net.now c.args.points.now c.args.list.now c.args.found.now 0 (length c.args.list.now) c.requires.first)

pub returns-clause-first : goal.returns-clause-first
returns-clause-first c =
    all-found c.args.net.now c.args.points.now c.args.list.now c.try_passes.new.found (λ fault x. c.detects_law.ensures c.args.net.now fault x c.valid_law.ensures) (c.in_ok-try_passes.ensures.len ∙ c.in_ok-try_alone.ensures.len ∙ c.requires.len) c.in_ok-try_passes.ensures.first

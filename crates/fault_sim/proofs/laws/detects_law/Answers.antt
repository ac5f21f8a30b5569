use Rattle.std.proofs.Common.{sym, ◌∙◌}
use Rattle.std.specs.Prelude.{Some, None}
use Rattle.ae_net.specs.Out.{out}
use Rattle.fault_sim.proofs.laws.detects_law.Goals as goal

pub returns : goal.returns
returns c n fault x valid = (
  λ d same. d.differ (c.one_run.ensures.only n (Some fault) x d.faulty valid d.shows_faulty ∙ same ∙ sym (c.one_run.ensures.only n None x d.good valid d.shows_good)),
  λ differs. record {
    good = out n None x;
    shows_good = c.one_run.ensures.shows n None x valid;
    faulty = out n (Some fault) x;
    shows_faulty = c.one_run.ensures.shows n (Some fault) x valid;
    differ = differs;
  },
)

use Rattle.std.proofs.Common.{◌≡◌, ◌+◌, ◌++◌, ◌<◌, suc, drop, length}
use Rattle.ae_net.specs.Builder.{next}
use Rattle.cascade.specs.Left.{links_of}
use Rattle.cascade.proofs.parts.push_links.Given as goal

abbrev pub invariant-loop-d : goal.invariant-loop-d
invariant-loop-d l = record {
  gates : l.net.gates ++ links_of l.plan.lead l.plan.expansion.now l.chain.out.now (l.chain.inner + l.d) (length l.initial.net.gates + l.d) l.line (drop l.d l.terms) ≡ l.initial.net.gates ++ links_of l.plan.lead l.plan.expansion.now l.chain.out.now l.chain.inner (length l.initial.net.gates) l.initial.line l.terms;
  inputs : l.net.inputs ≡ l.initial.net.inputs;
  count : length l.net.gates ≡ length l.initial.net.gates + l.d;
  last : 0 < l.d → suc l.line ≡ next l.net;
}

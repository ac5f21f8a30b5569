use Rattle.std.proofs.Common.{◌≡◌, ◌+◌, ◌∙◌, suc, get_or, ap, length, sym, arith}
use Rattle.cascade.specs.Reddy.{lines, inner_gates}
use Rattle.cascade.proofs.CodeLemmas.{has_room, chains_more, ends_more, inner_more}
use Rattle.cascade.proofs.build.push_outputs.Goals as goal

pub push_chain-requires-clause-room : goal.push_chain-requires-clause-room
push_chain-requires-clause-room c =
    let outs = c.lists-outs.result.now in
    let ts = c.as_slice.result.now in
    let here : ts ≡ get_or outs c.loop-o.o ts = c.as_slice.ensures ∙ c.index-outs-o.is ∙ ap (get_or outs c.loop-o.o) (sym c.as_slice.ensures) in
    has_room c.args.plan.now.expansion.now outs c.loop-o.inner (length c.loop-o.net.gates) c.loop-o.o (length c.args.net.now.gates) ts c.index-names-o.result c.in_ok-chain.chain c.lists-outs.ensures.lists c.loop-o.invariant.inner c.loop-o.invariant.count c.loop-o-test.true
    (omega (arith, ap length c.lists-outs.ensures.lists, c.requires.fits, c.requires.few_outputs)) c.requires.low c.requires.cheap here c.in_ok-chain.ensures

pub loop-o-preserved : goal.loop-o-preserved
loop-o-preserved c =
    let e = c.args.plan.now.expansion.now in
    let outs = c.lists-outs.result.now in
    let ts = c.as_slice.result.now in
    let here : ts ≡ get_or outs c.loop-o.o ts = c.as_slice.ensures ∙ c.index-outs-o.is ∙ ap (get_or outs c.loop-o.o) (sym c.as_slice.ensures) in
    let inner : c.saturating_sub.result ≡ inner_gates ts = omega (arith, c.saturating_sub.ensures, c.len.ensures, ap length c.in_ok-chain.ensures.terms) in
    let more =
    chains_more c.args.plan.now.lead e c.loop-o.inner c.loop-o.o outs c.args.names.now ts c.index-names-o.result c.in_ok-chain.chain c.loop-o.net.gates c.push_chain.new.net.gates _ c.loop-o-test.true
    (omega (arith, c.loop-o-test.true, ap length c.lists-outs.ensures.lists, c.requires.fits)) here c.index-names-o.is c.in_ok-chain.ensures c.in_ok-push_chain.ensures.gates c.loop-o.invariant.gates in
    let last : suc c.in_ok-push_chain.field-0 ≡ lines e + length c.push_chain.new.net.gates =
    omega (arith, c.in_ok-push_chain.ensures.last, ap length c.in_ok-push_chain.ensures.inputs, ap length c.loop-o.invariant.inputs, c.requires.inputs) in
    record {
      gates = rw inner more.1;
      inputs = c.in_ok-push_chain.ensures.inputs ∙ c.loop-o.invariant.inputs;
      ports = rw c.in_ok-push.ensures.ok (ends_more e c.loop-o.o (length c.loop-o.net.gates) (length c.push_chain.new.net.gates) c.in_ok-push_chain.field-0 outs ts c.loop-o.ports _ c.loop-o-test.true here more.0 last c.loop-o.invariant.ports);
      inner = omega (arith, inner, inner_more c.loop-o.o outs ts c.loop-o-test.true here, c.loop-o.invariant.inner);
      count = omega (arith, inner, more.0, c.loop-o.invariant.count);
    }

use Rattle.std.proofs.Common.{List, ◌++◌, ◌∷◌, [], ◌+◌, drop, length, ap, ◌∙◌, arith, length-append}
use Rattle.ae_net.specs.Gates.{gate_of}
use Rattle.ae_net.specs.declared.net.Gate.{Gate}
use Rattle.factor.specs.Factored.{named}
use Rattle.factor.proofs.Valid.{named_more}
use Rattle.factor.proofs.outputs.push_named.Goals as goal

pub loop-i-preserved : goal.loop-i-preserved
loop-i-preserved c =
    let more = named c.args.lead (c.args.number + (c.loop-i.i + 1)) c.args.out.now (drop (c.loop-i.i + 1) c.args.cells.now) in
    record {
      gates =
          ap (λ (gs : List Gate). gs ++ more) c.in_ok-push.ensures.gates
          ∙ named_more c.args.lead c.args.number c.loop-i.i c.args.out.now c.in_ok-name.name c.args.cells.now c.index-cells-i.result c.loop-i.net.gates _ c.loop-i-test.true c.index-cells-i.is c.in_ok-name.ensures c.loop-i.invariant.gates;
      count = omega (arith, c.loop-i.invariant.count, ap length c.in_ok-push.ensures.gates, length-append c.loop-i.net.gates (gate_of c.in_ok-name.name c.index-cells-i.result ∷ []));
      inputs = c.push.ensures.inputs ∙ c.loop-i.invariant.inputs;
    }

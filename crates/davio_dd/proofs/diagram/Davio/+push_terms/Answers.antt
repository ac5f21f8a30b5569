use Rattle.std.proofs.Common.{◌++◌, ◌∙◌, ap, append-nil, arith, map, sym}
use Rattle.ae_base.specs.Mask.{either}
use Rattle.std.proofs.lemmas.Result.{on_ok_weaker}
use Rattle.davio_dd.proofs.Terms.{pushed-node, terms-none, pushed-one}
use Rattle.davio_dd.proofs.diagram.Davio.+push_terms.Goals as goal

pub with-requires : goal.with-requires
with-requires t c = let h = c.in-Some.ensures in omega (arith, h.below, c.args.self.now.narrow)

pub returns-in_ok-push_terms-in-Some : goal.returns-in_ok-push_terms-in-Some
returns-in_ok-push_terms-in-Some t c =
    let s = c.args.self.now in
    on_ok_weaker c.push_terms-in-Some.result
    (λ more. pushed-node s.polarity.n s.nodes.keys s.is_diagram c.args.a c.in-Some.node c.in-Some.ensures c.args.path c.args.terms.now.items c.push_terms.new.terms.items c.push_terms-in-Some.new.terms.items
    c.in_ok-push_terms-in-Some.ensures (rw c.with.ensures at more))
    c.push_terms-in-Some.ensures

pub returns-in-None : goal.returns-in-None
returns-in-None t c = sym (ap (λ us. c.args.terms.now.items ++ map (λ t. either c.args.path t) us) (terms-none c.args.self.now.nodes.keys c.args.a c.if-a-eq0.true) ∙ append-nil c.args.terms.now.items)

pub returns-in_ok-push-in-None-2 : goal.returns-in_ok-push-in-None-2
returns-in_ok-push-in-None-2 t c =
    pushed-one c.args.self.now.nodes.keys c.args.a c.in-None-2.ensures c.if-a-eq0.false c.args.path c.args.terms.now.items c.push.new.self.items c.in_ok-push-in-None-2.ensures.items

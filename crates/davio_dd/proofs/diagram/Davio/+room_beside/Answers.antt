use Rattle.std.proofs.Common.{ap, arith, length}
use Rattle.davio_dd.proofs.Terms.{length-read, terms-none, room-node, room-one}
use Rattle.davio_dd.proofs.diagram.Davio.+room_beside.Goals as goal

pub returns-in_err-left-in-Some : goal.returns-in_err-left-in-Some
returns-in_err-left-in-Some t c =
    let s = c.args.self.now in
    rw c.from_residual.ensures (omega (arith, c.in_err-left-in-Some.ensures, length-read s.polarity.n s.nodes.keys s.is_diagram c.args.a c.in-Some.node c.in-Some.ensures))

pub returns-in_ok-left-in-Some : goal.returns-in_ok-left-in-Some
returns-in_ok-left-in-Some t c =
    let s = c.args.self.now in
    room-node s.polarity.n s.nodes.keys s.is_diagram c.args.a c.in-Some.node c.in-Some.ensures c.args.room c.in_ok-left-in-Some.left c.in_ok-left-in-Some.ensures
    c.room_beside-in-Some.result c.room_beside-in-Some.ensures

pub returns-in-None : goal.returns-in-None
returns-in-None t c = omega (arith, ap length (terms-none c.args.self.now.nodes.keys c.args.a c.if-a-eq0.true))

pub returns-in-None-2 : goal.returns-in-None-2
returns-in-None-2 t c = room-one c.args.self.now.nodes.keys c.args.a c.in-None-2.ensures c.if-a-eq0.false c.args.room c.checked_sub.result c.checked_sub.ensures

use Rattle.davio_dd.proofs.diagram.Davio.+room_beside.Given as goal

abbrev pub decreases-room_beside : goal.decreases-room_beside
decreases-room_beside l = l.a

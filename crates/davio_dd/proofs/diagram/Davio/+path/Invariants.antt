use Rattle.davio_dd.proofs.diagram.Davio.+path.Given as goal

abbrev pub decreases-path : goal.decreases-path
decreases-path l = l.a

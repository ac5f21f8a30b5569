use Rattle.davio_dd.proofs.diagram.Davio.+push_terms.Given as goal

abbrev pub decreases-push_terms : goal.decreases-push_terms
decreases-push_terms l = l.a

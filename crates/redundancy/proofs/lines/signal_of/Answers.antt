use Rattle.redundancy.proofs.lines.signal_of.Goals as goal

pub returns-in-Stem-clause-within : goal.returns-in-Stem-clause-within
returns-in-Stem-clause-within c = c.fault_laws.ensures.read c.args.net.now c.outputs-outputs.ensures.valid c.in-Stem.s (rw c.in-Stem.is at c.requires)

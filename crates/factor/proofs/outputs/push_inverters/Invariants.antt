use Rattle.std.proofs.Common.{◌≡◌, ◌++◌, take}
use Rattle.factor.specs.Factored.{inverters}
use Rattle.factor.proofs.outputs.push_inverters.Given as goal

abbrev pub invariant-loop-j : goal.invariant-loop-j
invariant-loop-j l = record { gates : l.net.gates ≡ l.initial.net.gates ++ inverters l.lead (take l.j-index l.turned); inputs : l.net.inputs ≡ l.initial.net.inputs }

use Rattle.arithmetic.specs.NetChecks.{gate_at, Pass}
use Rattle.arithmetic.proofs.net.Net.check_gates.Given as goal

abbrev pub invariant-loop-place : goal.invariant-loop-place
invariant-loop-place g l = Pass (gate_at g.A.Arithmetic.ring l.self.facts l.self.gates.now) l.place-counter

use Rattle.std.proofs.Common.{◌+◌, length}
use Rattle.arithmetic.specs.NetChecks.{output_at, Pass}
use Rattle.arithmetic.proofs.net.Net.check_outputs.Given as goal

abbrev pub invariant-loop-place : goal.invariant-loop-place
invariant-loop-place l = Pass (output_at (l.self.facts + length l.self.gates.now) l.self.outputs.now) l.place

use Rattle.std.proofs.Common.{◌≡◌, ◌++◌, take, drop}
use Rattle.model.specs.Assignments.{holds}
use Rattle.model.specs.Nets.{gate_values}
use Rattle.arithmetic.proofs.net.Net.write_values.Given as goal

abbrev pub invariant-loop-place : goal.invariant-loop-place
invariant-loop-place g l =
    l.values ≡ gate_values g.A.Arithmetic.ring l.self.facts (holds l.assignment) (take l.place l.self.gates.now) ++ drop l.place l.initial.values

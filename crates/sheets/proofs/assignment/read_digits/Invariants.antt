use Rattle.std.proofs.Common.{◌≡◌, take}
use Rattle.model.specs.Assignments.{digits, Assigns}
use Rattle.sheets.proofs.assignment.read_digits.Given as goal

abbrev pub invariant-loop-fact : goal.invariant-loop-fact
invariant-loop-fact l = Assigns l.fact l.assignment × (take l.fact l.line ≡ digits l.fact l.assignment)

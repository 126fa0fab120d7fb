use Rattle.std.proofs.Common.{◌≡◌, ◌≤◌, length}
use Rattle.sheets.specs.Cursors.{left, to_come}
use Rattle.sheets.proofs.lines.Lines.pass_empty.Given as goal

abbrev pub invariant-loop-rest : goal.invariant-loop-rest
invariant-loop-rest l = (to_come l.self ≡ to_come l.initial.self) × (length (left l.self) ≤ length (left l.initial.self))

abbrev pub decreases-loop-rest : goal.decreases-loop-rest
decreases-loop-rest l = length l.self.rest.now

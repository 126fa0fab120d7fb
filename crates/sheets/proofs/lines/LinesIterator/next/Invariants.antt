use Rattle.std.proofs.Common.{◌≡◌, length}
use Rattle.sheets.specs.Cursors.{left, to_come}
use Rattle.sheets.proofs.lines.LinesIterator.next.Given as goal

abbrev pub invariant-loop-line : goal.invariant-loop-line
invariant-loop-line l = to_come l.self ≡ to_come l.initial.self

abbrev pub decreases-loop-line : goal.decreases-loop-line
decreases-loop-line l = length (left l.self)

use Rattle.std.proofs.Common.{ℕ}
use Rattle.table.specs.Tables.{capacity_of, keys_of}
use Rattle.table.proofs.Searching.{reach, Searching}
use Rattle.table.proofs.table.Table.find.Given as goal

abbrev pub invariant-loop-at : goal.invariant-loop-at
invariant-loop-at g l =
    (m : ℕ) × Searching g.K.PartialEq.eq g.K.Key.code (capacity_of l.self) (keys_of l.self) l.key m l.at

abbrev pub decreases-loop-at : goal.decreases-loop-at
decreases-loop-at g l = reach l.at

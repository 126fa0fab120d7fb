use Rattle.std.proofs.Common.{◌≡◌, ◌+◌, take}
use Rattle.table.specs.Tables.{keys_of, KeepsCells}
use Rattle.table.proofs.table.Table.cut.Given as goal

-- what is left to keep is what was to be kept, and each round takes one key
abbrev pub invariant-loop : goal.invariant-loop
invariant-loop g l = record { len : l.self.len + l.counter ≡ l.initial.self.len + l.count; keys : take l.count (keys_of l.self) ≡ take l.count (keys_of l.initial.self); memory : KeepsCells l.initial.self l.self }

use Rattle.std.proofs.Common.{◌≡◌, take}
use Rattle.model.specs.Orders.{facts_of}
use Rattle.table.specs.Tables.{capacity_of, keys_of}
use Rattle.sheets.specs.RuleSheets.{fact_symbols}
use Rattle.sheets.proofs.symbols.enter.Given as goal

-- the facts so far are entered
abbrev pub invariant-loop-place : goal.invariant-loop-place
invariant-loop-place l = (keys_of l.names ≡ fact_symbols 0 (take l.place (facts_of l.order))) × (capacity_of l.names ≡ capacity_of l.initial.names)

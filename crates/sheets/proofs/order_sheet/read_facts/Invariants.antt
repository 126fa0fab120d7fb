use Rattle.std.proofs.Common.{List, Result}
use Rattle.model.specs.Orders.{facts_of}
use Rattle.model.specs.declared.fact.Fact.{Fact}
use Rattle.model.specs.declared.fault.Fault.{Fault}
use Rattle.sheets.specs.Cursors.{to_come}
use Rattle.sheets.specs.OrderSheets.{FactStep, OrderSheet}
use Rattle.sheets.specs.Sheets.{Reads}
use Rattle.sheets.proofs.order_sheet.read_facts.Given as goal

-- the verdict on the lines that are left is that on the sheet
abbrev pub invariant-loop-line : goal.invariant-loop-line
invariant-loop-line l =
    (goal.iterator-loop-line).can_next l.line-iterator × (goal.iterator-loop-line).is_finite l.line-iterator
    × ((r : Result (List Fact) Fault) → Reads FactStep (facts_of l.order) (to_come l.line-iterator) r → OrderSheet l.text r)

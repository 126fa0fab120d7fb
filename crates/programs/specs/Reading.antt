-- What the sheets say that programs read.
use Rattle.std.specs.Prelude.{ℕ, List, Ok, Result}
use Rattle.model.specs.declared.fact.Fact.{Fact}
use Rattle.model.specs.declared.fault.Fault.{Fault}
use Rattle.sheets.specs.Notations.{marked_as}
use Rattle.sheets.specs.RuleSheets.{room_of, Rules, RuleSheet}
use Rattle.sheets.specs.declared.symbol.Symbol.{Symbol}
use Rattle.programs.specs.declared.sheet.Sheet.{Sheet}

-- the verdict on the text of a rule sheet, with room for 1000 names, 1000 gates and 64 outputs
abbrev pub Judged : List Fact → List ℕ → Result Rules Fault → Type 0
Judged facts text r = RuleSheet (marked_as text) facts (room_of 1000 1000 64) text r

-- these are the gates and the outputs of the text
abbrev pub Says : List Fact → List ℕ → Sheet → Type 0
Says facts text sheet = (symbols : List Symbol) × Judged facts text (Ok (record { symbols = symbols; gates = sheet.gates.items; outputs = sheet.outputs.items }))

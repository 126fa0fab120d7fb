use Rattle.std.proofs.Common.{◌≡◌, ℕ, ◌+◌, ◌*◌, List, length}
use Rattle.table.specs.Tables.{keys_of}
use Rattle.sheets.specs.Cursors.{ahead}
use Rattle.sheets.specs.Drafts.{SameLists}
use Rattle.sheets.specs.FormulaEnds.{EndsPart, EndsTerm}
use Rattle.sheets.specs.FormulaReads.{ReadFormula, ReadPart, ReadTerm}
use Rattle.sheets.specs.Tokens.{brackets}
use Rattle.sheets.specs.declared.draft.Draft.{Draft}
use Rattle.sheets.proofs.cursor.Cursor.+factor_formula_part_term.Given as goal

-- first the brackets and nots that are to come, then the level
abbrev pub decreases-factor : goal.decreases-factor
decreases-factor l = 4 * brackets (ahead l.self.now)

abbrev pub decreases-term : goal.decreases-term
decreases-term l = 4 * brackets (ahead l.self.now) + 1

abbrev pub decreases-part : goal.decreases-part
decreases-part l = 4 * brackets (ahead l.self.now) + 2

abbrev pub decreases-formula : goal.decreases-formula
decreases-formula l = 4 * brackets (ahead l.self.now) + 3

-- wherever the reading began: if it had come to the loop's beginning, it has come as far as now
abbrev pub invariant-formula-loop-token : goal.invariant-formula-loop-token
invariant-formula-loop-token l =
    (l.self.line ≡ l.initial.self.line) × SameLists l.initial.draft l.draft
    × ((d : Draft) (ts : List (List ℕ)) → ReadFormula (keys_of d.names.now) d ts l.initial.signal l.initial.token (ahead l.initial.self) l.initial.draft → ReadFormula (keys_of d.names.now) d ts l.signal l.token (ahead l.self) l.draft)
    × EndsPart l.token

abbrev pub invariant-part-loop-token : goal.invariant-part-loop-token
invariant-part-loop-token l =
    (l.self.line ≡ l.initial.self.line) × SameLists l.initial.draft l.draft
    × ((d : Draft) (ts : List (List ℕ)) → ReadPart (keys_of d.names.now) d ts l.initial.signal l.initial.token (ahead l.initial.self) l.initial.draft → ReadPart (keys_of d.names.now) d ts l.signal l.token (ahead l.self) l.draft)
    × EndsTerm l.token

abbrev pub invariant-term-loop-token : goal.invariant-term-loop-token
invariant-term-loop-token l =
    (l.self.line ≡ l.initial.self.line) × SameLists l.initial.draft l.draft
    × ((d : Draft) (ts : List (List ℕ)) → ReadTerm (keys_of d.names.now) d ts l.initial.signal l.initial.token (ahead l.initial.self) l.initial.draft → ReadTerm (keys_of d.names.now) d ts l.signal l.token (ahead l.self) l.draft)

-- tokens are left
abbrev pub decreases-formula-loop-token : goal.decreases-formula-loop-token
decreases-formula-loop-token l = length (ahead l.self)

abbrev pub decreases-part-loop-token : goal.decreases-part-loop-token
decreases-part-loop-token l = length (ahead l.self)

abbrev pub decreases-term-loop-token : goal.decreases-term-loop-token
decreases-term-loop-token l = length (ahead l.self)

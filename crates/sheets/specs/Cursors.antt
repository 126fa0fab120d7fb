-- What is still to be read of a line, and of a text.
use Rattle.std.specs.Prelude.{ℕ, ◌-◌, List, length}
use Rattle.sheets.specs.Lines.{Line, line_at, lines_from, speaking}
use Rattle.sheets.specs.Tokens.{tokens}
use Rattle.sheets.specs.declared.cursor.Cursor.{Cursor}
use Rattle.sheets.specs.declared.lines.Lines.{Lines}

-- the line of a cursor that stands before its first byte
abbrev pub current : Cursor → Line
current c = line_at c.line c.rest.now

-- the tokens that are still to come
abbrev pub ahead : Cursor → List (List ℕ)
ahead c = tokens c.rest.now

-- the lines that are still to come
abbrev pub left : Lines → List Line
left l = lines_from (l.end - length l.rest.now) l.rest.now

-- those of them that say something
abbrev pub to_come : Lines → List Line
to_come l = speaking (left l)

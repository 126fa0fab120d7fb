use Rattle.std.proofs.Common.{◌≡◌, ◌+◌, ◌-◌, ◌∷◌, length, sym, ap, ◌∙◌, arith, ◌≢◌}
use Rattle.std.proofs.lemmas.Bool.{eqb-false}
use Rattle.sheets.specs.Lines.{line_at, lines_from}
use Rattle.sheets.proofs.LinesFrom.{parts_lines, parts_shorter}
use Rattle.sheets.proofs.lines.Lines.next_line.Goals as goal

pub returns : goal.returns
returns c =
    let lines = c.args.self.now in
    let text = lines.rest.now in
    let some : length text ≢ 0 = eqb-false (length text) 0 (sym c.if-is_empty.ensures) in
    let line = c.split_line.result.0.now in
    let rest = c.split_line.result.1.now in
    let place = lines.end - length text in
    let on : place + (length text - length rest) ≡ lines.end - length rest = omega (arith, lines.inside, parts_shorter text line rest c.split_line.ensures) in
    rw (c.new.ensures.line, c.new.ensures.rest)
    (parts_lines place text _ _ c.split_line.ensures (omega (arith, some)) ∙ ap (λ p. line_at place line ∷ lines_from p rest) on)

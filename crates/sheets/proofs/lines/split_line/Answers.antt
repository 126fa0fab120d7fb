use Rattle.std.proofs.Common.{arith, eqb, inl, inr, length, Some, None, refl, sym, ◌∙◌, ap}
use Rattle.std.proofs.lemmas.List.{take_all, drop_all}
use Rattle.model.specs.Names.{every}
use Rattle.sheets.specs.Lines.{inside_line}
use Rattle.sheets.proofs.Firsts.{first_fails}
use Rattle.sheets.proofs.LinesFrom.{cut_at}
use Rattle.sheets.proofs.lines.split_line.Goals as goal

pub returns-in-Some : goal.returns-in-Some
returns-in-Some c =
    let at = first_fails (λ b. eqb b 10) inside_line (λ b. refl) c.args.text.now (Some c.in-Some.end) c.in-Some.ensures in
    record { inside = at.1; joined = inl (cut_at c.args.text.now c.in-Some.end at.0 at.2) }

pub returns-in-None : goal.returns-in-None
returns-in-None c =
    let text = c.args.text.now in
    let all = first_fails (λ b. eqb b 10) inside_line (λ b. refl) text None c.in-None.ensures in
    let front = c.split_at.ensures.front ∙ take_all (length text) text (omega arith) in
    record { inside = ap (every inside_line) front ∙ all; joined = inr (sym front, c.split_at.ensures.back ∙ drop_all (length text) text (omega arith)) }

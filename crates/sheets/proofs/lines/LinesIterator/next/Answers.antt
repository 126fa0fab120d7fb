use Rattle.std.proofs.Common.{◌≡◌, ◌∷◌, length, sym, ap, ◌∙◌, arith}
use Rattle.std.proofs.lemmas.Bool.{cond-true, cond-false}
use Rattle.sheets.specs.Cursors.{current, to_come}
use Rattle.sheets.specs.Lines.{speaking}
use Rattle.sheets.proofs.lines.LinesIterator.next.Goals as goal
use Rattle.sheets.proofs.lines.LinesIterator.next.Goals.{Then-not-is_silent}

pub returns-in_err-line-clause-steps : goal.returns-in_err-line-clause-steps
returns-in_err-line-clause-steps c =
    let said = c.in_err-line.ensures in
    rw c.from_residual.ensures (sym c.loop-line.invariant ∙ sym c.pass_empty.ensures.says ∙ ap speaking said.0, ap speaking said.1)

steps : (c : Then-not-is_silent) → to_come c.args.self.now ≡ current c.in_ok-line.line ∷ to_come c.next_line.new.self
steps c = sym c.loop-line.invariant ∙ sym c.pass_empty.ensures.says ∙ ap speaking c.in_ok-line.ensures ∙ cond-false _ _ _ (sym c.if-not-is_silent.ensures)

pub returns-then-not-is_silent-clause-steps : goal.returns-then-not-is_silent-clause-steps
returns-then-not-is_silent-clause-steps c = steps c

pub returns-then-not-is_silent-clause-goes : goal.returns-then-not-is_silent-clause-goes
returns-then-not-is_silent-clause-goes c = let shorter = ap length (steps c) in search (arith, shorter)

pub loop-line-preserved : goal.loop-line-preserved
loop-line-preserved c = sym (ap speaking c.in_ok-line.ensures ∙ cond-true _ _ _ (sym c.if-not-is_silent.ensures)) ∙ c.pass_empty.ensures.says ∙ c.loop-line.invariant

pub loop-line-smaller : goal.loop-line-smaller
loop-line-smaller c = let shorter = ap length c.in_ok-line.ensures in omega (arith, shorter, c.pass_empty.ensures.fewer)

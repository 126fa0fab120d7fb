use Rattle.std.proofs.Common.{◌≡◌, ℕ, ◌+◌, length, take, sym, ap, ◌∙◌, subst, arith}
use Rattle.std.proofs.lemmas.List.{take_all}
use Rattle.model.specs.Assignments.{digits, holds, Assigns}
use Rattle.sheets.proofs.DigitLines.{bit_more, by_holds, no_bit, no_digit, shifted, zero_more}
use Rattle.sheets.proofs.assignment.read_digits.Goals as goal
use Rattle.sheets.proofs.assignment.read_digits.Goals.{in-0, in-1+else-fact-ge64}

pub returns-then-fact-ge64 : goal.returns-then-fact-ge64
returns-then-fact-ge64 c x small is =
    no_bit c.args.line.now c.loop-fact.fact c.loop-fact-test.true x is small c.if-fact-ge64.true c.in-1.is

pub returns-in_default : goal.returns-in_default
returns-in_default c x small is =
    let line = c.args.line.now in
    let n = c.loop-fact.fact in
    no_digit line n c.loop-fact-test.true x is (holds x n) (by_holds line n c.loop-fact-test.true x is) (λ e. omega arith) (λ e. omega arith)

pub loop-fact-preserved : goal.loop-fact-preserved
loop-fact-preserved c =
    let line = c.args.line.now in
    let n = c.loop-fact.fact in
    let R : ℕ → Type 0 = λ a. Assigns (n + 1) a × (take (n + 1) line ≡ digits (n + 1) a) in
    elim c.match-digit.branch [
      | in-0 w ↦ subst R (sym w.assignment-is) (zero_more line n c.loop-fact.assignment c.loop-fact.invariant c.loop-fact-test.true w.in-0.is)
      | in-1+else-fact-ge64 w ↦ subst R (sym (w.assignment-is ∙ ap (λ s. c.loop-fact.assignment + s) (shifted n w.if-fact-ge64.false))) (bit_more line n c.loop-fact.assignment c.loop-fact.invariant c.loop-fact-test.true w.in-1.is)
    ]

pub returns : goal.returns
returns c =
    let line = c.args.line.now in
    let a = c.loop-fact.assignment in
    let end : c.loop-fact.fact ≡ length line = omega (arith, c.loop-fact.auto.fact-end) in
    let R : ℕ → Type 0 = λ n. Assigns n a × (take n line ≡ digits n a) in
    let read = subst R end c.loop-fact.invariant in
    (read.0, sym (take_all (length line) line (omega arith)) ∙ read.1)

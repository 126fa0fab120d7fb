use Rattle.std.proofs.Common.{◌≡◌, ℕ, ◌⊎◌, List, [], ◌∷◌, subst, arith}
use Rattle.std.proofs.lemmas.Bool.Decides.{not_from_Decides}
use Rattle.sheets.proofs.DigitLines.{long_enough, read_line, rest_of}
use Rattle.sheets.proofs.assignment.read_assignment.Goals as goal

pub returns-in_err-line : goal.returns-in_err-line
returns-in_err-line c =
    rw c.from_residual.ensures (λ x small gives. let h = long_enough c.args.text.now c.args.facts x gives in omega (arith, c.in_err-line.ensures.cases))

pub returns-then-not-ends_text : goal.returns-then-not-ends_text
returns-then-not-ends_text c x small gives =
    let split = c.in_ok-line.ensures.cases in
    not_from_Decides c.ends_text.result c.ends_text.ensures c.if-not-ends_text.true
    (rw split.2 (rest_of c.args.text.now c.args.facts x gives))

pub returns : goal.returns
returns c =
    let split = c.in_ok-line.ensures.cases in
    let E : List ℕ → Type 0 = λ rest. (rest ≡ []) ⊎ (rest ≡ 10 ∷ []) in
    read_line c.args.text.now c.in_ok-line.line.now c.args.facts split.1 split.3
    (subst E split.2 (c.ends_text.ensures.0 c.if-not-ends_text.false))
    c.read_digits.result c.read_digits.ensures

use Rattle.std.proofs.Common.{◌≡◌, ℕ, ◌+◌, ◌<◌, length, get_or, sym, subst, ⊎_elim, arith}
use Rattle.std.proofs.lemmas.Bool.{eqb-true, eqb-false, cases_lt}
use Rattle.sheets.proofs.Numerals.{start, step, digit_fits, finish, no_number_empty, no_number_zero, Reading}
use Rattle.sheets.proofs.number.number.Goals as goal

pub returns-then-is_empty : goal.returns-then-is_empty
returns-then-is_empty c = no_number_empty _ (eqb-true _ 0 (sym c.if-is_empty.ensures))

pub returns-then-word-gt1 : goal.returns-then-word-gt1
returns-then-word-gt1 c = no_number_zero _ c.if-word-eq48.true c.if-word-gt1.true

pub loop-b-init : goal.loop-b-init
loop-b-init c = start _

pub loop-b-preserved : goal.loop-b-preserved
loop-b-preserved c =
    let said = c.in_ok-value.ensures in
    let word = c.args.word.now in
    let R : ℕ → Type 0 = λ n. Reading word (c.loop-b.b-index + 1) n in
    subst R (sym said.1) (step word _ _ c.loop-b.invariant c.loop-b-test.true said.0.0 said.0.1)

pub returns-in_err-value : goal.returns-in_err-value
returns-in_err-value c =
    rw c.from_residual.ensures
    (λ v small e. c.in_err-value.ensures (digit_fits _ _ _ c.loop-b.invariant c.loop-b-test.true v small e))

pub returns : goal.returns
returns c =
    let word = c.args.word.now in
    let none = eqb-false (length word) 0 (sym c.if-is_empty.ensures) in
    let some : 0 < length word = ⊎_elim (λ h. h) (λ h. absurd (none (omega arith))) (cases_lt 0 (length word)) in
    let lean : get_or word 0 0 ≡ 48 → length word ≡ 1 = λ zero. ⊎_elim (λ h. omega (arith, h.1)) (λ h. absurd (h zero)) c.else-word-eq48.either in
    (c.loop-b.invariant.fits, finish _ _ _ c.loop-b.invariant c.loop-b-test.false some lean)

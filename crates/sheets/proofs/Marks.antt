-- The mark of a text tells its notation.
use Rattle.std.proofs.Common.{◌≡◌, ℕ, zero, suc, ◌+◌, ◌≤◌, Bool, cond, eqb, List, [], ◌∷◌, ◌++◌, length, take, IfOk, codes, Result, sym, refl, ap, ◌∙◌, ⊎_elim, arith}
use Rattle.std.proofs.lemmas.Slice.Eq.{slice_eq-Decides, bytes_eq-Decides}
use Rattle.std.proofs.lemmas.Bool.{cases_Bool, cond-false, cond-true}
use Rattle.std.proofs.lemmas.Bool.Decides.{same_from_decides, Decides-eqb}
use Rattle.std.specs.Cmp.Lexicographic.{pointwise}
use Rattle.std.specs.Str.{bytes_eq}
use Rattle.model.specs.declared.fault.Fault.{Fault}
use Rattle.sheets.specs.Lines.{heading, in_front, Line, line_at, lines_from}
use Rattle.sheets.specs.Notations.{mark_of, marked_as}
use Rattle.sheets.specs.Sheets.{Opens, too_long, bad_byte, bad_heading, wrong_version, opens}
use Rattle.sheets.specs.declared.notation.Notation.{Notation}
use Rattle.sheets.specs.declared.notation.Notation.TheVariants.{Gates, Formulas}

front_heading : (place b : ℕ) (ls : List Line) → heading (in_front place b ls) ≡ b ∷ heading ls
front_heading place b [] = refl
front_heading place b (l ∷ ls) = refl

-- a text begins with its first line
heading_front : (n place : ℕ) (text : List ℕ) → n ≤ length (heading (lines_from place text)) → take n text ≡ take n (heading (lines_from place text))
heading_front zero place text h = refl
heading_front (suc n) place [] h = refl
heading_front (suc n) place (b ∷ bs) h =
    let first = line_at place [] ∷ lines_from (place + 1) bs in
    let rest = lines_from (place + 1) bs in
    ⊎_elim
    (λ newline. absurd (omega (arith, ap (λ ls. length (heading ls)) (cond-true (eqb b 10) first (in_front place b rest) newline))))
    (λ other.
    let is : heading (lines_from place (b ∷ bs)) ≡ b ∷ heading rest = ap heading (cond-false (eqb b 10) first (in_front place b rest) other) ∙ front_heading place b rest in
    ap (λ us. b ∷ us) (heading_front n (place + 1) bs (omega (arith, ap length is))) ∙ sym (ap (take (suc n)) is))
    (cases_Bool (eqb b 10))

-- marks have three letters
marked_by : (n : Notation) (text rest : List ℕ) → heading (lines_from 0 text) ≡ mark_of n ++ rest → marked_as text ≡ n
marked_by Gates text rest e = ap (λ us. cond (bytes_eq us (codes "FRM")) Formulas Gates) (heading_front 3 0 text (omega (arith, ap length e)) ∙ ap (take 3) e)
marked_by Formulas text rest e = ap (λ us. cond (bytes_eq us (codes "FRM")) Formulas Gates) (heading_front 3 0 text (omega (arith, ap length e)) ∙ ap (take 3) e)

pub opened_mark : (n : Notation) (text : List ℕ) (r : Result (Unit {0}) Fault) → Opens (mark_of n) text r → IfOk r (λ _. marked_as text ≡ n)
opened_mark n text _ (too_long h) = tt
opened_mark n text _ (bad_byte short p h all bad) = tt
opened_mark n text _ (bad_heading plain none) = tt
opened_mark n text _ (wrong_version plain v h other) = tt
opened_mark n text _ (opens plain h) = marked_by n text _ h.1

-- the test of the first bytes
pub marked_test : (text mark : List ℕ) (r : Bool) → r ≡ pointwise eqb mark (take (length mark) text) → bytes_eq (take (length mark) text) mark ≡ r
marked_test text mark r m =
    let d = slice_eq-Decides Decides-eqb mark (take (length mark) text) r m in
    same_from_decides (bytes_eq (take (length mark) text) mark) r (bytes_eq-Decides (take (length mark) text) mark) (λ h. sym (d.0 h), λ e. d.1 (sym e))

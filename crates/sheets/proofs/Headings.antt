-- What stands after the mark of a first line, and what a text that opens is.
use Rattle.std.proofs.Common.{◌≡◌, ℕ, List, [], ◌∷◌, ◌++◌, IfOk, decimal, Result, sym, ◌∙◌, arith}
use Rattle.std.proofs.lemmas.Fmt.{decimal_injective}
use Rattle.std.proofs.lemmas.List.{append_cancel_left}
use Rattle.model.specs.declared.fault.Fault.{Fault}
use Rattle.sheets.specs.Sheets.{Heading, Opens, too_long, bad_byte, bad_heading, wrong_version, opens, Plain}

-- after the mark come the space and the digits
pub after_mark : (mark line rest : List ℕ) → line ≡ mark ++ rest → (v : ℕ) → Heading mark line v → rest ≡ 32 ∷ decimal v
after_mark mark line rest e v (small, h) = append_cancel_left mark rest (32 ∷ decimal v) (sym e ∙ h)

pub after_space : (rest digits : List ℕ) → rest ≡ (32 ∷ []) ++ digits → (v : ℕ) → rest ≡ 32 ∷ decimal v → digits ≡ decimal v
after_space rest digits e v h = append_cancel_left (32 ∷ []) digits (decimal v) (sym e ∙ h)

-- a first line has one version
pub one_version : (mark line : List ℕ) (v w : ℕ) → Heading mark line v → Heading mark line w → v ≡ w
one_version mark line v w (small, p) (slight, q) =
    decimal_injective v w (omega arith) (omega arith) (append_cancel_left (32 ∷ []) (decimal v) (decimal w) (append_cancel_left mark (32 ∷ decimal v) (32 ∷ decimal w) (sym p ∙ q)))

pub opened_plain : (mark text : List ℕ) (r : Result (Unit {0}) Fault) → Opens mark text r → IfOk r (λ _. Plain text)
opened_plain mark text _ (too_long h) = tt
opened_plain mark text _ (bad_byte short p h all bad) = tt
opened_plain mark text _ (bad_heading plain none) = tt
opened_plain mark text _ (wrong_version plain v h other) = tt
opened_plain mark text _ (opens plain h) = plain

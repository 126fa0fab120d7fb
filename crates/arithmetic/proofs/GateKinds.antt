-- The kind that a number tells is the one that it converts to.
use Rattle.std.proofs.Common.{◌≡◌, ℕ, eqb, List, [], ◌∷◌, Some, None, Ok, Err, Result, sym, refl, ap, ◌∙◌}
use Rattle.std.proofs.lemmas.Bool.{ne_eqb, cond-false}
use Rattle.model.specs.Gates.{kind_number, Numbered}
use Rattle.model.specs.Nets.{kind_among, kind_of}
use Rattle.std.specs.Result.{result_ok}
use Rattle.model.specs.declared.gate.GateKind.{GateKind}
use Rattle.model.specs.declared.gate.UnknownKind.{UnknownKind}
use Rattle.model.specs.declared.gate.GateKind.TheVariants.{Const, Sum, Times, Minus, Not, Or}

unknown : (ks : List GateKind) (n : ℕ) → ((k : GateKind) → kind_number k ≡ n → ⊥) → kind_among ks n ≡ None
unknown [] n none = refl
unknown (k ∷ ks) n none =
    cond-false (eqb (kind_number k) n) (Some k) (kind_among ks n) (ne_eqb (kind_number k) n (none k)) ∙ unknown ks n none

known : (k : GateKind) → kind_of (kind_number k) ≡ Some k
known Const = refl
known Sum = refl
known Times = refl
known Minus = refl
known Not = refl
known Or = refl

pub kind_told : (n : ℕ) (r : Result GateKind UnknownKind) → Numbered n r → kind_of n ≡ result_ok r
kind_told n (Err e) none = unknown (Const ∷ Sum ∷ Times ∷ Minus ∷ Not ∷ Or ∷ []) n none
kind_told n (Ok k) is = ap kind_of (sym is) ∙ known k

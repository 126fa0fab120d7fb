-- What a gate shows, by how many arguments its kind uses.
use Rattle.std.proofs.Common.{◌≡◌, ◌≢◌, ℕ, [], ◌∷◌, length, refl, arith}
use Rattle.model.specs.Gates.{arguments_of}
use Rattle.model.specs.declared.gate.GateKind.{GateKind}
use Rattle.model.specs.declared.gate.GateKind.TheVariants.{Const, Sum, Times, Minus, Not, Or}
use Rattle.gates.specs.Lines.{shown}

pub shows_number : (k : GateKind) (number a b : ℕ) → length (arguments_of k a b) ≡ 0 → shown k number a b ≡ number ∷ []
shows_number Const number a b none = refl
shows_number Sum number a b none = absurd (omega (arith, none))
shows_number Times number a b none = absurd (omega (arith, none))
shows_number Minus number a b none = absurd (omega (arith, none))
shows_number Not number a b none = absurd (omega (arith, none))
shows_number Or number a b none = absurd (omega (arith, none))

pub shows_one : (k : GateKind) (number a b : ℕ) → length (arguments_of k a b) ≡ 1 → shown k number a b ≡ a ∷ []
shows_one Const number a b one = absurd (omega (arith, one))
shows_one Sum number a b one = absurd (omega (arith, one))
shows_one Times number a b one = absurd (omega (arith, one))
shows_one Minus number a b one = refl
shows_one Not number a b one = refl
shows_one Or number a b one = absurd (omega (arith, one))

pub shows_two : (k : GateKind) (number a b : ℕ) → length (arguments_of k a b) ≢ 0 → length (arguments_of k a b) ≢ 1 → shown k number a b ≡ a ∷ (b ∷ [])
shows_two Const number a b some more = absurd (some refl)
shows_two Sum number a b some more = refl
shows_two Times number a b some more = refl
shows_two Minus number a b some more = absurd (more refl)
shows_two Not number a b some more = absurd (more refl)
shows_two Or number a b some more = refl

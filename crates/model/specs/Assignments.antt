-- Assignments: which facts of a consignment hold, as the bits of a number.
use Rattle.std.specs.Prelude.{◌≡◌, ℕ, zero, suc, ◌/◌, ◌%◌, ◌^◌, ◌<◌, Bool, true, false, ◌⊎◌, List, [], ◌∷◌, ◌++◌, Some, None, Option, ◌==◌}

-- fact i holds under the assignment x: bit i of x, from the lowest, is 1
abbrev pub holds : ℕ → ℕ → Bool
holds x i = x / 2 ^ i % 2 == 1

-- x has no bit beyond so many facts
abbrev pub Assigns : ℕ → ℕ → Type 0
Assigns facts x = x < 2 ^ facts

-- the digits 0 and 1
abbrev pub digit : Bool → ℕ
digit false = 48
digit true = 49

-- how an assignment of so many facts is written: a digit for each fact, top first
abbrev pub digits : ℕ → ℕ → List ℕ
digits zero x = []
digits (suc n) x = digits n x ++ (digit (holds x n) ∷ [])

-- a text that gives the assignment x: its digits, and at most one newline after them
pub record Gives (facts x : ℕ) (text : List ℕ) : Type 0 where
  pub assigns : Assigns facts x
  pub line : (text ≡ digits facts x) ⊎ (text ≡ digits facts x ++ (10 ∷ []))

-- what reading a text as an assignment of 64 bits answers
abbrev pub ReadsAssignment : ℕ → List ℕ → Option ℕ → Type 0
ReadsAssignment facts text None = (x : ℕ) → x < 2 ^ 64 → Gives facts x text → ⊥
ReadsAssignment facts text (Some x) = Gives facts x text

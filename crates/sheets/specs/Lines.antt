-- The lines of a sheet.
use Rattle.std.specs.Prelude.{◌≡◌, ℕ, ◌+◌, ◌⊎◌, Bool, true, not, cond, List, [], ◌∷◌, ◌++◌, ◌==◌}
use Rattle.model.specs.Names.{every}

pub record Line : Type 0 where
  pub first : ℕ
  pub bytes : List ℕ

abbrev pub line_at : ℕ → List ℕ → Line
line_at place bytes = record { first = place; bytes = bytes }

-- the lines that follow a byte, with that byte in front
abbrev pub in_front : ℕ → ℕ → List Line → List Line
in_front place b [] = line_at place (b ∷ []) ∷ []
in_front place b (l ∷ ls) = line_at place (b ∷ l.bytes) ∷ ls

-- the lines of a text that begins at a place: a newline ends a line, and the last one may lack it
abbrev pub lines_from : ℕ → List ℕ → List Line
lines_from place [] = []
lines_from place (b ∷ bs) = cond (b == 10) (line_at place [] ∷ lines_from (place + 1) bs) (in_front place b (lines_from (place + 1) bs))

-- the first line, empty if there is none, and the later ones
abbrev pub heading : List Line → List ℕ
heading [] = []
heading (l ∷ ls) = l.bytes

abbrev pub later : List Line → List Line
later [] = []
later (l ∷ ls) = ls

-- blank, or a comment: nothing, or `#`, after spaces
abbrev pub says_nothing : List ℕ → Bool
says_nothing [] = true
says_nothing (b ∷ bs) = cond (b == 32) (says_nothing bs) (b == 35)

-- the lines that say something
abbrev pub speaking : List Line → List Line
speaking [] = []
speaking (l ∷ ls) = cond (says_nothing l.bytes) (speaking ls) (l ∷ speaking ls)

-- a byte of a line
abbrev pub inside_line : ℕ → Bool
inside_line b = not (b == 10)

-- the first line of a text, and what comes after its newline: nothing, if the text ends with that line
pub record Parts (text line rest : List ℕ) : Type 0 where
  pub inside : every inside_line line ≡ true
  pub joined : (text ≡ line ++ (10 ∷ rest)) ⊎ ((text ≡ line) × (rest ≡ []))

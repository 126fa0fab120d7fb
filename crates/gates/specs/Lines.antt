-- How a gate is listed.
use Rattle.std.specs.Prelude.{ℕ, List, [], ◌∷◌, ◌++◌, decimal}
use Rattle.model.specs.Gates.{arguments_of, word_of}
use Rattle.model.specs.declared.gate.GateKind.{GateKind}
use Rattle.model.specs.declared.gate.GateKind.TheVariants.{Const, Sum, Times, Minus, Not, Or}
use Rattle.gates.specs.declared.line.Line.{Line}

-- numbers, each after a space
abbrev pub spaced : List ℕ → List ℕ
spaced [] = []
spaced (n ∷ ns) = 32 ∷ (decimal n ++ spaced ns)

-- what a gate of a kind shows: a constant its number, any other its arguments
abbrev pub shown : GateKind → ℕ → ℕ → ℕ → List ℕ
shown Const number a b = number ∷ []
shown Sum number a b = arguments_of Sum a b
shown Times number a b = arguments_of Times a b
shown Minus number a b = arguments_of Minus a b
shown Not number a b = arguments_of Not a b
shown Or number a b = arguments_of Or a b

-- the signal, the word, and what the gate shows, parted by spaces
abbrev pub line_text : Line → List ℕ
line_text line = decimal line.signal ++ (32 ∷ (word_of line.kind ++ spaced (shown line.kind line.gate.number line.gate.first line.gate.second)))

-- The kinds of gates, and the gates of each kind.
use Rattle.std.specs.Prelude.{◌≡◌, ℕ, List, [], ◌∷◌, Ok, Err, codes, Result, ◌≢◌}
use Rattle.model.specs.declared.gate.Gate.{Gate}
use Rattle.model.specs.declared.gate.GateKind.{GateKind}
use Rattle.model.specs.declared.gate.UnknownKind.{UnknownKind}
use Rattle.model.specs.declared.gate.GateKind.TheVariants.{Const, Sum, Times, Minus, Not, Or}

abbrev pub kind_number : GateKind → ℕ
kind_number Const = 1
kind_number Sum = 2
kind_number Times = 3
kind_number Minus = 4
kind_number Not = 5
kind_number Or = 6

-- the kind that has a number, if one has
abbrev pub Numbered : ℕ → Result GateKind UnknownKind → Type 0
Numbered n (Err e) = (k : GateKind) → kind_number k ≢ n
Numbered n (Ok k) = kind_number k ≡ n

abbrev pub word_of : GateKind → List ℕ
word_of Const = codes "const"
word_of Sum = codes "sum"
word_of Times = codes "times"
word_of Minus = codes "minus"
word_of Not = codes "not"
word_of Or = codes "or"

-- the kind that a word names, if it names one
abbrev pub Worded : List ℕ → Result GateKind UnknownKind → Type 0
Worded word (Err e) = (k : GateKind) → word ≢ word_of k
Worded word (Ok k) = word ≡ word_of k

-- the arguments that a kind uses
abbrev pub arguments_of : GateKind → ℕ → ℕ → List ℕ
arguments_of Const a b = []
arguments_of Sum a b = a ∷ b ∷ []
arguments_of Times a b = a ∷ b ∷ []
arguments_of Minus a b = a ∷ []
arguments_of Not a b = a ∷ []
arguments_of Or a b = a ∷ b ∷ []

-- no gate
abbrev pub empty_gate : Gate
empty_gate = record { kind = 0; number = 0; first = 0; second = 0 }

-- a constant, and gates of one and of two arguments; what a kind does not use is 0
abbrev pub constant_gate : ℕ → Gate
constant_gate n = record { kind = kind_number Const; number = n; first = 0; second = 0 }

abbrev pub one_argument : GateKind → ℕ → Gate
one_argument k a = record { kind = kind_number k; number = 0; first = a; second = 0 }

abbrev pub two_arguments : GateKind → ℕ → ℕ → Gate
two_arguments k a b = record { kind = kind_number k; number = 0; first = a; second = b }

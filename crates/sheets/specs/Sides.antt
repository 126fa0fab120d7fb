-- What right-hand sides are written with, what they make, and the right-hand sides of gate sheets.
use Rattle.std.specs.Prelude.{◌≡◌, ℕ, ◌^◌, ◌<◌, List, [], ◌∷◌, length, decimal}
use Rattle.model.specs.Gates.{arguments_of, constant_gate, one_argument, two_arguments, word_of}
use Rattle.model.specs.Spelling.{spelling}
use Rattle.model.specs.declared.gate.Gate.{Gate}
use Rattle.model.specs.declared.gate.GateKind.{GateKind}
use Rattle.model.specs.declared.gate.GateKind.TheVariants.{Const}
use Rattle.model.specs.declared.name.Name.{Name}

-- a name that is written
pub record Word : Type 0 where
  pub name : Name
  pub some : 0 < length (spelling name)

abbrev pub written : Word → List ℕ
written w = spelling w.name

-- a number that is written
pub record Numeral : Type 0 where
  pub value : ℕ
  pub small : value < 2 ^ 32

-- the gates that a right-hand side makes, and the signal that it stands for
pub record Emitted : Type 0 where
  pub gates : List Gate
  pub signal : ℕ

abbrev pub emitted : List Gate → ℕ → Emitted
emitted gates signal = record { gates = gates; signal = signal }

abbrev pub arity_of : GateKind → ℕ
arity_of k = length (arguments_of k 0 0)

-- a gate word and its arguments, whatever says what those are
pub data GateForm (A : Type 0) : Type 0 where
  constant : Numeral → GateForm A
  unary : (k : GateKind) → arity_of k ≡ 1 → A → GateForm A
  binary : (k : GateKind) → arity_of k ≡ 2 → A → A → GateForm A

abbrev pub form_tokens : {A : Type 0} → (A → List ℕ) → GateForm A → List (List ℕ)
form_tokens write (constant n) = word_of Const ∷ decimal n.value ∷ []
form_tokens write (unary k one a) = word_of k ∷ write a ∷ []
form_tokens write (binary k two a b) = word_of k ∷ write a ∷ write b ∷ []

abbrev pub form_arguments : {A : Type 0} → GateForm A → List A
form_arguments (constant n) = []
form_arguments (unary k one a) = a ∷ []
form_arguments (binary k two a b) = a ∷ b ∷ []

-- signal: what each argument stands for
abbrev pub gate_made : {A : Type 0} → (A → ℕ) → GateForm A → Gate
gate_made signal (constant n) = constant_gate n.value
gate_made signal (unary k one a) = one_argument k (signal a)
gate_made signal (binary k two a b) = two_arguments k (signal a) (signal b)

-- the right-hand side of a gate sheet, whose arguments are names
abbrev pub GateSide : Type 0
GateSide = GateForm Word

abbrev pub gate_tokens : GateSide → List (List ℕ)
gate_tokens side = form_tokens written side

abbrev pub gate_names : GateSide → List Word
gate_names side = form_arguments side

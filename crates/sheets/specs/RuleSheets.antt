-- The notation of rule sheets, whatever follows the `=` of a definition.
use Rattle.std.specs.Prelude.{◌≡◌, ℕ, suc, ◌+◌, ◌-◌, ◌<◌, ◌≤◌, Bool, true, false, ◌&&◌, ◌||◌, List, [], ◌∷◌, ◌++◌, length, replicate, Ok, Err, codes, Result}
use Rattle.std.specs.Str.{bytes_eq}
use Rattle.model.specs.Gates.{empty_gate}
use Rattle.model.specs.Outputs.{empty_output, output_of}
use Rattle.model.specs.Refusals.{fault}
use Rattle.model.specs.Spelling.{spelling}
use Rattle.model.specs.declared.fact.Fact.{Fact}
use Rattle.model.specs.declared.fault.Fault.{Fault}
use Rattle.model.specs.declared.fault.Refusal.{Refusal}
use Rattle.model.specs.declared.fault.Refusal.TheVariants.{TooFewNameCells, TooManyBrackets, NoForm, UnknownName, NamedTwice, SheetTooLarge}
use Rattle.model.specs.declared.gate.Gate.{Gate}
use Rattle.model.specs.declared.output.Output.{Output}
use Rattle.sheets.specs.Lines.{later, lines_from, speaking}
use Rattle.sheets.specs.Notations.{emit, mark_of, Side, side_names, side_tokens}
use Rattle.sheets.specs.Sheets.{Opens, Reads}
use Rattle.sheets.specs.Sides.{Emitted, Word, written}
use Rattle.sheets.specs.Symbols.{known, signal_or_zero, symbol}
use Rattle.sheets.specs.Tokens.{brackets}
use Rattle.sheets.specs.declared.counts.Counts.{Counts}
use Rattle.sheets.specs.declared.notation.Notation.{Notation}
use Rattle.sheets.specs.declared.symbol.Symbol.{Symbol}

-- what a rule sheet says so far: the names that it knows, its gates and its outputs
pub record Rules : Type 0 where
  pub symbols : List Symbol
  pub gates : List Gate
  pub outputs : List Output

-- how much the lent lists hold
pub record Room : Type 0 where
  pub names : ℕ
  pub gates : ℕ
  pub outputs : ℕ

abbrev pub room_of : ℕ → ℕ → ℕ → Room
room_of names gates outputs = record { names = names; gates = gates; outputs = outputs }

-- ---- lines

-- a line that begins with the token `out` is tried as an output line, any other as a definition
abbrev pub tried_as_output : List (List ℕ) → Bool
tried_as_output [] = false
tried_as_output (w ∷ ws) = bytes_eq w (codes "out")

pub data RuleLine (notation : Notation) : Type 0 where
  output : Word → RuleLine notation
  definition : Word → Side notation → RuleLine notation

abbrev pub is_output : {notation : Notation} → RuleLine notation → Bool
is_output (output w) = true
is_output (definition w side) = false

abbrev pub line_tokens : {notation : Notation} → RuleLine notation → List (List ℕ)
line_tokens (output w) = codes "out" ∷ written w ∷ []
line_tokens {notation} (definition w side) = written w ∷ (61 ∷ []) ∷ side_tokens notation side

pub record Form {notation : Notation} (ts : List (List ℕ)) (line : RuleLine notation) : Type 0 where
  pub kind : tried_as_output ts ≡ is_output line
  pub tokens : ts ≡ line_tokens line

-- the names that a line uses
abbrev pub line_names : {notation : Notation} → RuleLine notation → List Word
line_names (output w) = w ∷ []
line_names {notation} (definition w side) = side_names notation side

abbrev pub all_known : List Symbol → List Word → Bool
all_known symbols [] = true
all_known symbols (w ∷ ws) = known symbols (written w) && all_known symbols ws

abbrev pub lists : List Output → List ℕ → Bool
lists [] word = false
lists (o ∷ os) word = bytes_eq (spelling o.name) word || lists os word

-- the name is defined already, or the output listed
abbrev pub repeats : {notation : Notation} → Rules → RuleLine notation → Bool
repeats rules (output w) = lists rules.outputs (written w)
repeats rules (definition w side) = known rules.symbols (written w)

-- facts: how many there are, so that gates are numbered on from there
module _ (notation : Notation) (facts : ℕ) where
  abbrev pub made : Rules → Side notation → Emitted
  made rules side = emit notation (signal_or_zero rules.symbols) (facts + length rules.gates) side

  -- the lent lists hold what the line adds, and there are at most 65,536 gates
  abbrev pub Fits : Room → Rules → RuleLine notation → Type 0
  Fits room rules (output w) = length rules.outputs < room.outputs
  Fits room rules (definition w side) =
      let gates = length rules.gates + length (made rules side).gates in
      (gates ≤ room.gates) × (gates ≤ 65536) × (length rules.symbols < room.names)

  -- what the sheet says with the line
  abbrev pub with_line : Rules → RuleLine notation → Rules
  with_line rules (output w) = record {
    symbols = rules.symbols;
    gates = rules.gates;
    outputs = rules.outputs ++ (output_of w.name (signal_or_zero rules.symbols (written w)) ∷ []);
  }
  with_line rules (definition w side) = record {
    symbols = rules.symbols ++ (symbol w.name (made rules side).signal ∷ []);
    gates = rules.gates ++ (made rules side).gates;
    outputs = rules.outputs;
  }

-- the checks of a line, in their order: brackets, form, unknown names, repetition, room
pub data RuleStep (notation : Notation) (facts : ℕ) (room : Room) (rules : Rules) (ts : List (List ℕ)) : Result Rules Refusal → Type 0 where
  crowded : 32 < brackets ts → RuleStep notation facts room rules ts (Err TooManyBrackets)
  formless : brackets ts ≤ 32 → ((line : RuleLine notation) → Form ts line → ⊥) → RuleStep notation facts room rules ts (Err NoForm)
  unknown : brackets ts ≤ 32 → (line : RuleLine notation) → Form ts line → all_known rules.symbols (line_names line) ≡ false → RuleStep notation facts room rules ts (Err UnknownName)
  repeated : brackets ts ≤ 32 → (line : RuleLine notation) → Form ts line → all_known rules.symbols (line_names line) ≡ true → repeats rules line ≡ true → RuleStep notation facts room rules ts (Err NamedTwice)
  too_large : brackets ts ≤ 32 → (line : RuleLine notation) → Form ts line → all_known rules.symbols (line_names line) ≡ true → repeats rules line ≡ false
      → (Fits notation facts room rules line → ⊥) → RuleStep notation facts room rules ts (Err SheetTooLarge)
  taken : brackets ts ≤ 32 → (line : RuleLine notation) → Form ts line → all_known rules.symbols (line_names line) ≡ true → repeats rules line ≡ false
      → Fits notation facts room rules line → RuleStep notation facts room rules ts (Ok (with_line notation facts rules line))

-- ---- sheets

-- the facts as names: each stands for the signal of its place
abbrev pub fact_symbols : ℕ → List Fact → List Symbol
fact_symbols place [] = []
fact_symbols place (f ∷ fs) = symbol f.name place ∷ fact_symbols (suc place) fs

abbrev pub before_lines : List Fact → Rules
before_lines facts = record { symbols = fact_symbols 0 facts; gates = []; outputs = [] }

-- the verdict on the text of a rule sheet over an order of these facts
pub data RuleSheet (notation : Notation) (facts : List Fact) (room : Room) (text : List ℕ) : Result Rules Fault → Type 0 where
  unopened : (f : Fault) → Opens (mark_of notation) text (Err f) → RuleSheet notation facts room text (Err f)
  cramped : Opens (mark_of notation) text (Ok tt) → room.names < length facts → RuleSheet notation facts room text (Err (fault TooFewNameCells 0))
  opened : {r : Result Rules Fault} → Opens (mark_of notation) text (Ok tt) → length facts ≤ room.names
      → Reads (RuleStep notation (length facts) room) (before_lines facts) (speaking (later (lines_from 0 text))) r → RuleSheet notation facts room text r

-- ---- what reading leaves

abbrev pub counted : Result Rules Fault → Result Counts Fault
counted (Ok rules) = Ok (record { gates = length rules.gates; outputs = length rules.outputs })
counted (Err f) = Err f

-- a list from the front of n places, the rest empty
abbrev pub padded : {X : Type 0} → X → ℕ → List X → List X
padded empty n xs = xs ++ replicate (n - length xs) empty

abbrev pub gates_left : ℕ → Result Rules Fault → List Gate
gates_left n (Ok rules) = padded empty_gate n rules.gates
gates_left n (Err f) = replicate n empty_gate

abbrev pub outputs_left : ℕ → Result Rules Fault → List Output
outputs_left n (Ok rules) = padded empty_output n rules.outputs
outputs_left n (Err f) = replicate n empty_output

-- what reading a rule sheet answers, and what it leaves in the lists for gates and outputs
pub record ReadsRules (notation : Notation) (facts : List Fact) (room : Room) (text : List ℕ) (r : Result Counts Fault) (gates : List Gate) (outputs : List Output) : Type 0 where
  pub verdict : Result Rules Fault
  pub judged : RuleSheet notation facts room text verdict
  pub answer : r ≡ counted verdict
  pub gates_are : gates ≡ gates_left room.gates verdict
  pub outputs_are : outputs ≡ outputs_left room.outputs verdict

-- the same, with nothing said of what a refusal leaves
pub data ReadsLists (notation : Notation) (facts : List Fact) (room : Room) (text : List ℕ) (gates : List Gate) (outputs : List Output) : Result Counts Fault → Type 0 where
  refused : (f : Fault) → RuleSheet notation facts room text (Err f) → ReadsLists notation facts room text gates outputs (Err f)
  read : (counts : Counts) (rules : Rules) → RuleSheet notation facts room text (Ok rules) → counts ≡ record { gates = length rules.gates; outputs = length rules.outputs }
      → gates ≡ padded empty_gate room.gates rules.gates → outputs ≡ padded empty_output room.outputs rules.outputs → ReadsLists notation facts room text gates outputs (Ok counts)

-- What a draft of a rule sheet holds.
use Rattle.std.specs.Prelude.{◌≡◌, ℕ, ◌+◌, ◌<◌, ◌≤◌, true, false, not, ◌||◌, List, [], ◌∷◌, ◌++◌, length, take, Ok, Err, Result, ◌≢◌, slice_set}
use Rattle.model.specs.Gates.{empty_gate, one_argument, two_arguments}
use Rattle.model.specs.Outputs.{empty_output, output_of}
use Rattle.model.specs.Refusals.{fault}
use Rattle.model.specs.Spelling.{spelling}
use Rattle.model.specs.declared.fault.Fault.{Fault}
use Rattle.model.specs.declared.fault.Refusal.{Refusal}
use Rattle.model.specs.declared.fault.Refusal.TheVariants.{NoForm, UnknownName, NamedTwice, SheetTooLarge}
use Rattle.model.specs.declared.gate.Gate.{Gate}
use Rattle.model.specs.declared.gate.GateKind.{GateKind}
use Rattle.model.specs.declared.name.Name.{Name}
use Rattle.model.specs.declared.output.Output.{Output}
use Rattle.table.specs.Tables.{capacity_of, keys_of}
use Rattle.sheets.specs.SymbolTables.{SymbolTable}
use Rattle.sheets.specs.Lines.{Line}
use Rattle.sheets.specs.Notations.{emit, Side, side_names, side_tokens}
use Rattle.sheets.specs.RuleSheets.{all_known, lists, padded, Room, room_of, Rules, RuleStep}
use Rattle.sheets.specs.Sheets.{Reads}
use Rattle.sheets.specs.Sides.{Emitted, gate_made, gate_names, GateSide, gate_tokens, Word, written}
use Rattle.sheets.specs.Symbols.{known, signal_or_zero, symbol}
use Rattle.sheets.specs.Tokens.{tokens}
use Rattle.sheets.specs.declared.counts.Counts.{Counts}
use Rattle.sheets.specs.declared.draft.Draft.{Draft}
use Rattle.sheets.specs.declared.notation.Notation.{Notation}
use Rattle.sheets.specs.declared.symbol.Symbol.{Symbol}

abbrev pub gates_of : Draft → List Gate
gates_of d = take d.gate_count d.gates.now

abbrev pub outputs_of : Draft → List Output
outputs_of d = take d.output_count d.outputs.now

abbrev pub rules_of : Draft → Rules
rules_of d = record { symbols = keys_of d.names.now; gates = gates_of d; outputs = outputs_of d }

abbrev pub room_in : Draft → Room
room_in d = room_of (capacity_of d.names.now) (length d.gates.now) (length d.outputs.now)

-- between two lines: every gate has room, and no unknown name was used
pub record Tidy (d : Draft) : Type 0 where
  pub known : d.unknown ≡ false
  pub gates_fit : d.gate_count ≤ length d.gates.now
  pub few_gates : d.gate_count ≤ 65536

-- names, outputs and the number of facts are as they were
pub record Others (d d' : Draft) : Type 0 where
  pub names : d'.names.now ≡ d.names.now
  pub outputs : d'.outputs.now ≡ d.outputs.now
  pub output_count : d'.output_count ≡ d.output_count
  pub facts : d'.facts ≡ d.facts

-- all but the names is as it was
pub record SameButNames (d d' : Draft) : Type 0 where
  pub gates : d'.gates.now ≡ d.gates.now
  pub gate_count : d'.gate_count ≡ d.gate_count
  pub outputs : d'.outputs.now ≡ d.outputs.now
  pub output_count : d'.output_count ≡ d.output_count
  pub facts : d'.facts ≡ d.facts
  pub unknown : d'.unknown ≡ d.unknown

-- the lists are those that were lent, and the names have as many cells
pub record SameLists (d d' : Draft) : Type 0 where
  pub capacity : capacity_of d'.names.now ≡ capacity_of d.names.now
  pub gates : d'.gates.ghost_name ≡ d.gates.ghost_name
  pub outputs : d'.outputs.ghost_name ≡ d.outputs.ghost_name

-- ---- what a line does, once it was read

-- the gates so far and one name more can be held
pub record HasRoom (t : SymbolTable) (d : Draft) : Type 0 where
  pub gates : d.gate_count ≤ length d.gates.now
  pub limit : d.gate_count ≤ 65536
  pub names : length (keys_of t) < capacity_of t

-- a name is defined: the checks in their order, and the draft afterwards
pub data Defines (t : SymbolTable) (d : Draft) (n : Name) (signal : ℕ) (d' : Draft) : Result (Unit {0}) Refusal → Type 0 where
  unknown : d.unknown ≡ true → Defines t d n signal d' (Err UnknownName)
  repeated : d.unknown ≡ false → known (keys_of t) (spelling n) ≡ true → Defines t d n signal d' (Err NamedTwice)
  too_large : d.unknown ≡ false → known (keys_of t) (spelling n) ≡ false → (HasRoom t d → ⊥) → Defines t d n signal d' (Err SheetTooLarge)
  defined : d.unknown ≡ false → known (keys_of t) (spelling n) ≡ false → HasRoom t d → keys_of d'.names.now ≡ keys_of t ++ (symbol n signal ∷ []) → SameButNames d d' → Defines t d n signal d' (Ok tt)

-- an output is listed: the checks in their order, and the draft afterwards
pub data Lists (ss : List Symbol) (d : Draft) (n : Name) (d' : Draft) : Result (Unit {0}) Refusal → Type 0 where
  unknown : known ss (spelling n) ≡ false → Lists ss d n d' (Err UnknownName)
  repeated : known ss (spelling n) ≡ true → lists (outputs_of d) (spelling n) ≡ true → Lists ss d n d' (Err NamedTwice)
  too_large : known ss (spelling n) ≡ true → lists (outputs_of d) (spelling n) ≡ false → d.output_count ≡ length d.outputs.now → Lists ss d n d' (Err SheetTooLarge)
  listed : known ss (spelling n) ≡ true → lists (outputs_of d) (spelling n) ≡ false → d.output_count < length d.outputs.now
      → d'.names.now ≡ d.names.now → d'.gates.now ≡ d.gates.now → d'.gate_count ≡ d.gate_count → d'.facts ≡ d.facts → d'.unknown ≡ d.unknown
      → d'.outputs.now ≡ slice_set d.outputs.now d.output_count (output_of n (signal_or_zero ss (spelling n))) → d'.output_count ≡ d.output_count + 1
      → Lists ss d n d' (Ok tt)

-- ---- right-hand sides, where ss are the names that are known

-- names were looked up, and those that are not known noted
pub record Noted (ss : List Symbol) (d : Draft) (ws : List Word) (d' : Draft) : Type 0 where
  pub unknown : d'.unknown ≡ (d.unknown || not (all_known ss ws))
  pub gates : d'.gates.now ≡ d.gates.now
  pub count : d'.gate_count ≡ d.gate_count
  pub others : Others d d'

-- the arguments of a gate were read that these tokens write
pub record ReadUnary (ss : List Symbol) (d : Draft) (k : GateKind) (ts : List (List ℕ)) (gate : Gate) (d' : Draft) : Type 0 where
  pub argument : Word
  pub tokens : ts ≡ written argument ∷ []
  pub made : gate ≡ one_argument k (signal_or_zero ss (written argument))
  pub noted : Noted ss d (argument ∷ []) d'

pub record ReadBinary (ss : List Symbol) (d : Draft) (k : GateKind) (ts : List (List ℕ)) (gate : Gate) (d' : Draft) : Type 0 where
  pub left : Word
  pub right : Word
  pub tokens : ts ≡ written left ∷ (written right ∷ [])
  pub made : gate ≡ two_arguments k (signal_or_zero ss (written left)) (signal_or_zero ss (written right))
  pub noted : Noted ss d (left ∷ right ∷ []) d'

-- a gate was read that these tokens write
pub record ReadGate (ss : List Symbol) (d : Draft) (ts : List (List ℕ)) (gate : Gate) (d' : Draft) : Type 0 where
  pub side : GateSide
  pub tokens : ts ≡ gate_tokens side
  pub made : gate ≡ gate_made (λ w. signal_or_zero ss (written w)) side
  pub noted : Noted ss d (gate_names side) d'

-- elements written one after the other from a place on, as far as the list goes
abbrev pub written_from : {X : Type 0} → ℕ → List X → List X → List X
written_from place [] xs = xs
written_from place (y ∷ ys) xs = written_from (place + 1) ys (slice_set xs place y)

-- what a right-hand side makes of a draft
abbrev pub drawn : (notation : Notation) → List Symbol → Draft → Side notation → Emitted
drawn notation ss d side = emit notation (signal_or_zero ss) (d.facts + d.gate_count) side

-- a right-hand side was read that these tokens write
pub record ReadSide (notation : Notation) (ss : List Symbol) (d : Draft) (ts : List (List ℕ)) (signal : ℕ) (d' : Draft) : Type 0 where
  pub side : Side notation
  pub tokens : ts ≡ side_tokens notation side
  pub signal_is : signal ≡ (drawn notation ss d side).signal
  pub gates : d'.gates.now ≡ written_from d.gate_count (drawn notation ss d side).gates d.gates.now
  pub count : d'.gate_count ≡ d.gate_count + length (drawn notation ss d side).gates
  pub unknown : d'.unknown ≡ (d.unknown || not (all_known ss (side_names notation side)))
  pub others : Others d d'

-- ---- lines

-- what follows `out` was read
pub data ReadOutput (ss : List Symbol) (d : Draft) (ts : List (List ℕ)) (d' : Draft) : Result (Unit {0}) Refusal → Type 0 where
  formless : ((w : Word) → ts ≢ written w ∷ []) → ReadOutput ss d ts d' (Err NoForm)
  judged : (w : Word) {r : Result (Unit {0}) Refusal} → ts ≡ written w ∷ [] → Lists ss d w.name d' r → ReadOutput ss d ts d' r

-- what follows the name of a definition was read
pub data ReadDefinition (notation : Notation) (d : Draft) (n : Name) (ts : List (List ℕ)) (d' : Draft) : Result (Unit {0}) Refusal → Type 0 where
  formless : ((s : Side notation) → ts ≢ (61 ∷ []) ∷ side_tokens notation s) → ReadDefinition notation d n ts d' (Err NoForm)
  judged : (signal : ℕ) (rest : List (List ℕ)) (made : Draft) {r : Result (Unit {0}) Refusal} → ts ≡ (61 ∷ []) ∷ rest
      → ReadSide notation (keys_of d.names.now) d rest signal made → Defines made.names.now made n signal d' r → ReadDefinition notation d n ts d' r

-- the draft with a line more
pub record Stepped (notation : Notation) (d : Draft) (ts : List (List ℕ)) (d' : Draft) : Type 0 where
  pub tidy : Tidy d'
  pub gates_room : length d'.gates.now ≡ length d.gates.now
  pub outputs_room : length d'.outputs.now ≡ length d.outputs.now
  pub facts : d'.facts ≡ d.facts
  pub step : RuleStep notation d.facts (room_in d) (rules_of d) ts (Ok (rules_of d'))

-- the line is refused with this fault
abbrev pub LineRefused : Notation → Draft → Line → Fault → Type 0
LineRefused notation d l f = (refusal : Refusal) × (f ≡ fault refusal l.first) × RuleStep notation d.facts (room_in d) (rules_of d) (tokens l.bytes) (Err refusal)

-- lines were read
pub data ReadLines (notation : Notation) (d : Draft) (lines : List Line) (d' : Draft) : Result Counts Fault → Type 0 where
  refused : (f : Fault) → Reads (RuleStep notation d.facts (room_in d)) (rules_of d) lines (Err f) → ReadLines notation d lines d' (Err f)
  read : (rules : Rules) → Reads (RuleStep notation d.facts (room_in d)) (rules_of d) lines (Ok rules)
      → d'.gates.now ≡ padded empty_gate (length d.gates.now) rules.gates → d'.outputs.now ≡ padded empty_output (length d.outputs.now) rules.outputs
      → ReadLines notation d lines d' (Ok (record { gates = length rules.gates; outputs = length rules.outputs }))

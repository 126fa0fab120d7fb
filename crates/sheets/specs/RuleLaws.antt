-- Laws of rule sheets.
use Rattle.std.specs.Prelude.{◌≡◌, ℕ, ◌+◌, ◌<◌, ◌≤◌, List, [], ◌∷◌, ◌++◌, map, length, Ok, codes, All, Result, ◌≢◌, slice_index, slice_index_or}
use Rattle.std.specs.List.{flat_map}
use Rattle.model.specs.Gates.{empty_gate}
use Rattle.model.specs.Outputs.{empty_name, empty_output, output_of}
use Rattle.model.specs.Spelling.{spelling}
use Rattle.model.specs.declared.fact.Fact.{Fact}
use Rattle.model.specs.declared.fault.Fault.{Fault}
use Rattle.model.specs.declared.gate.Gate.{Gate}
use Rattle.model.specs.declared.name.Name.{Name}
use Rattle.model.specs.declared.output.Output.{Output}
use Rattle.sheets.specs.RuleSheets.{padded, Room, Rules, RuleSheet}
use Rattle.sheets.specs.Sides.{form_arguments, form_tokens, GateForm, gate_made, Word, written}
use Rattle.sheets.specs.declared.counts.Counts.{Counts}
use Rattle.sheets.specs.declared.notation.Notation.{Notation}
use Rattle.sheets.specs.declared.notation.Notation.TheVariants.{Gates}

-- ---- gates and outputs to be written

-- a gate of one of the six kinds, under a name; its arguments are signals, and what its kind does not use is 0
pub record NamedGate : Type 0 where
  pub name : Word
  pub form : GateForm ℕ

abbrev pub gate_of : NamedGate → Gate
gate_of g = gate_made (λ s. s) g.form

-- the names of the signals: the facts', then the gates'
abbrev pub signal_names : List Fact → List NamedGate → List Name
signal_names facts gates = map (λ f. f.name) facts ++ map (λ g. g.name.name) gates

abbrev pub name_at : List Name → ℕ → Name
name_at names signal = slice_index_or names signal empty_name

-- the arguments of each gate are signals before it
abbrev pub Earlier : ℕ → List NamedGate → Type 0
Earlier signal [] = Unit {0}
Earlier signal (g ∷ gs) = All (λ s. s < signal) (form_arguments g.form) × Earlier (signal + 1) gs

pub record Writable (facts : List Fact) (gates : List NamedGate) (outputs : List ℕ) : Type 0 where
  pub earlier : Earlier (length facts) gates
  -- no two signals have the same name, and no gate is called `out`
  pub names_differ : (i j : ℕ) → i < j → j < length facts + length gates → spelling (name_at (signal_names facts gates) i) ≢ spelling (name_at (signal_names facts gates) j)
  pub none_is_out : All (λ g. written g.name ≢ codes "out") gates
  -- outputs are signals, no two the same
  pub signals : All (λ s. s < length facts + length gates) outputs
  pub outputs_differ : (i j : ℕ) → i < j → j < length outputs → slice_index outputs i ≢ slice_index outputs j

-- the lent lists hold them
pub record HeldBy (room : Room) (facts : List Fact) (gs : List NamedGate) (ss : List ℕ) : Type 0 where
  pub names : length facts + length gs ≤ room.names
  pub gates : length gs ≤ room.gates
  pub outputs : length ss ≤ room.outputs

-- ---- how they are written

-- tokens parted by single spaces
abbrev pub spaced : List (List ℕ) → List ℕ
spaced [] = []
spaced (w ∷ []) = w
spaced (w ∷ v ∷ ws) = w ++ (32 ∷ spaced (v ∷ ws))

abbrev pub line_text : List (List ℕ) → List ℕ
line_text ts = spaced ts ++ (10 ∷ [])

module _ (names : List Name) where
  abbrev pub gate_line : NamedGate → List (List ℕ)
  gate_line g = written g.name ∷ (61 ∷ []) ∷ form_tokens (λ s. spelling (name_at names s)) g.form

  abbrev pub output_line : ℕ → List (List ℕ)
  output_line s = codes "out" ∷ spelling (name_at names s) ∷ []

-- a line for each gate, and then one for each output
abbrev pub gate_sheet : List Fact → List NamedGate → List ℕ → List ℕ
gate_sheet facts gates outputs =
    let names = signal_names facts gates in
    codes "GAT 1" ++ (10 ∷ flat_map line_text (map (gate_line names) gates ++ map (output_line names) outputs))

-- ---- what reading them back answers and leaves

-- exactly these gates and, under their names, these outputs
pub record AsWritten (room : Room) (facts : List Fact) (gs : List NamedGate) (ss : List ℕ) (r : Result Counts Fault) (gates : List Gate) (outputs : List Output) : Type 0 where
  pub answer : r ≡ Ok (record { gates = length gs; outputs = length ss })
  pub gates_are : gates ≡ padded empty_gate room.gates (map gate_of gs)
  pub outputs_are : outputs ≡ padded empty_output room.outputs (map (λ s. output_of (name_at (signal_names facts gs) s) s) ss)

abbrev pub ReadsBack : Notation → List Fact → Room → List ℕ → Result Counts Fault → List Gate → List Output → Type 0
ReadsBack notation facts room text r gates outputs =
    (gs : List NamedGate) (ss : List ℕ) → Writable facts gs ss → HeldBy room facts gs ss → notation ≡ Gates → text ≡ gate_sheet facts gs ss → length text ≤ 65535
    → AsWritten room facts gs ss r gates outputs

pub record RuleLaws : Type 0 where
  -- a text has one verdict
  pub one_verdict : (notation : Notation) (facts : List Fact) (room : Room) (text : List ℕ) (r s : Result Rules Fault) → RuleSheet notation facts room text r → RuleSheet notation facts room text s → r ≡ s

-- Which nets are refused: the checks on gates and outputs, and the first that fails.
use Rattle.std.specs.Prelude.{◌≡◌, ℕ, ◌+◌, ◌<◌, cond, ltb, ◌⊎◌, List, [], ◌∷◌, map, length, Some, None, Ok, Err, Option, Result, nat_lt, slice_index, slice_index_or}
use Rattle.model.specs.Gates.{arguments_of, empty_gate}
use Rattle.model.specs.Names.{every}
use Rattle.model.specs.Nets.{kind_of}
use Rattle.model.specs.Rings.{Ring}
use Rattle.model.specs.declared.fault.Fault.{Fault}
use Rattle.model.specs.declared.fault.Refusal.{Refusal}
use Rattle.model.specs.declared.fault.Refusal.TheVariants.{BadGate, BadConstant, BadOutput}
use Rattle.model.specs.declared.gate.Gate.{Gate}
use Rattle.model.specs.declared.gate.GateKind.{GateKind}
use Rattle.model.specs.declared.gate.GateKind.TheVariants.{Const, Sum, Times, Minus, Not, Or}
use Rattle.model.specs.declared.output.Output.{Output}

-- the constants that a kind uses
abbrev pub constants_of : GateKind → ℕ → List ℕ
constants_of Const n = n ∷ []
constants_of Sum n = []
constants_of Times n = []
constants_of Minus n = []
constants_of Not n = []
constants_of Or n = []

abbrev pub verdict_by_kind : Ring → ℕ → Gate → Option GateKind → Result (Unit {0}) Refusal
verdict_by_kind R signals g None = Err BadGate
verdict_by_kind R signals g (Some k) =
    cond (every (λ s. ltb s signals) (arguments_of k g.first g.second))
    (cond (every R.value (constants_of k g.number)) (Ok tt) (Err BadConstant))
    (Err BadGate)

-- the verdict on one gate, where so many signals come before it: its kind is known, the arguments that it uses
-- are among these signals, and then, a constant is a value
abbrev pub gate_verdict : Ring → ℕ → Gate → Result (Unit {0}) Refusal
gate_verdict R signals g = verdict_by_kind R signals g (kind_of g.kind)

-- the verdict on an output, where there are so many signals
abbrev pub output_verdict : ℕ → ℕ → Result (Unit {0}) Refusal
output_verdict signals s = cond (nat_lt s signals) (Ok tt) (Err BadOutput)

-- the first n entries pass
abbrev pub Pass : (ℕ → Result (Unit {0}) Refusal) → ℕ → Type 0
Pass verdict n = (k : ℕ) → k < n → verdict k ≡ Ok tt

-- f is the first refusal among n entries
pub record FirstRefused (verdict : ℕ → Result (Unit {0}) Refusal) (n : ℕ) (f : Fault) : Type 0 where
  pub within : f.place < n
  pub refused : verdict f.place ≡ Err f.refusal
  pub first : Pass verdict f.place

-- what checking n entries in turn answers
abbrev pub Checked : (ℕ → Result (Unit {0}) Refusal) → ℕ → Result (Unit {0}) Fault → Type 0
Checked verdict n (Ok u) = Pass verdict n
Checked verdict n (Err f) = FirstRefused verdict n f

-- the verdict on the gate at a place
abbrev pub gate_at : Ring → ℕ → List Gate → ℕ → Result (Unit {0}) Refusal
gate_at R facts gates k = gate_verdict R (facts + k) (slice_index_or gates k empty_gate)

-- the verdict on the output at a place
abbrev pub output_at : ℕ → List Output → ℕ → Result (Unit {0}) Refusal
output_at signals outputs k = output_verdict signals (slice_index (map (λ o. o.signal) outputs) k)

module _ (R : Ring) (facts : ℕ) (gates : List Gate) (outputs : List Output) where
  abbrev pub GatesChecked : Result (Unit {0}) Fault → Type 0
  GatesChecked r = Checked (gate_at R facts gates) (length gates) r

  abbrev pub OutputsChecked : Result (Unit {0}) Fault → Type 0
  OutputsChecked r = Checked (output_at (facts + length gates) outputs) (length outputs) r

  -- the gates come first, then the outputs
  abbrev pub NetVerdict : Result (Unit {0}) Fault → Type 0
  NetVerdict (Ok u) = GatesChecked (Ok u) × OutputsChecked (Ok u)
  NetVerdict (Err f) = GatesChecked (Err f) ⊎ (GatesChecked (Ok tt) × OutputsChecked (Err f))

-- a net has one verdict
abbrev pub OneNetVerdict : Ring → Type 0
OneNetVerdict R =
    (facts : ℕ) (gates : List Gate) (outputs : List Output) (r r' : Result (Unit {0}) Fault) →
    NetVerdict R facts gates outputs r → NetVerdict R facts gates outputs r' → r ≡ r'

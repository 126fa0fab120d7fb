-- What holds of the values of every net that passes the checks.
use Rattle.std.specs.Prelude.{◌≡◌, ℕ, ◌<◌, Bool, T, List, length, Ok, slice_index, slice_index_or}
use Rattle.model.specs.Gates.{empty_gate}
use Rattle.model.specs.Nets.{gate_value, gate_values}
use Rattle.model.specs.Rings.{Ring}
use Rattle.model.specs.declared.gate.Gate.{Gate}
use Rattle.model.specs.declared.output.Output.{Output}
use Rattle.arithmetic.specs.NetChecks.{NetVerdict}

-- the gate at each place has the value that its operation gives, of the values in the same list
abbrev pub GateByGate : Ring → ℕ → (ℕ → Bool) → List Gate → List ℕ → Type 0
GateByGate R facts x gates vs = (k : ℕ) → k < length gates → slice_index vs k ≡ gate_value R facts x vs (slice_index_or gates k empty_gate)

module _ (R : Ring) (facts : ℕ) (x : ℕ → Bool) (gates : List Gate) where
  pub record LawfulValues : Type 0 where
    pub each : GateByGate R facts x gates (gate_values R facts x gates)
    -- no other list of as many numbers is so
    pub only : (vs : List ℕ) → length vs ≡ length gates → GateByGate R facts x gates vs → vs ≡ gate_values R facts x gates
    -- they are values of the arithmetic
    pub values : (k : ℕ) → k < length gates → T (R.value (slice_index (gate_values R facts x gates) k))

abbrev pub NetLaws : Ring → Type 0
NetLaws R =
    (facts : ℕ) (x : ℕ → Bool) (gates : List Gate) (outputs : List Output) → NetVerdict R facts gates outputs (Ok tt) → LawfulValues R facts x gates

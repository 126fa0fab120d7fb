-- What working out a net answers, and what it leaves in the list that is lent for the gates' values.
use Rattle.std.specs.Prelude.{ℕ, ◌+◌, ◌≤◌, Bool, cond, List, ◌++◌, length, drop, Some, None, Ok, Err, Option, Result, nat_lt}
use Rattle.model.specs.Assignments.{holds, Assigns}
use Rattle.model.specs.Nets.{gate_values, signal_value}
use Rattle.model.specs.Refusals.{fault}
use Rattle.model.specs.Rings.{Ring}
use Rattle.model.specs.declared.fault.Fault.{Fault}
use Rattle.model.specs.declared.fault.Refusal.TheVariants.{NetTooLarge, BadAssignment}
use Rattle.model.specs.declared.gate.Gate.{Gate}
use Rattle.model.specs.declared.output.Output.{Output}
use Rattle.arithmetic.specs.NetChecks.{NetVerdict}

-- there are no more gates than a net may have, and than the list has room for
pub record Roomy (gates : List Gate) (room : ℕ) : Type 0 where
  pub few : length gates ≤ 65536
  pub fit : length gates ≤ room

module _ (R : Ring) (facts : ℕ) (gates : List Gate) (outputs : List Output) (x : ℕ) (before : List ℕ) where
  -- the answer, and the list afterwards
  pub data Evaluates : Result (Unit {0}) Fault → List ℕ → Type 0 where
    too_large : (Roomy gates (length before) → ⊥) → Evaluates (Err (fault NetTooLarge 0)) before
    refused : Roomy gates (length before) → (f : Fault) → NetVerdict R facts gates outputs (Err f) → Evaluates (Err f) before
    unassigned : Roomy gates (length before) → NetVerdict R facts gates outputs (Ok tt) → (Assigns facts x → ⊥) → Evaluates (Err (fault BadAssignment 0)) before
    evaluated : Roomy gates (length before) → NetVerdict R facts gates outputs (Ok tt) → Assigns facts x
        → Evaluates (Ok tt) (gate_values R facts (holds x) gates ++ drop (length gates) before)

-- the value of a signal, if there is such a signal where the gates have the values vs
abbrev pub value_of_signal : Ring → ℕ → (ℕ → Bool) → List ℕ → ℕ → Option ℕ
value_of_signal R facts x vs s = cond (nat_lt s (facts + length vs)) (Some (signal_value R facts x vs s)) None

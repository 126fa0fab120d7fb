-- What a net is worth in an arithmetic, where it is known which facts hold.
-- Its signals are the facts and then the gates, numbered on.
use Rattle.std.specs.Prelude.{ℕ, ◌-◌, Bool, true, false, cond, List, [], ◌∷◌, ◌++◌, Some, None, Option, ◌==◌, nat_lt, slice_index}
use Rattle.model.specs.Gates.{kind_number}
use Rattle.model.specs.Rings.{Ring}
use Rattle.model.specs.declared.gate.Gate.{Gate}
use Rattle.model.specs.declared.gate.GateKind.{GateKind}
use Rattle.model.specs.declared.gate.GateKind.TheVariants.{Const, Sum, Times, Minus, Not, Or}
use Rattle.model.specs.declared.output.Output.{Output}

abbrev pub kind_among : List GateKind → ℕ → Option GateKind
kind_among [] n = None
kind_among (k ∷ ks) n = cond (kind_number k == n) (Some k) (kind_among ks n)

-- the kind that a number tells, if it tells one
abbrev pub kind_of : ℕ → Option GateKind
kind_of n = kind_among (Const ∷ Sum ∷ Times ∷ Minus ∷ Not ∷ Or ∷ []) n

module _ (R : Ring) where
  -- a fact is one where it holds, else zero
  abbrev pub fact_value : Bool → ℕ
  fact_value true = R.one
  fact_value false = R.zero

  -- what a gate gives, from a constant's number n and the arguments' values; a kind that there is not gives zero
  abbrev pub operation : Option GateKind → ℕ → ℕ → ℕ → ℕ
  operation None n a b = R.zero
  operation (Some Const) n a b = n
  operation (Some Sum) n a b = R.sum a b
  operation (Some Times) n a b = R.product a b
  operation (Some Minus) n a b = R.minus a
  operation (Some Not) n a b = R.sum R.one (R.minus a)
  operation (Some Or) n a b = R.sum (R.sum a b) (R.minus (R.product a b))

  module _ (facts : ℕ) (x : ℕ → Bool) where
    -- the value of a signal, where the gates have the values vs
    abbrev pub signal_value : List ℕ → ℕ → ℕ
    signal_value vs s = cond (nat_lt s facts) (fact_value (x s)) (slice_index vs (s - facts))

    -- the value of a gate, where the gates before it have the values vs
    abbrev pub gate_value : List ℕ → Gate → ℕ
    gate_value vs g = operation (kind_of g.kind) g.number (signal_value vs g.first) (signal_value vs g.second)

    -- the values of all gates, of which vs has those of the gates before
    abbrev pub values_after : List ℕ → List Gate → List ℕ
    values_after vs [] = vs
    values_after vs (g ∷ gs) = values_after (vs ++ (gate_value vs g ∷ [])) gs

    abbrev pub gate_values : List Gate → List ℕ
    gate_values gates = values_after [] gates

    -- an output has its signal's value
    abbrev pub output_value : List Gate → Output → ℕ
    output_value gates o = signal_value (gate_values gates) o.signal

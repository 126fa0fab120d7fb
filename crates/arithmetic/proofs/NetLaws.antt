-- The laws of the values of nets that pass the checks.
use Rattle.std.proofs.Common.{◌≡◌, ℕ, zero, suc, ◌+◌, ◌-◌, ◌<◌, ◌≤◌, Bool, true, false, cond, ◌&&◌, T, ltb, List, length, get_or, Some, None, Ok, Err, Option, Result, sym, subst, ⊎_elim, below_more, arith}
use Rattle.std.proofs.lemmas.Bool.{and_parts, cases_lt, cond-true, cond-false, lt-ltb, le-ltb}
use Rattle.model.specs.Gates.{empty_gate}
use Rattle.model.specs.Nets.{fact_value, gate_values, kind_of, operation, signal_value}
use Rattle.model.specs.Rings.{Ring, Closed}
use Rattle.model.specs.declared.fault.Refusal.{Refusal}
use Rattle.model.specs.declared.fault.Refusal.TheVariants.{BadConstant}
use Rattle.model.specs.declared.gate.Gate.{Gate}
use Rattle.model.specs.declared.gate.GateKind.{GateKind}
use Rattle.model.specs.declared.gate.GateKind.TheVariants.{Const, Sum, Times, Minus, Not, Or}
use Rattle.arithmetic.specs.NetChecks.{gate_at, verdict_by_kind, Pass}
use Rattle.arithmetic.specs.NetLaws.{NetLaws}
use Rattle.arithmetic.proofs.NetValues.{both_earlier, each_gate, one_earlier, only_values, passed}

-- a constant that passes is a value
pub constant_known : (test : Bool) → ◌≡◌ {A = Result (Unit {0}) Refusal} (cond (test && true) (Ok tt) (Err BadConstant)) (Ok tt) → T test
constant_known test e = subst T (sym (and_parts test true (passed BadConstant (Ok tt) (test && true) e).0).0) tt

module _ (R : Ring) (closed : Closed R) (facts : ℕ) (x : ℕ → Bool) where
  abbrev V : ℕ → Type 0
  V n = T (R.value n)

  fact_known : (b : Bool) → V (fact_value R b)
  fact_known true = closed.one_value
  fact_known false = closed.zero_value

  -- the first n gates have values
  module _ (vs : List ℕ) (n : ℕ) (known : (k : ℕ) → k < n → V (get_or vs k 0)) where
    signal_known : (s : ℕ) → s < facts + n → V (signal_value R facts x vs s)
    signal_known s h =
        ⊎_elim
        (λ fact. subst V (sym (cond-true (ltb s facts) (fact_value R (x s)) (get_or vs (s - facts) 0) (lt-ltb s facts fact))) (fact_known (x s)))
        (λ gate. subst V (sym (cond-false (ltb s facts) (fact_value R (x s)) (get_or vs (s - facts) 0) (le-ltb s facts gate))) (known (s - facts) (omega arith)))
        (cases_lt s facts)

    operation_known : (g : Gate) (kind : Option GateKind) → verdict_by_kind R (facts + n) g kind ≡ Ok tt
        → V (operation R kind g.number (signal_value R facts x vs g.first) (signal_value R facts x vs g.second))
    operation_known g None e = closed.zero_value
    operation_known g (Some Const) e = constant_known (R.value g.number) e
    operation_known g (Some Sum) e =
        let p = both_earlier (facts + n) (Ok tt) g.first g.second e in
        closed.sum_value _ _ (signal_known g.first p.0) (signal_known g.second p.1)
    operation_known g (Some Times) e =
        let p = both_earlier (facts + n) (Ok tt) g.first g.second e in
        closed.product_value _ _ (signal_known g.first p.0) (signal_known g.second p.1)
    operation_known g (Some Minus) e = closed.minus_value _ (signal_known g.first (one_earlier (facts + n) (Ok tt) g.first e))
    operation_known g (Some Not) e =
        closed.sum_value _ _ closed.one_value (closed.minus_value _ (signal_known g.first (one_earlier (facts + n) (Ok tt) g.first e)))
    operation_known g (Some Or) e =
        let p = both_earlier (facts + n) (Ok tt) g.first g.second e in
        let a = signal_known g.first p.0 in
        let b = signal_known g.second p.1 in
        closed.sum_value _ _ (closed.sum_value _ _ a b) (closed.minus_value _ (closed.product_value _ _ a b))

  module _ (gates : List Gate) (pass : Pass (gate_at R facts gates) (length gates)) where
    known_below : (n : ℕ) → n ≤ length gates → (k : ℕ) → k < n → V (get_or (gate_values R facts x gates) k 0)
    known_below zero le k h = absurd (omega arith)
    known_below (suc n) le k h =
        let below = known_below n (omega arith) in
        let g = get_or gates n empty_gate in
        let next : V (get_or (gate_values R facts x gates) n 0) =
        subst V (sym (each_gate R facts x gates pass n (omega arith))) (operation_known (gate_values R facts x gates) n below g (kind_of g.kind) (pass n (omega arith))) in
        below_more (λ j. V (get_or (gate_values R facts x gates) j 0)) n below next k (omega arith)

pub net_laws : (R : Ring) → Closed R → NetLaws R
net_laws R closed facts x gates outputs checked = record {
  each = each_gate R facts x gates checked.0;
  only = only_values R facts x gates checked.0;
  values = known_below R closed facts x gates checked.0 (length gates) (omega arith);
}

-- What a net is worth when gates are added: what was there stays, and each new gate works on it.
use Rattle.std.proofs.Common.{◌≡◌, ℕ, ◌+◌, ◌-◌, ◌<◌, Bool, cond, ltb, List, [], ◌∷◌, ◌++◌, length, Some, sym, refl, ap, ◌∙◌, ap₂, ⊎_elim, arith}
use Rattle.std.proofs.lemmas.List.{append_assoc, append-nil, get_or_append_left, get_or_at, length_push}
use Rattle.std.proofs.lemmas.Bool.{cases_lt, cond-false, cond-true, le-ltb, lt-ltb}
use Rattle.model.specs.Gates.{constant_gate, kind_number, one_argument, two_arguments}
use Rattle.model.specs.Nets.{fact_value, gate_value, kind_of, operation, signal_value, values_after}
use Rattle.model.specs.Rings.{Ring}
use Rattle.model.specs.declared.gate.Gate.{Gate}
use Rattle.model.specs.declared.gate.GateKind.{GateKind}
use Rattle.model.specs.declared.gate.GateKind.TheVariants.{Const, Sum, Times, Minus, Not, Or}

kind_told : (k : GateKind) → kind_of (kind_number k) ≡ Some k
kind_told Const = refl
kind_told Sum = refl
kind_told Times = refl
kind_told Minus = refl
kind_told Not = refl
kind_told Or = refl

module _ (R : Ring) (facts : ℕ) (x : ℕ → Bool) where
  -- the values that gates add
  pub added : List ℕ → List Gate → List ℕ
  added vs [] = []
  added vs (g ∷ gs) = gate_value R facts x vs g ∷ added (vs ++ (gate_value R facts x vs g ∷ [])) gs

  pub after_added : (vs : List ℕ) (gs : List Gate) → values_after R facts x vs gs ≡ vs ++ added vs gs
  unfolding added
  after_added vs [] = sym (append-nil vs)
  after_added vs (g ∷ gs) = after_added (vs ++ (gate_value R facts x vs g ∷ [])) gs ∙ append_assoc vs (gate_value R facts x vs g ∷ []) _

  pub after_length : (vs : List ℕ) (gs : List Gate) → length (values_after R facts x vs gs) ≡ length vs + length gs
  after_length vs [] = omega arith
  after_length vs (g ∷ gs) =
      let v = gate_value R facts x vs g in
      omega (arith, after_length (vs ++ (v ∷ [])) gs, length_push vs v)

  pub after_append : (vs : List ℕ) (gs hs : List Gate) → values_after R facts x vs (gs ++ hs) ≡ values_after R facts x (values_after R facts x vs gs) hs
  after_append vs [] hs = refl
  after_append vs (g ∷ gs) hs = after_append (vs ++ (gate_value R facts x vs g ∷ [])) gs hs

  -- a signal that was there keeps its value
  pub signal_stays : (vs us : List ℕ) (s : ℕ) → s < facts + length vs → signal_value R facts x (vs ++ us) s ≡ signal_value R facts x vs s
  signal_stays vs us s lt =
      ⊎_elim
      (λ fact. let t = lt-ltb s facts fact in cond-true (ltb s facts) (fact_value R (x s)) _ t ∙ sym (cond-true (ltb s facts) (fact_value R (x s)) _ t))
      (λ gate. ap (λ v. cond (ltb s facts) (fact_value R (x s)) v) (get_or_append_left vs us 0 (s - facts) (omega arith)))
      (cases_lt s facts)

  pub signal_after : (vs : List ℕ) (gs : List Gate) (s : ℕ) → s < facts + length vs → signal_value R facts x (values_after R facts x vs gs) s ≡ signal_value R facts x vs s
  signal_after vs gs s lt = ap (λ ws. signal_value R facts x ws s) (after_added vs gs) ∙ signal_stays vs (added vs gs) s lt

  -- the signal of the last value
  pub signal_last : (vs : List ℕ) (v s : ℕ) → s ≡ facts + length vs → signal_value R facts x (vs ++ (v ∷ [])) s ≡ v
  signal_last vs v s e =
      cond-false (ltb s facts) (fact_value R (x s)) _ (le-ltb s facts (omega arith)) ∙ get_or_at vs v [] 0 (s - facts) (omega arith)

  module _ (vs : List ℕ) where
    pub constant_worth : (n : ℕ) → gate_value R facts x vs (constant_gate n) ≡ n
    constant_worth n = refl

    pub one_worth : (k : GateKind) (s a : ℕ) → signal_value R facts x vs s ≡ a → gate_value R facts x vs (one_argument k s) ≡ operation R (Some k) 0 a (signal_value R facts x vs 0)
    one_worth k s a e = ap₂ (λ o v. operation R o 0 v (signal_value R facts x vs 0)) (kind_told k) e

    pub two_worth : (k : GateKind) (s t a b : ℕ) → signal_value R facts x vs s ≡ a → signal_value R facts x vs t ≡ b → gate_value R facts x vs (two_arguments k s t) ≡ operation R (Some k) 0 a b
    two_worth k s t a b e f = ap (λ o. operation R o 0 (signal_value R facts x vs s) (signal_value R facts x vs t)) (kind_told k) ∙ ap₂ (operation R (Some k) 0) e f

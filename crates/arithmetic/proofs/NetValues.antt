-- The value of each gate from its arguments', and that later gates change no earlier value.
use Rattle.std.proofs.Common.{◌≡◌, ℕ, zero, suc, ◌+◌, ◌-◌, ◌<◌, ◌≤◌, Bool, true, false, cond, ◌&&◌, ltb, List, [], ◌∷◌, ◌++◌, length, get_or, take, drop, set, Some, None, Ok, Err, Option, Result, unwrap_or, sym, refl, ap, ◌∙◌, ap₂, ⊎_elim, below_more, arith}
use Rattle.std.proofs.lemmas.List.{append_assoc, drop_more, get_or_append_left, get_or_past, get_or_push, length_push, length-take-le, ext_get_or, get_or-take, length-take, set_at, take-append-drop, take_more}
use Rattle.std.proofs.lemmas.Bool.{and_parts, cases_lt, cond-true, cond-false, lt-ltb, le-ltb, ltb-true}
use Rattle.model.specs.Gates.{empty_gate}
use Rattle.model.specs.Names.{every}
use Rattle.model.specs.Nets.{fact_value, gate_value, gate_values, kind_of, operation, signal_value, values_after}
use Rattle.model.specs.Rings.{Ring}
use Rattle.model.specs.declared.fault.Refusal.{Refusal}
use Rattle.model.specs.declared.fault.Refusal.TheVariants.{BadGate}
use Rattle.model.specs.declared.gate.Gate.{Gate}
use Rattle.model.specs.declared.gate.GateKind.{GateKind}
use Rattle.model.specs.declared.gate.GateKind.TheVariants.{Const, Sum, Times, Minus, Not, Or}
use Rattle.arithmetic.specs.Evaluation.{value_of_signal}
use Rattle.arithmetic.specs.NetChecks.{gate_at, gate_verdict, verdict_by_kind, Pass}
use Rattle.arithmetic.specs.NetLaws.{GateByGate}

-- what passes has passed its test
pub passed : (refusal : Refusal) (rest : Result (Unit {0}) Refusal) (test : Bool) → cond test rest (Err refusal) ≡ Ok tt → (test ≡ true) × (rest ≡ Ok tt)
passed refusal rest true e = (refl, e)
passed refusal rest false e = let z : ◌≡◌ {A = ℕ} 0 1 = cc in absurd (omega arith)

-- a gate that passes: N signals come before it
module _ (N : ℕ) (rest : Result (Unit {0}) Refusal) where
  pub one_earlier : (a : ℕ) → cond (every (λ s. ltb s N) (a ∷ [])) rest (Err BadGate) ≡ Ok tt → a < N
  one_earlier a e = ltb-true a N (and_parts (ltb a N) true (passed BadGate rest (ltb a N && true) e).0).0

  pub both_earlier : (a b : ℕ) → cond (every (λ s. ltb s N) (a ∷ b ∷ [])) rest (Err BadGate) ≡ Ok tt → (a < N) × (b < N)
  both_earlier a b e =
      let p = and_parts (ltb a N) (ltb b N && true) (passed BadGate rest (ltb a N && (ltb b N && true)) e).0 in
      (ltb-true a N p.0, ltb-true b N (and_parts (ltb b N) true p.1).0)

module _ (R : Ring) (facts : ℕ) (x : ℕ → Bool) where
  -- what is no signal counts as 0
  pub value_or_nothing : (vs : List ℕ) (s : ℕ) → unwrap_or (value_of_signal R facts x vs s) 0 ≡ signal_value R facts x vs s
  value_or_nothing vs s =
      let v = signal_value R facts x vs s in
      ⊎_elim
      (λ lt. ap (λ o. unwrap_or o 0) (cond-true (ltb s (facts + length vs)) (Some v) None (lt-ltb s (facts + length vs) lt)))
      (λ le. ap (λ o. unwrap_or o 0) (cond-false (ltb s (facts + length vs)) (Some v) None (le-ltb s (facts + length vs) le))
      ∙ sym (cond-false (ltb s facts) _ (get_or vs (s - facts) 0) (le-ltb s facts (omega arith)) ∙ get_or_past vs (s - facts) 0 (omega arith)))
      (cases_lt s (facts + length vs))

  -- two lists that agree on the first n gates
  module _ (vs ws : List ℕ) (n : ℕ) (agree : (k : ℕ) → k < n → get_or vs k 0 ≡ get_or ws k 0) where
    pub signal_by : (s : ℕ) → s < facts + n → signal_value R facts x vs s ≡ signal_value R facts x ws s
    signal_by s lt =
        ⊎_elim
        (λ fact. cond-true (ltb s facts) (fact_value R (x s)) (get_or vs (s - facts) 0) (lt-ltb s facts fact)
        ∙ sym (cond-true (ltb s facts) (fact_value R (x s)) (get_or ws (s - facts) 0) (lt-ltb s facts fact)))
        (λ gate. ap (λ v. cond (ltb s facts) (fact_value R (x s)) v) (agree (s - facts) (omega arith)))
        (cases_lt s facts)

    by_kind : (g : Gate) (kind : Option GateKind) → verdict_by_kind R (facts + n) g kind ≡ Ok tt
        → operation R kind g.number (signal_value R facts x vs g.first) (signal_value R facts x vs g.second)
        ≡ operation R kind g.number (signal_value R facts x ws g.first) (signal_value R facts x ws g.second)
    by_kind g None e = refl
    by_kind g (Some Const) e = refl
    by_kind g (Some Sum) e =
        let p = both_earlier (facts + n) (Ok tt) g.first g.second e in
        ap₂ R.sum (signal_by g.first p.0) (signal_by g.second p.1)
    by_kind g (Some Times) e =
        let p = both_earlier (facts + n) (Ok tt) g.first g.second e in
        ap₂ R.product (signal_by g.first p.0) (signal_by g.second p.1)
    by_kind g (Some Minus) e = ap R.minus (signal_by g.first (one_earlier (facts + n) (Ok tt) g.first e))
    by_kind g (Some Not) e = ap (λ a. R.sum R.one (R.minus a)) (signal_by g.first (one_earlier (facts + n) (Ok tt) g.first e))
    by_kind g (Some Or) e =
        let p = both_earlier (facts + n) (Ok tt) g.first g.second e in
        ap₂ (λ a b. R.sum (R.sum a b) (R.minus (R.product a b))) (signal_by g.first p.0) (signal_by g.second p.1)

    -- a gate that passes has one value in both
    pub gate_by : (g : Gate) → gate_verdict R (facts + n) g ≡ Ok tt → gate_value R facts x vs g ≡ gate_value R facts x ws g
    gate_by g e = by_kind g (kind_of g.kind) e

  length_after : (vs : List ℕ) (gates : List Gate) → length (values_after R facts x vs gates) ≡ length vs + length gates
  length_after vs [] = omega arith
  length_after vs (g ∷ gates) =
      let v = gate_value R facts x vs g in
      omega (arith, length_after (vs ++ (v ∷ [])) gates, length_push vs v)

  pub length_values : (gates : List Gate) → length (gate_values R facts x gates) ≡ length gates
  length_values gates = omega (arith, length_after [] gates)

  after_append : (vs : List ℕ) (gates more : List Gate) → values_after R facts x vs (gates ++ more) ≡ values_after R facts x (values_after R facts x vs gates) more
  after_append vs [] more = refl
  after_append vs (g ∷ gates) more = after_append (vs ++ (gate_value R facts x vs g ∷ [])) gates more

  -- later gates leave the values before
  after_front : (vs : List ℕ) (gates : List Gate) (k : ℕ) → k < length vs → get_or (values_after R facts x vs gates) k 0 ≡ get_or vs k 0
  after_front vs [] k h = refl
  after_front vs (g ∷ gates) k h =
      let v = gate_value R facts x vs g in
      let longer : k < length (vs ++ (v ∷ [])) = omega (arith, length_push vs v) in
      after_front (vs ++ (v ∷ [])) gates k longer ∙ get_or_append_left vs (v ∷ []) 0 k h

  module _ (gates : List Gate) where
    -- the values of the first k gates
    abbrev front : ℕ → List ℕ
    front k = gate_values R facts x (take k gates)

    length_front : (k : ℕ) → k ≤ length gates → length (front k) ≡ k
    length_front k h = length_values (take k gates) ∙ length-take-le k gates h

    front_more : (k : ℕ) → k < length gates → front (k + 1) ≡ front k ++ (gate_value R facts x (front k) (get_or gates k empty_gate) ∷ [])
    front_more k h = ap (gate_values R facts x) (take_more gates k empty_gate h) ∙ after_append [] (take k gates) (get_or gates k empty_gate ∷ [])

    front_at : (k m : ℕ) → k < m → m ≤ length gates → get_or (gate_values R facts x gates) k 0 ≡ get_or (front m) k 0
    front_at k m h le =
        let cut : gate_values R facts x gates ≡ values_after R facts x (front m) (drop m gates) =
        ap (gate_values R facts x) (sym (take-append-drop m gates)) ∙ after_append [] (take m gates) (drop m gates) in
        ap (λ vs. get_or vs k 0) cut ∙ after_front (front m) (drop m gates) k (omega (arith, length_front m le))

    -- writing the value of the next gate behind those before it
    pub written_more : (before vs : List ℕ) (k v : ℕ) → Pass (gate_at R facts gates) (length gates) → k < length gates → length gates ≤ length before
        → vs ≡ front k ++ drop k before → v ≡ gate_value R facts x vs (get_or gates k empty_gate)
        → set vs k v ≡ front (k + 1) ++ drop (k + 1) before
    written_more before vs k v pass h room is e =
        let g = get_or gates k empty_gate in
        let long = length_front k (omega arith) in
        let same : (j : ℕ) → j < k → get_or vs j 0 ≡ get_or (front k) j 0 = λ j lt. ap (λ l. get_or l j 0) is ∙ get_or_append_left (front k) (drop k before) 0 j (omega arith) in
        ap (λ l. set l k v) is
        ∙ ap (λ ys. set (front k ++ ys) k v) (drop_more before k 0 (omega arith))
        ∙ set_at (front k) (get_or before k 0) (drop (k + 1) before) v k long
        ∙ ap (λ y. front k ++ (y ∷ drop (k + 1) before)) (e ∙ gate_by vs (front k) k same g (pass k h))
        ∙ sym (append_assoc (front k) (gate_value R facts x (front k) g ∷ []) (drop (k + 1) before))
        ∙ ap (λ ys. ys ++ drop (k + 1) before) (sym (front_more k h))

    module _ (pass : Pass (gate_at R facts gates) (length gates)) where
      pub each_gate : GateByGate R facts x gates (gate_values R facts x gates)
      each_gate k h =
          let g = get_or gates k empty_gate in
          let agree : (j : ℕ) → j < k → get_or (front k) j 0 ≡ get_or (gate_values R facts x gates) j 0 = λ j lt. sym (front_at j k lt (omega arith)) in
          front_at k (k + 1) (omega arith) (omega arith)
          ∙ ap (λ vs. get_or vs k 0) (front_more k h)
          ∙ get_or_push (front k) (gate_value R facts x (front k) g) 0 k (length_front k (omega arith))
          ∙ gate_by (front k) (gate_values R facts x gates) k agree g (pass k h)

      only_below : (vs : List ℕ) → GateByGate R facts x gates vs → (n : ℕ) → n ≤ length gates → (k : ℕ) → k < n → get_or vs k 0 ≡ get_or (gate_values R facts x gates) k 0
      only_below vs so zero le k h = absurd (omega arith)
      only_below vs so (suc n) le k h =
          let below = only_below vs so n (omega arith) in
          let next = so n (omega arith) ∙ gate_by vs (gate_values R facts x gates) n below (get_or gates n empty_gate) (pass n (omega arith)) ∙ sym (each_gate n (omega arith)) in
          below_more (λ j. get_or vs j 0 ≡ get_or (gate_values R facts x gates) j 0) n below next k (omega arith)

      pub only_values : (vs : List ℕ) → length vs ≡ length gates → GateByGate R facts x gates vs → vs ≡ gate_values R facts x gates
      only_values vs long so = ext_get_or 0 vs (gate_values R facts x gates) (long ∙ sym (length_values gates)) (λ k h. only_below vs so (length gates) (omega arith) k (omega arith))

    -- a list that begins with the values gives the value of each signal
    pub signal_of_list : (vs : List ℕ) (s : ℕ) → take (length gates) vs ≡ gate_values R facts x gates → s < facts + length gates
        → value_of_signal R facts x vs s ≡ Some (signal_value R facts x (gate_values R facts x gates) s)
    signal_of_list vs s is lt =
        let n = length gates in
        let long : n ≤ length vs = omega (arith, ap length is, length_values gates, length-take n vs) in
        let agree : (k : ℕ) → k < n → get_or vs k 0 ≡ get_or (gate_values R facts x gates) k 0 = λ k h. sym (get_or-take n vs k 0 h) ∙ ap (λ l. get_or l k 0) is in
        let v = signal_value R facts x vs s in
        cond-true (ltb s (facts + length vs)) (Some v) None (lt-ltb s (facts + length vs) (omega arith))
        ∙ ap Some (signal_by vs (gate_values R facts x gates) n agree s lt)

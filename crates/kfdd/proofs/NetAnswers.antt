-- A net that passes its checks is built, and worth what the net is worth.
use Rattle.std.proofs.Common.{◌≡◌, ℕ, suc, ◌+◌, ◌<◌, ◌≤◌, max, Bool, false, ltb, List, [], ◌∷◌, ◌++◌, map, length, get_or, Ok, sym, refl, ap, ◌∙◌, subst, inl, inr, append_assoc, append-nil, arith}
use Rattle.std.proofs.lemmas.List.{length_push}
use Rattle.std.proofs.lemmas.Bool.{cases_lt, ltb-true}
use Rattle.model.specs.Gates.{empty_gate}
use Rattle.model.specs.Nets.{signal_value, gate_value, values_after, gate_values, output_value}
use Rattle.model.specs.Refusals.{fault}
use Rattle.model.specs.Rings.{Ring, Closed, Laws}
use Rattle.model.specs.declared.fault.Refusal.TheVariants.{BadOutput, StoreFull}
use Rattle.model.specs.declared.gate.Gate.{Gate}
use Rattle.model.specs.declared.output.Output.{Output}
use Rattle.model.specs.declared.root.Root.{Root}
use Rattle.model.specs.declared.decomposition.Decomposition.{Decomposition}
use Rattle.model.specs.declared.node.Node.{Node}
use Rattle.arithmetic.specs.NetChecks.{gate_verdict, output_verdict, output_at, NetVerdict}
use Rattle.arithmetic.proofs.NetValues.{passed}
use Rattle.kfdd.specs.Reduced.{Reduced}
use Rattle.kfdd.specs.Appending.{Extends}
use Rattle.kfdd.specs.Joining.{done}
use Rattle.kfdd.specs.NetRecipe.{Progress, stopped, reached, go_on, refused, built, signal_root, gate_root, build_gates, build_outputs, after_outputs, after_gates, build_net}
use Rattle.kfdd.specs.NetOutcomes.{Worths}
use Rattle.kfdd.proofs.Appending.{extends_self, extends_trans, extends_length}
use Rattle.kfdd.proofs.Answering.{Question, Answered}
use Rattle.kfdd.proofs.GateAnswers.{worths_none, worths_after, worths_push, signal_answered, gate_answered}

-- Working through gates or outputs leads from ns to one list of nodes and one list of roots, worth vs, as a question leads to one root.
-- Without room it stops, at a place that is at most last.
record Arrives (R : Ring) (types : List Decomposition) (P : ℕ → List Node → Progress) (last : ℕ) (ns : List Node) (vs : (ℕ → Bool) → List ℕ) : Type 0 where
  after : List Node
  roots : List Root
  extends : Extends ns after
  reduced : Reduced R types after
  worths : Worths R types after roots vs
  fits : (c : ℕ) → length after ≤ max c (length ns) → P c ns ≡ reached after roots
  unfit : (c : ℕ) → max c (length ns) < length after → (place : ℕ) × (place ≤ last) × (P c ns ≡ stopped place)
  again : (c : ℕ) (ms : List Node) → Extends after ms → P c ms ≡ reached ms roots

module _ (R : Ring) (types : List Decomposition) where
  worths_as : (ns : List Node) (roots : List Root) (vs ws : (ℕ → Bool) → List ℕ) → ((x : ℕ → Bool) → vs x ≡ ws x) → Worths R types ns roots vs → Worths R types ns roots ws
  worths_as ns roots vs ws e p =
      record {
        count = λ x. sym (ap length (e x)) ∙ p.count x;
        held = p.held;
        worth = λ k h x. p.worth k h x ∙ ap (λ l. get_or l k 0) (e x);
      }

  -- nothing is left to do
  arrived : (P : ℕ → List Node → Progress) (last : ℕ) (ns : List Node) (vs : (ℕ → Bool) → List ℕ) (roots : List Root) → Reduced R types ns → Worths R types ns roots vs
      → ((c : ℕ) (ms : List Node) → P c ms ≡ reached ms roots) → Arrives R types P last ns vs
  arrived P last ns vs roots red p same =
      record {
        after = ns;
        roots = roots;
        extends = extends_self ns;
        reduced = red;
        worths = p;
        fits = λ c room. same c ns;
        unfit = λ c short. absurd (omega arith);
        again = λ c ms ext. same c ms;
      }

  -- one question, and then the others with its answer
  then_arrives : (Q : Question) (K : Root → ℕ → List Node → Progress) (place last : ℕ) → place ≤ last → (ns : List Node) (l : ℕ) (w : (ℕ → Bool) → ℕ) (vs : (ℕ → Bool) → List ℕ)
      (first : Answered R types 0 Q ns l w) → Arrives R types (K first.root) last first.after vs
      → Arrives R types (λ c ms. go_on (Q 0 c ms) place (λ ms₁ r. K r c ms₁)) last ns vs
  then_arrives Q K place last before ns l w vs first rest =
      let longer = extends_length ns first.after first.extends in
      let longer₂ = extends_length first.after rest.after rest.extends in
      let go : (c : ℕ) (ms ms₁ : List Node) (r : Root) → Q 0 c ms ≡ done ms₁ r → go_on (Q 0 c ms) place (λ ms₁ r. K r c ms₁) ≡ K r c ms₁ =
      λ c ms ms₁ r p. ap (λ o. go_on o place (λ ms₁ r. K r c ms₁)) p in
      record {
        after = rest.after;
        roots = rest.roots;
        extends = extends_trans ns first.after rest.after first.extends rest.extends;
        reduced = rest.reduced;
        worths = rest.worths;
        fits = λ c room. go c ns first.after first.root (first.fits 0 c (omega arith) (omega arith)) ∙ rest.fits c (omega arith);
        unfit = λ c short. elim (cases_lt (max c (length ns)) (length first.after)) [
          | inl early ↦ (place, before, ap (λ o. go_on o place (λ ms₁ r. K r c ms₁)) (first.unfit 0 c (omega arith) early))
          | inr room ↦ let stop = rest.unfit c (omega arith) in
              (stop.0, stop.1, go c ns first.after first.root (first.fits 0 c (omega arith) room) ∙ stop.2)
        ];
        again = λ c ms ext. go c ms ms first.root (first.again 0 c ms (omega arith) (extends_trans first.after rest.after ms rest.extends ext)) ∙ rest.again c ms ext;
      }

  arrives_as : (P : ℕ → List Node → Progress) (last : ℕ) (ns : List Node) (vs ws : (ℕ → Bool) → List ℕ) → ((x : ℕ → Bool) → vs x ≡ ws x) → Arrives R types P last ns vs → Arrives R types P last ns ws
  arrives_as P last ns vs ws e a =
      record {
        after = a.after;
        roots = a.roots;
        extends = a.extends;
        reduced = a.reduced;
        worths = worths_as a.after a.roots vs ws e a.worths;
        fits = a.fits;
        unfit = a.unfit;
        again = a.again;
      }

-- an output that passes is a signal
a_signal : (signals s : ℕ) → output_verdict signals s ≡ Ok tt → s < signals
a_signal signals s e = ltb-true s signals (passed BadOutput (Ok tt) (ltb s signals) e).0

module _ (R : Ring) (closed : Closed R) (laws : Laws R) (types : List Decomposition) where
  abbrev Values : Type 0
  Values = (ℕ → Bool) → List ℕ

  gates_arrive : (gs : List Gate) (roots : List Root) (vs : Values) (ns : List Node) → Reduced R types ns → Worths R types ns roots vs
      → ((k : ℕ) → k < length gs → gate_verdict R (length types + (length roots + k)) (get_or gs k empty_gate) ≡ Ok tt)
      → Arrives R types (λ c ms. build_gates R types c roots ms gs) (length roots + length gs) ns (λ x. values_after R (length types) x (vs x) gs)
  gates_arrive [] roots vs ns red p pass = arrived R types _ (length roots + 0) ns vs roots red p (λ c ms. refl)
  gates_arrive (g ∷ gs) roots vs ns red p pass =
      let w : (ℕ → Bool) → ℕ = λ x. gate_value R (length types) x (vs x) g in
      let here : gate_verdict R (length types + length roots) g ≡ Ok tt =
      ap (λ n. gate_verdict R (length types + n) g) (let e : length roots ≡ length roots + 0 = omega arith in e) ∙ pass 0 (omega arith) in
      let first = gate_answered R closed laws types roots vs ns red p g here in
      let r = first.root in
      let more = roots ++ (r ∷ []) in
      let p' = worths_push R types first.after roots vs (worths_after R types ns first.after first.extends roots vs p) 0 w r first.stands in
      let next : (k : ℕ) → k < length gs → gate_verdict R (length types + (length more + k)) (get_or gs k empty_gate) ≡ Ok tt =
      λ k h. ap (λ n. gate_verdict R (length types + n) (get_or gs k empty_gate)) (let e : length more + k ≡ length roots + suc k = omega (arith, length_push roots r) in e) ∙ pass (suc k) (omega arith) in
      let rest = gates_arrive gs more (λ x. vs x ++ (w x ∷ [])) first.after first.reduced p' next in
      let same : length more + length gs ≡ length roots + length (g ∷ gs) = omega (arith, length_push roots r) in
      then_arrives R types (λ e c ms. gate_root R types c roots ms g) (λ r c ms. build_gates R types c (roots ++ (r ∷ [])) ms gs) (length roots) (length roots + length (g ∷ gs)) (omega arith) ns 0 w
      (λ x. values_after R (length types) x (vs x) (g ∷ gs)) first (subst (λ n. Arrives R types (λ c ms. build_gates R types c more ms gs) n first.after (λ x. values_after R (length types) x (vs x) (g ∷ gs))) same rest)

  outputs_arrive : (roots : List Root) (vs : Values) (os : List Output) (outs : List Root) (ws : Values) (ns : List Node) → Reduced R types ns → Worths R types ns roots vs → Worths R types ns outs ws
      → ((k : ℕ) → k < length os → output_at (length types + length roots) os k ≡ Ok tt)
      → Arrives R types (λ c ms. build_outputs R types c roots outs ms os) (length roots) ns (λ x. ws x ++ map (λ o. signal_value R (length types) x (vs x) o.signal) os)
  outputs_arrive roots vs [] outs ws ns red p q pass =
      arrived R types _ (length roots) ns (λ x. ws x ++ []) outs red (worths_as R types ns outs ws (λ x. ws x ++ []) (λ x. sym (append-nil (ws x))) q) (λ c ms. refl)
  outputs_arrive roots vs (o ∷ os) outs ws ns red p q pass =
      let signals = length types + length roots in
      let w : (ℕ → Bool) → ℕ = λ x. signal_value R (length types) x (vs x) o.signal in
      let others : Values = λ x. map (λ o. signal_value R (length types) x (vs x) o.signal) os in
      let first = signal_answered R closed laws types roots vs ns red p o.signal (a_signal signals o.signal (pass 0 (omega arith))) in
      let r = first.root in
      let on : (rs : List Root) (us : Values) → Worths R types ns rs us → Worths R types first.after rs us = worths_after R types ns first.after first.extends in
      let q' = worths_push R types first.after outs ws (on outs ws q) 0 w r first.stands in
      let rest = outputs_arrive roots vs os (outs ++ (r ∷ [])) (λ x. ws x ++ (w x ∷ [])) first.after first.reduced (on roots vs p) q' (λ k h. pass (suc k) (omega arith)) in
      then_arrives R types (λ e c ms. signal_root R types c roots ms o.signal) (λ r c ms. build_outputs R types c roots (outs ++ (r ∷ [])) ms os) (length roots) (length roots) (omega arith) ns 0 w
      (λ x. ws x ++ (w x ∷ others x)) first
      (arrives_as R types (λ c ms. build_outputs R types c roots (outs ++ (r ∷ [])) ms os) (length roots) first.after (λ x. (ws x ++ (w x ∷ [])) ++ others x) (λ x. ws x ++ (w x ∷ others x))
      (λ x. append_assoc (ws x) (w x ∷ []) (others x)) rest)

  length_values : (x : ℕ → Bool) (vs : List ℕ) (gs : List Gate) → length (values_after R (length types) x vs gs) ≡ length vs + length gs
  length_values x vs [] = omega arith
  length_values x vs (g ∷ gs) = omega (arith, length_values x (vs ++ (gate_value R (length types) x vs g ∷ [])) gs, length_push vs (gate_value R (length types) x vs g))

  abbrev net_values : List Gate → Values
  net_values gates x = gate_values R (length types) x gates

  -- the whole net, in one
  pub record NetAnswered (ns : List Node) (gates : List Gate) (outputs : List Output) : Type 0 where
    pub after : List Node
    pub roots : List Root
    pub outs : List Root
    pub extends : Extends ns after
    pub reduced : Reduced R types after
    pub gates_worth : Worths R types after roots (λ x. gate_values R (length types) x gates)
    pub outputs_worth : Worths R types after outs (λ x. map (output_value R (length types) x gates) outputs)
    pub fits : (c : ℕ) → length after ≤ max c (length ns) → build_net R types c ns gates outputs ≡ built after roots outs
    pub unfit : (c : ℕ) → max c (length ns) < length after → (place : ℕ) × (place ≤ length gates) × (build_net R types c ns gates outputs ≡ refused (fault StoreFull place) ns)
    pub again : (c : ℕ) (ms : List Node) → Extends after ms → build_net R types c ms gates outputs ≡ built ms roots outs

  -- first the gates, then the outputs
  net_from : (ns : List Node) (gates : List Gate) (outputs : List Output) (first : Arrives R types (λ c ms. build_gates R types c [] ms gates) (length gates) ns (net_values gates))
      → length first.roots ≤ length gates
      → Arrives R types (λ c ms. build_outputs R types c first.roots [] ms outputs) (length first.roots) first.after (λ x. map (output_value R (length types) x gates) outputs)
      → NetAnswered ns gates outputs
  unfolding build_net
  net_from ns gates outputs first count rest =
      let longer = extends_length ns first.after first.extends in
      let longer₂ = extends_length first.after rest.after rest.extends in
      let go : (c : ℕ) (ms ms₁ : List Node) → build_gates R types c [] ms gates ≡ reached ms₁ first.roots
      → build_net R types c ms gates outputs ≡ after_outputs R types c ms first.roots (build_outputs R types c first.roots [] ms₁ outputs) =
      λ c ms ms₁ p. ap (after_gates R types c ms outputs) p in
      record {
        after = rest.after;
        roots = first.roots;
        outs = rest.roots;
        extends = extends_trans ns first.after rest.after first.extends rest.extends;
        reduced = rest.reduced;
        gates_worth = worths_after R types first.after rest.after rest.extends first.roots (net_values gates) first.worths;
        outputs_worth = rest.worths;
        fits = λ c room. go c ns first.after (first.fits c (omega arith)) ∙ ap (after_outputs R types c ns first.roots) (rest.fits c (omega arith));
        unfit = λ c short. elim (cases_lt (max c (length ns)) (length first.after)) [
          | inl early ↦ let stop = first.unfit c early in (stop.0, omega (arith, stop.1), ap (after_gates R types c ns outputs) stop.2)
          | inr room ↦ let stop = rest.unfit c (omega arith) in
              (stop.0, omega (arith, stop.1), go c ns first.after (first.fits c room) ∙ ap (after_outputs R types c ns first.roots) stop.2)
        ];
        again = λ c ms ext. go c ms ms (first.again c ms (extends_trans first.after rest.after ms rest.extends ext)) ∙ ap (after_outputs R types c ms first.roots) (rest.again c ms ext);
      }

  pub net_answered : (ns : List Node) → Reduced R types ns → (gates : List Gate) (outputs : List Output) → NetVerdict R (length types) gates outputs (Ok tt) → NetAnswered ns gates outputs
  net_answered ns red gates outputs checked =
      let none : 0 + length gates ≡ length gates = omega arith in
      let pass : (k : ℕ) → k < length gates → gate_verdict R (length types + (0 + k)) (get_or gates k empty_gate) ≡ Ok tt =
      λ k h. ap (λ n. gate_verdict R (length types + n) (get_or gates k empty_gate)) (let e : 0 + k ≡ k = omega arith in e) ∙ checked.0 k h in
      let first = subst (λ n. Arrives R types (λ c ms. build_gates R types c [] ms gates) n ns (net_values gates)) none (gates_arrive gates [] (λ x. []) ns red (worths_none R types ns) pass) in
      let count : length first.roots ≡ length gates = sym (first.worths.count (λ _. false)) ∙ length_values (λ _. false) [] gates ∙ none in
      let pass' : (k : ℕ) → k < length outputs → output_at (length types + length first.roots) outputs k ≡ Ok tt = λ k h. ap (λ n. output_at (length types + n) outputs k) count ∙ checked.1 k h in
      net_from ns gates outputs first (omega arith)
      (outputs_arrive first.roots (net_values gates) outputs [] (λ x. []) first.after first.reduced first.worths (worths_none R types first.after) pass')

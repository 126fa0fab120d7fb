-- Signals and gates that pass their checks are answered, and worth what the net says.
use Rattle.std.proofs.Common.{◌≡◌, ℕ, ◌+◌, ◌-◌, ◌<◌, Bool, true, false, cond, T, ltb, ◌⊎◌, List, [], ◌∷◌, ◌++◌, length, get_or, Some, None, Ok, Option, sym, refl, ap, ◌∙◌, subst, inl, inr, arith}
use Rattle.std.proofs.lemmas.List.{get_or_append_left, get_or_push, length_push}
use Rattle.std.proofs.lemmas.Bool.{cases_lt, ltb-true, ltb-false}
use Rattle.model.specs.Nets.{kind_of, fact_value, operation, signal_value, gate_value}
use Rattle.model.specs.Rings.{Ring, Closed, Laws}
use Rattle.model.specs.declared.gate.Gate.{Gate}
use Rattle.model.specs.declared.gate.GateKind.{GateKind}
use Rattle.model.specs.declared.gate.GateKind.TheVariants.{Const, Sum, Times, Minus, Not, Or}
use Rattle.model.specs.declared.root.Root.{Root}
use Rattle.model.specs.declared.root.Root.TheVariants.{Leaf, Inner}
use Rattle.model.specs.declared.decomposition.Decomposition.{Decomposition}
use Rattle.model.specs.declared.node.Node.{Node}
use Rattle.arithmetic.specs.NetChecks.{verdict_by_kind, gate_verdict}
use Rattle.arithmetic.proofs.NetLaws.{constant_known}
use Rattle.arithmetic.proofs.NetValues.{both_earlier, one_earlier}
use Rattle.kfdd.specs.Values.{value}
use Rattle.kfdd.specs.Reduced.{Held, Reduced}
use Rattle.kfdd.specs.Appending.{Extends}
use Rattle.kfdd.specs.Joining.{Outcome, done, then, fact_root}
use Rattle.kfdd.specs.NetRecipe.{not_of, or_of, signal_root, with_one, with_two, root_by_kind, gate_root}
use Rattle.kfdd.specs.NetOutcomes.{Worths}
use Rattle.kfdd.proofs.Appending.{held_after, value_after}
use Rattle.kfdd.proofs.Standing.{Stands, stands_after, leaf_stands}
use Rattle.kfdd.proofs.Answering.{Answered, at_once, one_then, as_worth, at_count}
use Rattle.kfdd.proofs.Joined.{fact_answered}
use Rattle.kfdd.proofs.SumAnswers.{sum_answered}
use Rattle.kfdd.proofs.MinusAnswers.{minus_answered}
use Rattle.kfdd.proofs.TimesAnswers.{times_answered}
use Rattle.kfdd.specs.Recipe.{sum_of, minus_of, times_of}

-- what a gate of this kind needs, where so many signals come before it
abbrev Usable : Ring → ℕ → Gate → GateKind → Type 0
Usable R signals g Const = T (R.value g.number)
Usable R signals g Sum = (g.first < signals) × (g.second < signals)
Usable R signals g Times = (g.first < signals) × (g.second < signals)
Usable R signals g Minus = g.first < signals
Usable R signals g Not = g.first < signals
Usable R signals g Or = (g.first < signals) × (g.second < signals)

usable : (R : Ring) (signals : ℕ) (g : Gate) (k : GateKind) → verdict_by_kind R signals g (Some k) ≡ Ok tt → Usable R signals g k
usable R signals g Const e = constant_known (R.value g.number) e
usable R signals g Sum e = both_earlier signals (Ok tt) g.first g.second e
usable R signals g Times e = both_earlier signals (Ok tt) g.first g.second e
usable R signals g Minus e = one_earlier signals (Ok tt) g.first e
usable R signals g Not e = one_earlier signals (Ok tt) g.first e
usable R signals g Or e = both_earlier signals (Ok tt) g.first g.second e

module _ (R : Ring) (types : List Decomposition) where
  pub worths_none : (ns : List Node) → Worths R types ns [] (λ x. [])
  worths_none ns = record { count = λ x. refl; held = λ k h. absurd (omega arith); worth = λ k h. absurd (omega arith) }

  -- appended nodes change nothing
  pub worths_after : (a b : List Node) → Extends a b → (roots : List Root) (vs : (ℕ → Bool) → List ℕ) → Worths R types a roots vs → Worths R types b roots vs
  worths_after a b ext roots vs p =
      record {
        count = p.count;
        held = λ k h. held_after R types a b ext (get_or roots k (Inner 0)) (p.held k h);
        worth = λ k h x. value_after R types x a b ext (get_or roots k (Inner 0)) (p.held k h) ∙ p.worth k h x;
      }

  module _ (ns : List Node) (roots : List Root) (vs : (ℕ → Bool) → List ℕ) (p : Worths R types ns roots vs) (l : ℕ) (w : (ℕ → Bool) → ℕ) (r : Root) (s : Stands R types ns l w r) where
    abbrev more_roots : List Root
    more_roots = roots ++ (r ∷ [])

    old_or_new : (k : ℕ) → k < length more_roots → (k < length roots) ⊎ (length roots ≡ k)
    old_or_new k h = elim (cases_lt k (length roots)) [ inl lt ↦ inl lt | inr ge ↦ inr (omega (arith, length_push roots r)) ]

    push_held : (k : ℕ) → k < length more_roots → Held R (length ns) (get_or more_roots k (Inner 0))
    push_held k h = elim (old_or_new k h) [
      | inl old ↦ subst (Held R (length ns)) (sym (get_or_append_left roots (r ∷ []) (Inner 0) k old)) (p.held k old)
      | inr new ↦ subst (Held R (length ns)) (sym (get_or_push roots r (Inner 0) k new)) s.held
    ]

    push_worth : (k : ℕ) → k < length more_roots → (x : ℕ → Bool) → value R types x ns (get_or more_roots k (Inner 0)) ≡ get_or (vs x ++ (w x ∷ [])) k 0
    push_worth k h x = elim (old_or_new k h) [
      | inl old ↦ ap (value R types x ns) (get_or_append_left roots (r ∷ []) (Inner 0) k old) ∙ p.worth k old x
          ∙ sym (get_or_append_left (vs x) (w x ∷ []) 0 k (omega (arith, p.count x)))
      | inr new ↦ ap (value R types x ns) (get_or_push roots r (Inner 0) k new) ∙ s.worth x ∙ sym (get_or_push (vs x) (w x) 0 k (p.count x ∙ new))
    ]

    pub worths_push : Worths R types ns more_roots (λ x. vs x ++ (w x ∷ []))
    worths_push = record { count = λ x. omega (arith, length_push (vs x) (w x), length_push roots r, p.count x); held = push_held; worth = push_worth }

module _ (R : Ring) (closed : Closed R) (laws : Laws R) (types : List Decomposition) where
  abbrev Worth : Type 0
  Worth = (ℕ → Bool) → ℕ

  -- an operation on roots that stand for u and v is answered, and worth f of the two
  abbrev Binary : (ℕ → List Node → Root → Root → Outcome) → (ℕ → ℕ → ℕ) → Type 0
  Binary op f = (ns : List Node) → Reduced R types ns → (u v : Worth) (a b : Root) → Stands R types ns 0 u a → Stands R types ns 0 v b → Answered R types 0 (λ e c ms. op c ms a b) ns 0 (λ x. f (u x) (v x))

  abbrev Unary : (ℕ → List Node → Root → Outcome) → (ℕ → ℕ) → Type 0
  Unary op f = (ns : List Node) → Reduced R types ns → (u : Worth) (a : Root) → Stands R types ns 0 u a → Answered R types 0 (λ e c ms. op c ms a) ns 0 (λ x. f (u x))

  pub sum_of_answered : Binary (sum_of R types) R.sum
  sum_of_answered ns red u v a b sa sb =
      at_count R types (length types) _ ns 0 (λ x. R.sum (u x) (v x)) (length types) (omega arith) (sum_answered R closed laws types (length types) 0 (omega arith) ns red u v a b sa sb)

  pub minus_of_answered : Unary (minus_of R types) R.minus
  minus_of_answered ns red u a s =
      at_count R types (length types) _ ns 0 (λ x. R.minus (u x)) (length types) (omega arith) (minus_answered R closed laws types (length types) 0 (omega arith) ns red u a s)

  pub times_of_answered : Binary (times_of R types) R.product
  times_of_answered ns red u v a b sa sb =
      at_count R types (length types) _ ns 0 (λ x. R.product (u x) (v x)) (length types) (omega arith) (times_answered R closed laws types (length types) 0 (omega arith) ns red u v a b sa sb)

  one_stands : (ns : List Node) → Stands R types ns 0 (λ x. R.one) (Leaf R.one)
  one_stands ns = leaf_stands R types ns 0 R.one closed.one_value (omega arith)

  pub not_of_answered : Unary (not_of R types) (λ a. R.sum R.one (R.minus a))
  not_of_answered ns red u a s =
      let m = minus_of_answered ns red u a s in
      one_then R types 0 (λ e c ms. minus_of R types c ms a) (λ m e c ms. sum_of R types c ms (Leaf R.one) m) ns 0 0 (λ x. R.minus (u x)) (λ x. R.sum R.one (R.minus (u x))) m
      (sum_of_answered m.after m.reduced (λ x. R.one) (λ x. R.minus (u x)) (Leaf R.one) m.root (one_stands m.after) m.stands)

  pub or_of_answered : Binary (or_of R types) (λ a b. R.sum (R.sum a b) (R.minus (R.product a b)))
  or_of_answered ns red u v a b sa sb =
      let wt : Worth = λ x. R.product (u x) (v x) in
      let wm : Worth = λ x. R.minus (R.product (u x) (v x)) in
      let ws : Worth = λ x. R.sum (u x) (v x) in
      let w : Worth = λ x. R.sum (R.sum (u x) (v x)) (R.minus (R.product (u x) (v x))) in
      let t = times_of_answered ns red u v a b sa sb in
      let m = minus_of_answered t.after t.reduced wt t.root t.stands in
      let on : (w : Worth) (r : Root) → Stands R types ns 0 w r → Stands R types m.after 0 w r =
      λ w r q. stands_after R types t.after m.after m.extends 0 w r (stands_after R types ns t.after t.extends 0 w r q) in
      let s = sum_of_answered m.after m.reduced u v a b (on u a sa) (on v b sb) in
      let last = sum_of_answered s.after s.reduced ws wm s.root m.root s.stands (stands_after R types m.after s.after s.extends 0 wm m.root m.stands) in
      one_then R types 0 (λ e c ms. times_of R types c ms a b)
      (λ t e c ms. then (minus_of R types c ms t) (λ ms₁ m. then (sum_of R types c ms₁ a b) (λ ms₂ s. sum_of R types c ms₂ s m))) ns 0 0 wt w t
      (one_then R types 0 (λ e c ms. minus_of R types c ms t.root) (λ m e c ms. then (sum_of R types c ms a b) (λ ms₁ s. sum_of R types c ms₁ s m)) t.after 0 0 wm w m
      (one_then R types 0 (λ e c ms. sum_of R types c ms a b) (λ s e c ms. sum_of R types c ms s m.root) m.after 0 0 ws w s last))

  module _ (roots : List Root) (vs : (ℕ → Bool) → List ℕ) where
    abbrev worth_of : ℕ → Worth
    worth_of s x = signal_value R (length types) x (vs x) s

    -- what is asked for a signal, by whether it is a fact
    by_fact : (ns : List Node) → Reduced R types ns → Worths R types ns roots vs → (s : ℕ) → s < length types + length roots → (b : Bool) → ltb s (length types) ≡ b
        → Answered R types 0 (λ e c ms. cond b (fact_root R types c ms s) (done ms (get_or roots (s - length types) (Inner 0)))) ns 0
        (λ x. cond b (fact_value R (x s)) (get_or (vs x) (s - length types) 0))
    by_fact ns red p s before true e =
        as_worth R types 0 _ ns s 0 (λ x. fact_value R (x s)) (λ x. fact_value R (x s)) (omega arith) (λ x. refl) (fact_answered R closed laws types ns red 0 s (ltb-true s (length types) e))
    by_fact ns red p s before false e =
        let past = ltb-false s (length types) e in
        let k = s - length types in
        let within : k < length roots = omega arith in
        let r = get_or roots k (Inner 0) in
        at_once R types 0 (λ e c ms. done ms r) ns 0 (λ x. get_or (vs x) k 0) r red (record { held = p.held k within; later = omega arith; worth = p.worth k within }) (λ e c ms le ext. refl)

    pub signal_answered : (ns : List Node) → Reduced R types ns → Worths R types ns roots vs → (s : ℕ) → s < length types + length roots
        → Answered R types 0 (λ e c ms. signal_root R types c roots ms s) ns 0 (worth_of s)
    signal_answered ns red p s before = by_fact ns red p s before (ltb s (length types)) refl

    module _ (ns : List Node) (red : Reduced R types ns) (p : Worths R types ns roots vs) (g : Gate) where
      with_one_answered : (op : ℕ → List Node → Root → Outcome) (f : ℕ → ℕ) → Unary op f → g.first < length types + length roots
          → Answered R types 0 (λ e c ms. with_one R types c roots ms g (op c)) ns 0 (λ x. f (worth_of g.first x))
      with_one_answered op f unary before =
          let a = signal_answered ns red p g.first before in
          one_then R types 0 (λ e c ms. signal_root R types c roots ms g.first) (λ a e c ms. op c ms a) ns 0 0 (worth_of g.first) (λ x. f (worth_of g.first x)) a
          (unary a.after a.reduced (worth_of g.first) a.root a.stands)

      with_two_answered : (op : ℕ → List Node → Root → Root → Outcome) (f : ℕ → ℕ → ℕ) → Binary op f → g.first < length types + length roots → g.second < length types + length roots
          → Answered R types 0 (λ e c ms. with_two R types c roots ms g (op c)) ns 0 (λ x. f (worth_of g.first x) (worth_of g.second x))
      with_two_answered op f binary before before' =
          let u = worth_of g.first in
          let v = worth_of g.second in
          let w : Worth = λ x. f (u x) (v x) in
          let a = signal_answered ns red p g.first before in
          let b = signal_answered a.after a.reduced (worths_after R types ns a.after a.extends roots vs p) g.second before' in
          let sa = stands_after R types a.after b.after b.extends 0 u a.root a.stands in
          one_then R types 0 (λ e c ms. signal_root R types c roots ms g.first) (λ a e c ms. then (signal_root R types c roots ms g.second) (λ ms₁ b. op c ms₁ a b)) ns 0 0 u w a
          (one_then R types 0 (λ e c ms. signal_root R types c roots ms g.second) (λ b e c ms. op c ms a.root b) a.after 0 0 v w b
          (binary b.after b.reduced u v a.root b.root sa b.stands))

      -- a gate of each kind
      of_kind : (k : GateKind) → Usable R (length types + length roots) g k
          → Answered R types 0 (λ e c ms. root_by_kind R types c (Some k) roots ms g) ns 0 (λ x. operation R (Some k) g.number (worth_of g.first x) (worth_of g.second x))
      of_kind Const h =
          at_once R types 0 (λ e c ms. done ms (Leaf g.number)) ns 0 (λ x. g.number) (Leaf g.number) red (leaf_stands R types ns 0 g.number h (omega arith)) (λ e c ms le ext. refl)
      of_kind Sum h = with_two_answered (sum_of R types) R.sum sum_of_answered h.0 h.1
      of_kind Times h = with_two_answered (times_of R types) R.product times_of_answered h.0 h.1
      of_kind Minus h = with_one_answered (minus_of R types) R.minus minus_of_answered h
      of_kind Not h = with_one_answered (not_of R types) (λ a. R.sum R.one (R.minus a)) not_of_answered h
      of_kind Or h = with_two_answered (or_of R types) (λ a b. R.sum (R.sum a b) (R.minus (R.product a b))) or_of_answered h.0 h.1

      by_kind : (o : Option GateKind) → verdict_by_kind R (length types + length roots) g o ≡ Ok tt
          → Answered R types 0 (λ e c ms. root_by_kind R types c o roots ms g) ns 0 (λ x. operation R o g.number (worth_of g.first x) (worth_of g.second x))
      by_kind None e = absurd (let z : ◌≡◌ {A = ℕ} 0 1 = cc in omega arith)
      by_kind (Some k) e = of_kind k (usable R (length types + length roots) g k e)

      pub gate_answered : gate_verdict R (length types + length roots) g ≡ Ok tt
          → Answered R types 0 (λ e c ms. gate_root R types c roots ms g) ns 0 (λ x. gate_value R (length types) x (vs x) g)
      gate_answered e = by_kind (kind_of g.kind) e

-- Minus of a held root is answered, and worth the minus.
use Rattle.std.proofs.Common.{◌≡◌, ℕ, zero, suc, ◌+◌, ◌≤◌, Bool, T, List, length, get_or, Some, None, Option, sym, refl, ap, ◌∙◌, arith}
use Rattle.model.specs.Rings.{Ring, Closed, Laws}
use Rattle.kfdd.specs.Values.{mix, value}
use Rattle.kfdd.specs.Reduced.{level, Held, Reduced}
use Rattle.kfdd.specs.Appending.{Extends}
use Rattle.kfdd.specs.Splitting.{split}
use Rattle.kfdd.specs.Joining.{full, done}
use Rattle.kfdd.specs.Recipe.{else, minus_at_once, minus}
use Rattle.kfdd.specs.Stages.{minus_split}
use Rattle.kfdd.proofs.Values.{value_leaf}
use Rattle.kfdd.proofs.Mixing.{mix_minus}
use Rattle.kfdd.proofs.Appending.{extends_self, level_after, split_after}
use Rattle.kfdd.proofs.Standing.{Stands, stands_after, stands_as, stands_plainly, leaf_stands, held_value, split_halves}
use Rattle.kfdd.proofs.Answering.{Question, Answered, at_once, as_question, as_worth, one_deeper}
use Rattle.kfdd.proofs.Outcomes.{any_count}
use Rattle.kfdd.proofs.Steps.{inner_known, low_high_answered}
use Rattle.model.specs.declared.root.Root.{Root}
use Rattle.model.specs.declared.root.Root.TheVariants.{Leaf, Inner}
use Rattle.model.specs.declared.decomposition.Decomposition.{Decomposition}
use Rattle.model.specs.declared.decomposition.Decomposition.TheVariants.{Shannon}
use Rattle.model.specs.declared.node.Node.{Node}

module _ (R : Ring) (types : List Decomposition) (c : ℕ) where
  pub minus_short : (e : ℕ) (ms : List Node) (a r : Root) → minus_at_once R a ≡ Some r → minus R types c e ms a ≡ done ms r
  unfolding minus
  minus_short zero ms a r p = ap (λ (o : Option Root). else o ms full) p
  minus_short (suc e) ms a r p = ap (λ (o : Option Root). else o ms (let f = level types ms a in minus_split R types c e ms f (split R types ms f a))) p

  pub minus_long : (e : ℕ) (ms : List Node) (a : Root) → minus_at_once R a ≡ None
      → minus R types c (suc e) ms a ≡ (let f = level types ms a in minus_split R types c e ms f (split R types ms f a))
  unfolding minus
  minus_long e ms a p = ap (λ (o : Option Root). else o ms (let f = level types ms a in minus_split R types c e ms f (split R types ms f a))) p

module _ (R : Ring) (closed : Closed R) (laws : Laws R) (types : List Decomposition) where
  leaf_answered : (least : ℕ) (ns : List Node) → Reduced R types ns → (l : ℕ) (u : (ℕ → Bool) → ℕ) (p : ℕ) → Stands R types ns l u (Leaf p)
      → Answered R types least (λ e c ms. minus R types c e ms (Leaf p)) ns l (λ x. R.minus (u x))
  leaf_answered least ns red l u p s =
      at_once R types least (λ e c ms. minus R types c e ms (Leaf p)) ns l (λ x. R.minus (u x)) (Leaf (R.minus p)) red
      (stands_as R types ns l l (λ x. R.minus p) (λ x. R.minus (u x)) (Leaf (R.minus p)) (omega arith) (λ x. ap R.minus (sym (value_leaf R types x ns p) ∙ s.worth x))
      (leaf_stands R types ns l (R.minus p) (closed.minus_value p s.held) s.later))
      (λ e c ms le ext. minus_short R types c e ms (Leaf p) (Leaf (R.minus p)) refl)

  -- a split root is the same on every list that goes on from here
  split_the_same : (c e : ℕ) (ns ms : List Node) → Extends ns ms → (k : ℕ) → Held R (length ns) (Inner k)
      → minus R types c (suc e) ms (Inner k) ≡ (let f = level types ns (Inner k) in minus_split R types c e ms f (split R types ns f (Inner k)))
  split_the_same c e ns ms ext k h =
      let f = level types ns (Inner k) in
      minus_long R types c e ms (Inner k) refl
      ∙ ap (λ i. minus_split R types c e ms i (split R types ms i (Inner k))) (level_after R types ns ms ext (Inner k) h)
      ∙ ap (minus_split R types c e ms f) (split_after R types ns ms ext f (Inner k) h)

  abbrev MinusAt : ℕ → Type 0
  MinusAt d = (l : ℕ) → length types ≤ d + l → (ns : List Node) → Reduced R types ns → (u : (ℕ → Bool) → ℕ) (a : Root) → Stands R types ns l u a
      → Answered R types d (λ e c ms. minus R types c e ms a) ns l (λ x. R.minus (u x))

  -- the parts of a split root, each asked with one count
  parts_answered : (d : ℕ) → MinusAt d → (l : ℕ) → length types ≤ suc d + l → (ns : List Node) → Reduced R types ns → (u : (ℕ → Bool) → ℕ) (k : ℕ) → Stands R types ns l u (Inner k)
      → Answered R types d (λ e c ms. let f = level types ns (Inner k) in minus_split R types c e ms f (split R types ns f (Inner k))) ns l (λ x. R.minus (u x))
  parts_answered d ih l enough ns red u k s =
      let f = level types ns (Inner k) in
      let t = get_or types f Shannon in
      let known = inner_known R types ns red k s.held in
      let p = split R types ns f (Inner k) in
      let worth : Root → (ℕ → Bool) → ℕ = λ r x. value R types x ns r in
      let h = split_halves R closed laws types ns red f known (Inner k) s.held (omega arith) in
      let low = ih (suc f) (omega (arith, s.later)) ns red (worth p.0) p.0 h.low in
      let later : (r : Root) → Stands R types ns (suc f) (worth r) r → Stands R types low.after (suc f) (worth r) r = λ r. stands_after R types ns low.after low.extends (suc f) (worth r) r in
      let high = ih (suc f) (omega (arith, s.later)) low.after low.reduced (worth p.1) p.1 (later p.1 h.high) in
      let u' : (ℕ → Bool) → ℕ = λ x. R.minus (worth p.0 x) in
      let v' : (ℕ → Bool) → ℕ = λ x. R.minus (worth p.1 x) in
      let is_value : (r : Root) → Stands R types ns (suc f) (worth r) r → (x : ℕ → Bool) → T (R.value (worth r x)) = λ r s x. held_value R closed laws types ns red x r s.held in
      let opposite : (x : ℕ → Bool) → mix R t (x f) (u' x) (v' x) ≡ R.minus (u x) =
      λ x. mix_minus R closed laws t (x f) (worth p.0 x) (worth p.1 x) (is_value p.0 h.low x) (is_value p.1 h.high x)
      ∙ ap R.minus (sym (h.mixed x) ∙ s.worth x) in
      as_worth R types d (λ e c ms. minus_split R types c e ms f p) ns f l (λ x. mix R t (x f) (u' x) (v' x)) (λ x. R.minus (u x)) (omega (arith, s.later)) opposite
      (low_high_answered R closed laws types d f known (λ e c ms. minus R types c e ms p.0) (λ e c ms. minus R types c e ms p.1) ns u' v' low high)

  split_answered : (d : ℕ) → MinusAt d → (l : ℕ) → length types ≤ suc d + l → (ns : List Node) → Reduced R types ns → (u : (ℕ → Bool) → ℕ) (k : ℕ)
      → Stands R types ns l u (Inner k) → Answered R types (suc d) (λ e c ms. minus R types c e ms (Inner k)) ns l (λ x. R.minus (u x))
  split_answered d ih l enough ns red u k s =
      let w : (ℕ → Bool) → ℕ = λ x. R.minus (u x) in
      let Parts : Question = λ e c ms. let f = level types ns (Inner k) in minus_split R types c e ms f (split R types ns f (Inner k)) in
      one_deeper R types d (λ e c ms. minus R types c e ms (Inner k)) ns l w
      (as_question R types d Parts (λ e c ms. minus R types c (suc e) ms (Inner k)) ns l w (λ e c ms le ext. split_the_same c e ns ms ext k s.held)
      (parts_answered d ih l enough ns red u k s))

  -- the count need only reach from l, before which the root has no fact, to the last fact
  pub minus_answered : (d : ℕ) → MinusAt d
  minus_answered zero l enough ns red u (Leaf p) s = leaf_answered zero ns red l u p s
  minus_answered (suc d) l enough ns red u (Leaf p) s = leaf_answered (suc d) ns red l u p s
  minus_answered zero l enough ns red u (Inner k) s = absurd (omega (arith, inner_known R types ns red k s.held, s.later))
  minus_answered (suc d) l enough ns red u (Inner k) s = split_answered d (minus_answered d) l enough ns red u k s

  -- one step of the recipe, with a count that is enough for every root before and after it
  pub minus_unfolds : (n : ℕ) → length types ≤ n → (c : ℕ) (ns : List Node) → Reduced R types ns → (k : ℕ) → Held R (length ns) (Inner k)
      → minus R types c n ns (Inner k) ≡ (let f = level types ns (Inner k) in minus_split R types c n ns f (split R types ns f (Inner k)))
  minus_unfolds zero enough c ns red k h = absurd (omega (arith, inner_known R types ns red k h))
  minus_unfolds (suc d) enough c ns red k h =
      let worth : (ℕ → Bool) → ℕ = λ x. value R types x ns (Inner k) in
      let parts = parts_answered d (minus_answered d) 0 (omega arith) ns red worth k (stands_plainly R types ns 0 (Inner k) h (omega arith)) in
      split_the_same c d ns ns (extends_self ns) k h
      ∙ any_count R types d (λ e c ms. let f = level types ns (Inner k) in minus_split R types c e ms f (split R types ns f (Inner k))) ns 0
      (λ x. R.minus (worth x)) parts d (omega arith) (suc d) c (omega arith)

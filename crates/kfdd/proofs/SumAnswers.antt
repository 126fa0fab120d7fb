-- Sums of held roots are answered, and worth the sum.
use Rattle.std.proofs.Common.{◌≡◌, ℕ, zero, suc, ◌+◌, ◌<◌, ◌≤◌, Bool, true, false, T, List, length, get_or, Some, None, Option, sym, refl, ap, ◌∙◌, subst, ap₂, arith}
use Rattle.std.proofs.lemmas.Option.{none-some}
use Rattle.model.specs.Rings.{Ring, Closed, Laws}
use Rattle.kfdd.specs.Values.{mix, value}
use Rattle.kfdd.specs.Reduced.{Held, Reduced}
use Rattle.kfdd.specs.Appending.{Extends}
use Rattle.kfdd.specs.Splitting.{split, topmost}
use Rattle.kfdd.specs.Joining.{full, done}
use Rattle.kfdd.specs.Recipe.{else, or_if, is_zero, sum_of_leaves, sum_at_once, sum}
use Rattle.kfdd.specs.Stages.{sum_split}
use Rattle.arithmetic.proofs.RingLaws.{sum_zero_right}
use Rattle.kfdd.proofs.Mixing.{mix_sum}
use Rattle.kfdd.proofs.Appending.{extends_self, split_after}
use Rattle.kfdd.proofs.Standing.{Stands, leaf_pair_stands, stands_after, stands_as, stands_plainly, stands_value, held_value, split_halves}
use Rattle.kfdd.proofs.Answering.{Question, Answered, at_once, as_question, as_worth, one_deeper}
use Rattle.kfdd.proofs.Outcomes.{any_count}
use Rattle.kfdd.proofs.Steps.{or_if_none, zero_worth, inner_known, topmost_after, low_high_answered}
use Rattle.model.specs.declared.root.Root.{Root}
use Rattle.model.specs.declared.root.Root.TheVariants.{Leaf, Inner}
use Rattle.model.specs.declared.decomposition.Decomposition.{Decomposition}
use Rattle.model.specs.declared.decomposition.Decomposition.TheVariants.{Shannon}
use Rattle.model.specs.declared.node.Node.{Node}

module _ (R : Ring) (types : List Decomposition) (c : ℕ) where
  pub sum_short : (e : ℕ) (ms : List Node) (a b r : Root) → sum_at_once R a b ≡ Some r → sum R types c e ms a b ≡ done ms r
  unfolding sum
  sum_short zero ms a b r p = ap (λ (o : Option Root). else o ms full) p
  sum_short (suc e) ms a b r p =
      ap (λ (o : Option Root). else o ms (let f = topmost types ms a b in sum_split R types c e ms f (split R types ms f a) (split R types ms f b))) p

  pub sum_long : (e : ℕ) (ms : List Node) (a b : Root) → sum_at_once R a b ≡ None
      → sum R types c (suc e) ms a b ≡ (let f = topmost types ms a b in sum_split R types c e ms f (split R types ms f a) (split R types ms f b))
  unfolding sum
  sum_long e ms a b p =
      ap (λ (o : Option Root). else o ms (let f = topmost types ms a b in sum_split R types c e ms f (split R types ms f a) (split R types ms f b))) p

module _ (R : Ring) (closed : Closed R) (laws : Laws R) (types : List Decomposition) where
  module _ (ns : List Node) (red : Reduced R types ns) where
    -- roots that are not summed at once have a fact
    pub topmost_known : (a b : Root) → Held R (length ns) a → Held R (length ns) b → sum_at_once R a b ≡ None → topmost types ns a b < length types
    topmost_known (Leaf p) (Leaf q) ha hb e =
        let rest = or_if_none (is_zero R (Leaf q)) (Leaf p) (Some (Leaf (R.sum p q))) (or_if_none (is_zero R (Leaf p)) (Leaf q) (or_if (is_zero R (Leaf q)) (Leaf p) (Some (Leaf (R.sum p q)))) e) in
        absurd (none-some (Leaf (R.sum p q)) (sym rest))
    topmost_known (Leaf p) (Inner j) ha hb e = omega (arith, inner_known R types ns red j hb)
    topmost_known (Inner k) (Leaf q) ha hb e = omega (arith, inner_known R types ns red k ha)
    topmost_known (Inner k) (Inner j) ha hb e = omega (arith, inner_known R types ns red k ha)

  module _ (ns : List Node) (red : Reduced R types ns) (l : ℕ) (u v : (ℕ → Bool) → ℕ) where
    abbrev total : (ℕ → Bool) → ℕ
    total x = R.sum (u x) (v x)

    leaves_stand : (a b r : Root) → Stands R types ns l u a → Stands R types ns l v b → sum_of_leaves R a b ≡ Some r → Stands R types ns l total r
    leaves_stand (Leaf p) (Leaf q) r sa sb e =
        let same : Leaf (R.sum p q) ≡ r = cc in
        subst (Stands R types ns l total) same (leaf_pair_stands R types R.sum ns l p q u v (closed.sum_value p q sa.held sb.held) sa sb)
    leaves_stand (Leaf p) (Inner j) r sa sb e = absurd (none-some r e)
    leaves_stand (Inner k) (Leaf q) r sa sb e = absurd (none-some r e)
    leaves_stand (Inner k) (Inner j) r sa sb e = absurd (none-some r e)

    module _ (a b : Root) (sa : Stands R types ns l u a) (sb : Stands R types ns l v b) where
      without_first : (t : Bool) → is_zero R b ≡ t → (r : Root) → or_if t a (sum_of_leaves R a b) ≡ Some r → Stands R types ns l total r
      without_first true e r p =
          let same : a ≡ r = cc in
          subst (Stands R types ns l total) same
          (stands_as R types ns l l u total a (omega arith)
          (λ x. sym (ap (R.sum (u x)) (zero_worth R types ns l v b sb e x) ∙ sum_zero_right R closed laws (u x) (stands_value R closed laws types ns red l u a sa x))) sa)
      without_first false e r p = leaves_stand a b r sa sb p

      at_once_stands : (t : Bool) → is_zero R a ≡ t → (r : Root) → or_if t b (or_if (is_zero R b) a (sum_of_leaves R a b)) ≡ Some r → Stands R types ns l total r
      at_once_stands true e r p =
          let same : b ≡ r = cc in
          subst (Stands R types ns l total) same
          (stands_as R types ns l l v total b (omega arith)
          (λ x. sym (ap (λ n. R.sum n (v x)) (zero_worth R types ns l u a sa e x) ∙ laws.sum_zero (v x) (stands_value R closed laws types ns red l v b sb x))) sb)
      at_once_stands false e r p = without_first (is_zero R b) refl r p

      sum_answered_short : (least : ℕ) (r : Root) → sum_at_once R a b ≡ Some r → Answered R types least (λ e c ms. sum R types c e ms a b) ns l total
      sum_answered_short least r p =
          at_once R types least (λ e c ms. sum R types c e ms a b) ns l total r red (at_once_stands (is_zero R a) refl r p) (λ e c ms le ext. sum_short R types c e ms a b r p)

      -- at once, or as it is answered otherwise
      by_shortcut : (least : ℕ) → (sum_at_once R a b ≡ None → Answered R types least (λ e c ms. sum R types c e ms a b) ns l total)
          → (o : Option Root) → sum_at_once R a b ≡ o → Answered R types least (λ e c ms. sum R types c e ms a b) ns l total
      by_shortcut least otherwise (Some r) p = sum_answered_short least r p
      by_shortcut least otherwise None p = otherwise p

  -- split roots are the same on every list that goes on from here
  split_the_same : (c e : ℕ) (ns ms : List Node) → Extends ns ms → (a b : Root) → Held R (length ns) a → Held R (length ns) b → sum_at_once R a b ≡ None
      → sum R types c (suc e) ms a b ≡ (let f = topmost types ns a b in sum_split R types c e ms f (split R types ns f a) (split R types ns f b))
  split_the_same c e ns ms ext a b ha hb p =
      let f = topmost types ns a b in
      sum_long R types c e ms a b p
      ∙ ap (λ i. sum_split R types c e ms i (split R types ms i a) (split R types ms i b)) (topmost_after R types ns ms ext a b ha hb)
      ∙ ap₂ (sum_split R types c e ms f) (split_after R types ns ms ext f a ha) (split_after R types ns ms ext f b hb)

  abbrev SumAt : ℕ → Type 0
  SumAt d = (l : ℕ) → length types ≤ d + l → (ns : List Node) → Reduced R types ns → (u v : (ℕ → Bool) → ℕ) (a b : Root) → Stands R types ns l u a → Stands R types ns l v b
      → Answered R types d (λ e c ms. sum R types c e ms a b) ns l (λ x. R.sum (u x) (v x))

  -- the parts of a split sum, each asked with one count
  parts_answered : (d : ℕ) → SumAt d → (l : ℕ) → length types ≤ suc d + l → (ns : List Node) → Reduced R types ns → (u v : (ℕ → Bool) → ℕ) (a b : Root)
      → Stands R types ns l u a → Stands R types ns l v b → sum_at_once R a b ≡ None
      → Answered R types d (λ e c ms. let f = topmost types ns a b in sum_split R types c e ms f (split R types ns f a) (split R types ns f b)) ns l (λ x. R.sum (u x) (v x))
  parts_answered d ih l enough ns red u v a b sa sb p =
      let f = topmost types ns a b in
      let t = get_or types f Shannon in
      let known = topmost_known ns red a b sa.held sb.held p in
      let pa = split R types ns f a in
      let pb = split R types ns f b in
      let worth : Root → (ℕ → Bool) → ℕ = λ r x. value R types x ns r in
      let ha = split_halves R closed laws types ns red f known a sa.held (omega arith) in
      let hb = split_halves R closed laws types ns red f known b sb.held (omega arith) in
      let low = ih (suc f) (omega (arith, sa.later, sb.later)) ns red (worth pa.0) (worth pb.0) pa.0 pb.0 ha.low hb.low in
      let later : (r : Root) → Stands R types ns (suc f) (worth r) r → Stands R types low.after (suc f) (worth r) r = λ r. stands_after R types ns low.after low.extends (suc f) (worth r) r in
      let high = ih (suc f) (omega (arith, sa.later, sb.later)) low.after low.reduced (worth pa.1) (worth pb.1) pa.1 pb.1 (later pa.1 ha.high) (later pb.1 hb.high) in
      let u' : (ℕ → Bool) → ℕ = λ x. R.sum (worth pa.0 x) (worth pb.0 x) in
      let v' : (ℕ → Bool) → ℕ = λ x. R.sum (worth pa.1 x) (worth pb.1 x) in
      let is_value : (r : Root) → Stands R types ns (suc f) (worth r) r → (x : ℕ → Bool) → T (R.value (worth r x)) = λ r s x. held_value R closed laws types ns red x r s.held in
      let sums : (x : ℕ → Bool) → mix R t (x f) (u' x) (v' x) ≡ R.sum (u x) (v x) =
      λ x. mix_sum R closed laws t (x f) (worth pa.0 x) (worth pa.1 x) (worth pb.0 x) (worth pb.1 x)
      (is_value pa.0 ha.low x) (is_value pa.1 ha.high x) (is_value pb.0 hb.low x) (is_value pb.1 hb.high x)
      ∙ ap₂ R.sum (sym (ha.mixed x) ∙ sa.worth x) (sym (hb.mixed x) ∙ sb.worth x) in
      as_worth R types d (λ e c ms. sum_split R types c e ms f pa pb) ns f l (λ x. mix R t (x f) (u' x) (v' x)) (λ x. R.sum (u x) (v x)) (omega (arith, sa.later, sb.later)) sums
      (low_high_answered R closed laws types d f known (λ e c ms. sum R types c e ms pa.0 pb.0) (λ e c ms. sum R types c e ms pa.1 pb.1) ns u' v' low high)

  split_answered : (d : ℕ) → SumAt d → (l : ℕ) → length types ≤ suc d + l → (ns : List Node) → Reduced R types ns → (u v : (ℕ → Bool) → ℕ) (a b : Root)
      → Stands R types ns l u a → Stands R types ns l v b → sum_at_once R a b ≡ None → Answered R types (suc d) (λ e c ms. sum R types c e ms a b) ns l (λ x. R.sum (u x) (v x))
  split_answered d ih l enough ns red u v a b sa sb none =
      let w : (ℕ → Bool) → ℕ = λ x. R.sum (u x) (v x) in
      let Parts : Question = λ e c ms. let f = topmost types ns a b in sum_split R types c e ms f (split R types ns f a) (split R types ns f b) in
      one_deeper R types d (λ e c ms. sum R types c e ms a b) ns l w
      (as_question R types d Parts (λ e c ms. sum R types c (suc e) ms a b) ns l w (λ e c ms le ext. split_the_same c e ns ms ext a b sa.held sb.held none)
      (parts_answered d ih l enough ns red u v a b sa sb none))

  -- the count need only reach from l, before which neither root has a fact, to the last fact
  pub sum_answered : (d : ℕ) → SumAt d
  sum_answered zero l enough ns red u v a b sa sb =
      by_shortcut ns red l u v a b sa sb zero (λ none. absurd (omega (arith, topmost_known ns red a b sa.held sb.held none, sa.later, sb.later))) (sum_at_once R a b) refl
  sum_answered (suc d) l enough ns red u v a b sa sb =
      by_shortcut ns red l u v a b sa sb (suc d) (split_answered d (sum_answered d) l enough ns red u v a b sa sb) (sum_at_once R a b) refl

  -- one step of the recipe, with a count that is enough for every root before and after it
  pub sum_unfolds : (n : ℕ) → length types ≤ n → (c : ℕ) (ns : List Node) → Reduced R types ns → (a b : Root) → Held R (length ns) a → Held R (length ns) b → sum_at_once R a b ≡ None
      → sum R types c n ns a b ≡ (let f = topmost types ns a b in sum_split R types c n ns f (split R types ns f a) (split R types ns f b))
  sum_unfolds zero enough c ns red a b ha hb none = absurd (omega (arith, topmost_known ns red a b ha hb none))
  sum_unfolds (suc d) enough c ns red a b ha hb none =
      let worth : Root → (ℕ → Bool) → ℕ = λ r x. value R types x ns r in
      let parts = parts_answered d (sum_answered d) 0 (omega arith) ns red (worth a) (worth b) a b (stands_plainly R types ns 0 a ha (omega arith)) (stands_plainly R types ns 0 b hb (omega arith)) none in
      split_the_same c d ns ns (extends_self ns) a b ha hb none
      ∙ any_count R types d (λ e c ms. let f = topmost types ns a b in sum_split R types c e ms f (split R types ns f a) (split R types ns f b)) ns 0
      (λ x. R.sum (worth a x) (worth b x)) parts d (omega arith) (suc d) c (omega arith)

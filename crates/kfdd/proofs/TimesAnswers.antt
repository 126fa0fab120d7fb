-- Products of held roots are answered, and worth the product.
use Rattle.std.proofs.Common.{◌≡◌, ℕ, zero, suc, ◌+◌, ◌<◌, ◌≤◌, Bool, true, false, T, List, length, get_or, Some, None, Option, sym, refl, ap, ◌∙◌, subst, ap₂, arith}
use Rattle.std.proofs.lemmas.Option.{none-some}
use Rattle.model.specs.Rings.{Ring, Closed, Laws}
use Rattle.kfdd.specs.Values.{mix, value}
use Rattle.kfdd.specs.Reduced.{Held, Reduced}
use Rattle.kfdd.specs.Appending.{Extends}
use Rattle.kfdd.specs.Splitting.{split, topmost}
use Rattle.kfdd.specs.Joining.{full, done, then}
use Rattle.kfdd.specs.Recipe.{else, or_if, is_zero, is_one, product_of_leaves, product_at_once, high_of_product, high_of_davio_product, sum, times}
use Rattle.kfdd.specs.Stages.{times_split}
use Rattle.arithmetic.proofs.RingLaws.{product_zero}
use Rattle.kfdd.proofs.RingMore.{product_zero_right, product_one_right}
use Rattle.kfdd.proofs.Mixing.{mix_product, product_high}
use Rattle.kfdd.proofs.Appending.{extends_self, split_after}
use Rattle.kfdd.proofs.Standing.{Stands, leaf_pair_stands, stands_after, stands_as, stands_plainly, stands_value, leaf_stands, held_value, split_halves}
use Rattle.kfdd.proofs.Answering.{Question, Answered, at_once, one_then, as_question, as_worth, one_deeper}
use Rattle.kfdd.proofs.Outcomes.{any_count}
use Rattle.kfdd.proofs.Steps.{or_if_none, zero_worth, one_worth, inner_known, level_within, topmost_after, low_high_answered}
use Rattle.kfdd.proofs.SumAnswers.{sum_answered}
use Rattle.model.specs.declared.root.Root.{Root}
use Rattle.model.specs.declared.root.Root.TheVariants.{Leaf, Inner}
use Rattle.model.specs.declared.decomposition.Decomposition.{Decomposition}
use Rattle.model.specs.declared.decomposition.Decomposition.TheVariants.{Shannon, PositiveDavio, NegativeDavio}
use Rattle.model.specs.declared.node.Node.{Node}

module _ (R : Ring) (types : List Decomposition) (c : ℕ) where
  pub times_short : (e : ℕ) (ms : List Node) (a b r : Root) → product_at_once R a b ≡ Some r → times R types c e ms a b ≡ done ms r
  unfolding times
  times_short zero ms a b r p = ap (λ (o : Option Root). else o ms full) p
  times_short (suc e) ms a b r p =
      ap (λ (o : Option Root). else o ms (let f = topmost types ms a b in times_split R types c e ms f (split R types ms f a) (split R types ms f b))) p

  pub times_long : (e : ℕ) (ms : List Node) (a b : Root) → product_at_once R a b ≡ None
      → times R types c (suc e) ms a b ≡ (let f = topmost types ms a b in times_split R types c e ms f (split R types ms f a) (split R types ms f b))
  unfolding times
  times_long e ms a b p =
      ap (λ (o : Option Root). else o ms (let f = topmost types ms a b in times_split R types c e ms f (split R types ms f a) (split R types ms f b))) p

module _ (R : Ring) (closed : Closed R) (laws : Laws R) (types : List Decomposition) where
  module _ (ns : List Node) (red : Reduced R types ns) where
    -- roots that are not multiplied at once have a fact
    pub topmost_known : (a b : Root) → Held R (length ns) a → Held R (length ns) b → product_at_once R a b ≡ None → topmost types ns a b < length types
    topmost_known (Leaf p) (Leaf q) ha hb e =
        let leaves : Option Root = Some (Leaf (R.product p q)) in
        let ones-b = or_if (is_one R (Leaf q)) (Leaf p) leaves in
        let ones-a = or_if (is_one R (Leaf p)) (Leaf q) ones-b in
        let zeros-b = or_if (is_zero R (Leaf q)) (Leaf R.zero) ones-a in
        let rest = or_if_none (is_one R (Leaf q)) (Leaf p) leaves (or_if_none (is_one R (Leaf p)) (Leaf q) ones-b
        (or_if_none (is_zero R (Leaf q)) (Leaf R.zero) ones-a (or_if_none (is_zero R (Leaf p)) (Leaf R.zero) zeros-b e))) in
        absurd (none-some (Leaf (R.product p q)) (sym rest))
    topmost_known (Leaf p) (Inner j) ha hb e = omega (arith, inner_known R types ns red j hb)
    topmost_known (Inner k) (Leaf q) ha hb e = omega (arith, inner_known R types ns red k ha)
    topmost_known (Inner k) (Inner j) ha hb e = omega (arith, inner_known R types ns red k ha)

  module _ (ns : List Node) (red : Reduced R types ns) (l : ℕ) (u v : (ℕ → Bool) → ℕ) where
    abbrev result : (ℕ → Bool) → ℕ
    result x = R.product (u x) (v x)

    leaves_stand : (a b r : Root) → Stands R types ns l u a → Stands R types ns l v b → product_of_leaves R a b ≡ Some r → Stands R types ns l result r
    leaves_stand (Leaf p) (Leaf q) r sa sb e =
        let same : Leaf (R.product p q) ≡ r = cc in
        subst (Stands R types ns l result) same (leaf_pair_stands R types R.product ns l p q u v (closed.product_value p q sa.held sb.held) sa sb)
    leaves_stand (Leaf p) (Inner j) r sa sb e = absurd (none-some r e)
    leaves_stand (Inner k) (Leaf q) r sa sb e = absurd (none-some r e)
    leaves_stand (Inner k) (Inner j) r sa sb e = absurd (none-some r e)

    zero_stands : l ≤ length types → ((x : ℕ → Bool) → R.zero ≡ result x) → Stands R types ns l result (Leaf R.zero)
    zero_stands le e = stands_as R types ns l l (λ x. R.zero) result (Leaf R.zero) (omega arith) e (leaf_stands R types ns l R.zero closed.zero_value le)

    module _ (le : l ≤ length types) (a b : Root) (sa : Stands R types ns l u a) (sb : Stands R types ns l v b) where
      u_value : (x : ℕ → Bool) → T (R.value (u x))
      u_value = stands_value R closed laws types ns red l u a sa

      v_value : (x : ℕ → Bool) → T (R.value (v x))
      v_value = stands_value R closed laws types ns red l v b sb

      by_one_b : (t : Bool) → is_one R b ≡ t → (r : Root) → or_if t a (product_of_leaves R a b) ≡ Some r → Stands R types ns l result r
      by_one_b true e r p =
          let same : a ≡ r = cc in
          subst (Stands R types ns l result) same
          (stands_as R types ns l l u result a (omega arith) (λ x. sym (ap (R.product (u x)) (one_worth R types ns l v b sb e x) ∙ product_one_right R closed laws (u x) (u_value x))) sa)
      by_one_b false e r p = leaves_stand a b r sa sb p

      by_one_a : (t : Bool) → is_one R a ≡ t → (r : Root) → or_if t b (or_if (is_one R b) a (product_of_leaves R a b)) ≡ Some r → Stands R types ns l result r
      by_one_a true e r p =
          let same : b ≡ r = cc in
          subst (Stands R types ns l result) same
          (stands_as R types ns l l v result b (omega arith) (λ x. sym (ap (λ n. R.product n (v x)) (one_worth R types ns l u a sa e x) ∙ laws.product_one (v x) (v_value x))) sb)
      by_one_a false e r p = by_one_b (is_one R b) refl r p

      by_zero_b : (t : Bool) → is_zero R b ≡ t → (r : Root) → or_if t (Leaf R.zero) (or_if (is_one R a) b (or_if (is_one R b) a (product_of_leaves R a b))) ≡ Some r → Stands R types ns l result r
      by_zero_b true e r p =
          let same : Leaf R.zero ≡ r = cc in
          subst (Stands R types ns l result) same
          (zero_stands le (λ x. sym (ap (R.product (u x)) (zero_worth R types ns l v b sb e x) ∙ product_zero_right R closed laws (u x) (u_value x))))
      by_zero_b false e r p = by_one_a (is_one R a) refl r p

      by_zero_a : (t : Bool) → is_zero R a ≡ t → (r : Root)
          → or_if t (Leaf R.zero) (or_if (is_zero R b) (Leaf R.zero) (or_if (is_one R a) b (or_if (is_one R b) a (product_of_leaves R a b)))) ≡ Some r → Stands R types ns l result r
      by_zero_a true e r p =
          let same : Leaf R.zero ≡ r = cc in
          subst (Stands R types ns l result) same
          (zero_stands le (λ x. sym (ap (λ n. R.product n (v x)) (zero_worth R types ns l u a sa e x) ∙ product_zero R closed laws (v x) (v_value x))))
      by_zero_a false e r p = by_zero_b (is_zero R b) refl r p

      times_answered_short : (least : ℕ) (r : Root) → product_at_once R a b ≡ Some r → Answered R types least (λ e c ms. times R types c e ms a b) ns l result
      times_answered_short least r p =
          at_once R types least (λ e c ms. times R types c e ms a b) ns l result r red (by_zero_a (is_zero R a) refl r p) (λ e c ms le ext. times_short R types c e ms a b r p)

      -- at once, or as it is answered otherwise
      by_shortcut : (least : ℕ) → (product_at_once R a b ≡ None → Answered R types least (λ e c ms. times R types c e ms a b) ns l result)
          → (o : Option Root) → product_at_once R a b ≡ o → Answered R types least (λ e c ms. times R types c e ms a b) ns l result
      by_shortcut least otherwise (Some r) p = times_answered_short least r p
      by_shortcut least otherwise None p = otherwise p

  -- split roots are the same on every list that goes on from here
  split_the_same : (c e : ℕ) (ns ms : List Node) → Extends ns ms → (a b : Root) → Held R (length ns) a → Held R (length ns) b → product_at_once R a b ≡ None
      → times R types c (suc e) ms a b ≡ (let f = topmost types ns a b in times_split R types c e ms f (split R types ns f a) (split R types ns f b))
  split_the_same c e ns ms ext a b ha hb p =
      let f = topmost types ns a b in
      times_long R types c e ms a b p
      ∙ ap (λ i. times_split R types c e ms i (split R types ms i a) (split R types ms i b)) (topmost_after R types ns ms ext a b ha hb)
      ∙ ap₂ (times_split R types c e ms f) (split_after R types ns ms ext f a ha) (split_after R types ns ms ext f b hb)

  abbrev TimesAt : ℕ → Type 0
  TimesAt d = (l : ℕ) → length types ≤ d + l → (ns : List Node) → Reduced R types ns → (u v : (ℕ → Bool) → ℕ) (a b : Root) → Stands R types ns l u a → Stands R types ns l v b
      → Answered R types d (λ e c ms. times R types c e ms a b) ns l (λ x. R.product (u x) (v x))

  -- the high of a product, from roots that stand at l with their worths
  module _ (d : ℕ) (ih : TimesAt d) (l : ℕ) (enough : length types ≤ d + l) (ns : List Node) (red : Reduced R types ns) (p q : Root × Root) (a₀ a₁ b₀ b₁ : (ℕ → Bool) → ℕ)
      (pl : Stands R types ns l a₀ p.0) (ph : Stands R types ns l a₁ p.1) (ql : Stands R types ns l b₀ q.0) (qh : Stands R types ns l b₁ q.1) where
    abbrev part : ((ℕ → Bool) → ℕ) → ((ℕ → Bool) → ℕ) → (ℕ → Bool) → ℕ
    part u v x = R.product (u x) (v x)

    abbrev plus : ((ℕ → Bool) → ℕ) → ((ℕ → Bool) → ℕ) → (ℕ → Bool) → ℕ
    plus u v x = R.sum (u x) (v x)

    davio_answered : Answered R types d (λ e c. high_of_davio_product (times R types c e) (sum R types c e) p q) ns l (plus (plus (part a₁ b₁) (part a₀ b₁)) (part a₁ b₀))
    davio_answered =
        let hh = ih l enough ns red a₁ b₁ p.1 q.1 ph qh in
        let on₁ : (w : (ℕ → Bool) → ℕ) (r : Root) → Stands R types ns l w r → Stands R types hh.after l w r = stands_after R types ns hh.after hh.extends l in
        let lh = ih l enough hh.after hh.reduced a₀ b₁ p.0 q.1 (on₁ a₀ p.0 pl) (on₁ b₁ q.1 qh) in
        let on₂ : (w : (ℕ → Bool) → ℕ) (r : Root) → Stands R types hh.after l w r → Stands R types lh.after l w r = stands_after R types hh.after lh.after lh.extends l in
        let hl = ih l enough lh.after lh.reduced a₁ b₀ p.1 q.0 (on₂ a₁ p.1 (on₁ a₁ p.1 ph)) (on₂ b₀ q.0 (on₁ b₀ q.0 ql)) in
        let on₃ : (w : (ℕ → Bool) → ℕ) (r : Root) → Stands R types lh.after l w r → Stands R types hl.after l w r = stands_after R types lh.after hl.after hl.extends l in
        let s = sum_answered R closed laws types d l enough hl.after hl.reduced (part a₁ b₁) (part a₀ b₁) hh.root lh.root
        (on₃ (part a₁ b₁) hh.root (on₂ (part a₁ b₁) hh.root hh.stands)) (on₃ (part a₀ b₁) lh.root lh.stands) in
        let h = sum_answered R closed laws types d l enough s.after s.reduced (plus (part a₁ b₁) (part a₀ b₁)) (part a₁ b₀) s.root hl.root
        s.stands (stands_after R types hl.after s.after s.extends l (part a₁ b₀) hl.root hl.stands) in
        let w = plus (plus (part a₁ b₁) (part a₀ b₁)) (part a₁ b₀) in
        let Sum : Root → Root → Question = λ a b e c ms. sum R types c e ms a b in
        let Times : Root → Root → Question = λ a b e c ms. times R types c e ms a b in
        let after-hl : Root → Root → Root → Question = λ hh lh hl e c ms. then (Sum hh lh e c ms) (λ ms₁ s. Sum s hl e c ms₁) in
        let after-lh : Root → Root → Question = λ hh lh e c ms. then (Times p.1 q.0 e c ms) (λ ms₁ hl. after-hl hh lh hl e c ms₁) in
        let after-hh : Root → Question = λ hh e c ms. then (Times p.0 q.1 e c ms) (λ ms₁ lh. after-lh hh lh e c ms₁) in
        one_then R types d (Times p.1 q.1) after-hh ns l l (part a₁ b₁) w hh
        (one_then R types d (Times p.0 q.1) (after-lh hh.root) hh.after l l (part a₀ b₁) w lh
        (one_then R types d (Times p.1 q.0) (after-hl hh.root lh.root) lh.after l l (part a₁ b₀) w hl
        (one_then R types d (Sum hh.root lh.root) (λ s. Sum s hl.root) hl.after l l (plus (part a₁ b₁) (part a₀ b₁)) w s h)))

    high_answered : (t : Decomposition) → Answered R types d (λ e c. high_of_product t (times R types c e) (sum R types c e) p q) ns l (λ x. product_high R t (a₀ x) (a₁ x) (b₀ x) (b₁ x))
    high_answered Shannon = ih l enough ns red a₁ b₁ p.1 q.1 ph qh
    high_answered PositiveDavio = davio_answered
    high_answered NegativeDavio = davio_answered

  -- the parts of a split product, each asked with one count
  parts_answered : (d : ℕ) → TimesAt d → (l : ℕ) → length types ≤ suc d + l → (ns : List Node) → Reduced R types ns → (u v : (ℕ → Bool) → ℕ) (a b : Root)
      → Stands R types ns l u a → Stands R types ns l v b → product_at_once R a b ≡ None
      → Answered R types d (λ e c ms. let f = topmost types ns a b in times_split R types c e ms f (split R types ns f a) (split R types ns f b)) ns l (λ x. R.product (u x) (v x))
  parts_answered d ih l enough ns red u v a b sa sb none =
      let f = topmost types ns a b in
      let t = get_or types f Shannon in
      let known = topmost_known ns red a b sa.held sb.held none in
      let p = split R types ns f a in
      let q = split R types ns f b in
      let worth : Root → (ℕ → Bool) → ℕ = λ r x. value R types x ns r in
      let ha = split_halves R closed laws types ns red f known a sa.held (omega arith) in
      let hb = split_halves R closed laws types ns red f known b sb.held (omega arith) in
      let deep : length types ≤ d + suc f = omega (arith, sa.later, sb.later) in
      let low = ih (suc f) deep ns red (worth p.0) (worth q.0) p.0 q.0 ha.low hb.low in
      let later : (r : Root) → Stands R types ns (suc f) (worth r) r → Stands R types low.after (suc f) (worth r) r = λ r. stands_after R types ns low.after low.extends (suc f) (worth r) r in
      let high = high_answered d ih (suc f) deep low.after low.reduced p q (worth p.0) (worth p.1) (worth q.0) (worth q.1)
      (later p.0 ha.low) (later p.1 ha.high) (later q.0 hb.low) (later q.1 hb.high) t in
      let u' : (ℕ → Bool) → ℕ = λ x. R.product (worth p.0 x) (worth q.0 x) in
      let v' : (ℕ → Bool) → ℕ = λ x. product_high R t (worth p.0 x) (worth p.1 x) (worth q.0 x) (worth q.1 x) in
      let is_value : (r : Root) → Stands R types ns (suc f) (worth r) r → (x : ℕ → Bool) → T (R.value (worth r x)) = λ r s x. held_value R closed laws types ns red x r s.held in
      let products : (x : ℕ → Bool) → mix R t (x f) (u' x) (v' x) ≡ R.product (u x) (v x) =
      λ x. mix_product R closed laws t (x f) (worth p.0 x) (worth p.1 x) (worth q.0 x) (worth q.1 x)
      (is_value p.0 ha.low x) (is_value p.1 ha.high x) (is_value q.0 hb.low x) (is_value q.1 hb.high x)
      ∙ ap₂ R.product (sym (ha.mixed x) ∙ sa.worth x) (sym (hb.mixed x) ∙ sb.worth x) in
      as_worth R types d (λ e c ms. times_split R types c e ms f p q) ns f l (λ x. mix R t (x f) (u' x) (v' x)) (λ x. R.product (u x) (v x)) (omega (arith, sa.later, sb.later)) products
      (low_high_answered R closed laws types d f known (λ e c ms. times R types c e ms p.0 q.0) (λ e c. high_of_product t (times R types c e) (sum R types c e) p q) ns u' v' low high)

  split_answered : (d : ℕ) → TimesAt d → (l : ℕ) → length types ≤ suc d + l → (ns : List Node) → Reduced R types ns → (u v : (ℕ → Bool) → ℕ) (a b : Root)
      → Stands R types ns l u a → Stands R types ns l v b → product_at_once R a b ≡ None → Answered R types (suc d) (λ e c ms. times R types c e ms a b) ns l (λ x. R.product (u x) (v x))
  split_answered d ih l enough ns red u v a b sa sb none =
      let w : (ℕ → Bool) → ℕ = λ x. R.product (u x) (v x) in
      let Parts : Question = λ e c ms. let f = topmost types ns a b in times_split R types c e ms f (split R types ns f a) (split R types ns f b) in
      one_deeper R types d (λ e c ms. times R types c e ms a b) ns l w
      (as_question R types d Parts (λ e c ms. times R types c (suc e) ms a b) ns l w (λ e c ms le ext. split_the_same c e ns ms ext a b sa.held sb.held none)
      (parts_answered d ih l enough ns red u v a b sa sb none))

  within : (ns : List Node) → Reduced R types ns → (l : ℕ) (u : (ℕ → Bool) → ℕ) (a : Root) → Stands R types ns l u a → l ≤ length types
  within ns red l u a s = omega (arith, s.later, level_within R types ns red a s.held)

  -- the count need only reach from l, before which neither root has a fact, to the last fact
  pub times_answered : (d : ℕ) → TimesAt d
  times_answered zero l enough ns red u v a b sa sb =
      by_shortcut ns red l u v (within ns red l u a sa) a b sa sb zero (λ none. absurd (omega (arith, topmost_known ns red a b sa.held sb.held none, sa.later, sb.later))) (product_at_once R a b) refl
  times_answered (suc d) l enough ns red u v a b sa sb =
      by_shortcut ns red l u v (within ns red l u a sa) a b sa sb (suc d) (split_answered d (times_answered d) l enough ns red u v a b sa sb) (product_at_once R a b) refl

  -- one step of the recipe, with a count that is enough for every root before and after it
  pub times_unfolds : (n : ℕ) → length types ≤ n → (c : ℕ) (ns : List Node) → Reduced R types ns → (a b : Root) → Held R (length ns) a → Held R (length ns) b → product_at_once R a b ≡ None
      → times R types c n ns a b ≡ (let f = topmost types ns a b in times_split R types c n ns f (split R types ns f a) (split R types ns f b))
  times_unfolds zero enough c ns red a b ha hb none = absurd (omega (arith, topmost_known ns red a b ha hb none))
  times_unfolds (suc d) enough c ns red a b ha hb none =
      let worth : Root → (ℕ → Bool) → ℕ = λ r x. value R types x ns r in
      let parts = parts_answered d (times_answered d) 0 (omega arith) ns red (worth a) (worth b) a b (stands_plainly R types ns 0 a ha (omega arith)) (stands_plainly R types ns 0 b hb (omega arith)) none in
      split_the_same c d ns ns (extends_self ns) a b ha hb none
      ∙ any_count R types d (λ e c ms. let f = topmost types ns a b in times_split R types c e ms f (split R types ns f a) (split R types ns f b)) ns 0
      (λ x. R.product (worth a x) (worth b x)) parts d (omega arith) (suc d) c (omega arith)

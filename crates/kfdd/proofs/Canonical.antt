-- Equal values everywhere make equal roots.
use Rattle.std.proofs.Common.{◌≡◌, ℕ, zero, suc, ◌+◌, ◌<◌, ◌≤◌, Bool, true, false, T, List, length, get_or, sym, ap, ◌∙◌, subst, inl, inr, arith}
use Rattle.std.proofs.lemmas.Bool.{cases_order}
use Rattle.model.specs.Rings.{Ring, Closed, Laws}
use Rattle.model.specs.Roots.{blank_node}
use Rattle.kfdd.specs.Values.{mix, value}
use Rattle.kfdd.specs.Reduced.{level, Held, Needed, Reduced}
use Rattle.kfdd.specs.Ordered.{Ordered}
use Rattle.arithmetic.proofs.RingLaws.{cancel, adds_nothing}
use Rattle.kfdd.proofs.Values.{value_leaf}
use Rattle.kfdd.proofs.Ordered.{reduced_ordered, put, low_in, high_in, is_value, put_above, sides}
use Rattle.model.specs.declared.root.Root.{Root}
use Rattle.model.specs.declared.root.Root.TheVariants.{Leaf, Inner}
use Rattle.model.specs.declared.decomposition.Decomposition.{Decomposition}
use Rattle.model.specs.declared.decomposition.Decomposition.TheVariants.{Shannon, PositiveDavio, NegativeDavio}
use Rattle.model.specs.declared.node.Node.{Node}

module _ (R : Ring) (closed : Closed R) (laws : Laws R) where
  abbrev V : ℕ → Type 0
  V n = T (R.value n)

  mix_low : (t : Decomposition) (l h l' h' : ℕ) → ((b : Bool) → mix R t b l h ≡ mix R t b l' h') → l ≡ l'
  mix_low Shannon l h l' h' e = e false
  mix_low PositiveDavio l h l' h' e = e false
  mix_low NegativeDavio l h l' h' e = e true

  mix_high : (t : Decomposition) (l h l' h' : ℕ) → V l → V h → V h' → ((b : Bool) → mix R t b l h ≡ mix R t b l' h') → h ≡ h'
  mix_high Shannon l h l' h' p q r e = e true
  mix_high PositiveDavio l h l' h' p q r e = cancel R closed laws l h h' p q r (e true ∙ ap (λ n. R.sum n h') (sym (e false)))
  mix_high NegativeDavio l h l' h' p q r e = cancel R closed laws l h h' p q r (e false ∙ ap (λ n. R.sum n h') (sym (e true)))

  module _ (types : List Decomposition) (ns : List Node) (red : Reduced R types ns) where
    abbrev here : ℕ → Node
    here k = get_or ns k blank_node

    abbrev worth : (ℕ → Bool) → Root → ℕ
    worth x r = value R types x ns r

    abbrev type_at : ℕ → Decomposition
    type_at k = get_or types (here k).fact Shannon

    -- held, and of a later fact than f
    record Below (f : ℕ) (r : Root) : Type 0 where
      held : Held R (length ns) r
      later : f < level types ns r

    abbrev ordered : Ordered R types ns
    ordered = reduced_ordered R types ns red

    low_below : (k : ℕ) → k < length ns → Below (here k).fact (here k).low
    low_below k h = record { held = low_in R types ns ordered k h; later = (red.placed k h).low_later }

    high_below : (k : ℕ) → k < length ns → Below (here k).fact (here k).high
    high_below k h = record { held = high_in R types ns ordered k h; later = (red.placed k h).high_later }

    worth_value : (x : ℕ → Bool) (r : Root) → Held R (length ns) r → V (worth x r)
    worth_value x r h = is_value R types ns ordered closed x r h

    abbrev Same : Root → Root → Type 0
    Same a b = (x : ℕ → Bool) → worth x a ≡ worth x b

    abbrev Settled : ℕ → Type 0
    Settled f = (a b : Root) → Below f a → Below f b → Same a b → a ≡ b

    -- a node whose two sides are worth one root of later facts is one that joining drops
    droppable : (f : ℕ) (t : Decomposition) (low high r : Root) → f < length types → Below f low → Below f high → Settled f
        → ((x : ℕ → Bool) (b : Bool) → mix R t b (worth x low) (worth x high) ≡ worth x r) → Needed R t low high → ⊥
    droppable f Shannon low high r m l h ih e needed = needed (ih low high l h (λ x. e x false ∙ sym (e x true)))
    droppable f PositiveDavio low high r m l h ih e needed =
        needed (ih high (Leaf R.zero) h (record { held = closed.zero_value; later = m })
        (λ x. adds_nothing R closed laws (worth x low) (worth x high) (worth_value x low l.held) (worth_value x high h.held) (e x true ∙ sym (e x false)) ∙ sym (value_leaf R types x ns R.zero)))
    droppable f NegativeDavio low high r m l h ih e needed =
        needed (ih high (Leaf R.zero) h (record { held = closed.zero_value; later = m })
        (λ x. adds_nothing R closed laws (worth x low) (worth x high) (worth_value x low l.held) (worth_value x high h.held) (e x false ∙ sym (e x true)) ∙ sym (value_leaf R types x ns R.zero)))

    apart : (k : ℕ) (r : Root) → k < length ns → Below (here k).fact r → Settled (here k).fact → Same (Inner k) r → ⊥
    apart k r h below ih same =
        let p = red.placed k h in
        let f = (here k).fact in
        droppable f (type_at k) (here k).low (here k).high r p.known (low_below k h) (high_below k h) ih
        (λ x b. sym (sides R types ns ordered x k h b) ∙ same (put x f b) ∙ put_above R types ns ordered x f b r below.held below.later) p.needed

    -- two nodes of one fact that are worth the same are one node
    together : (k j : ℕ) → k < length ns → j < length ns → (here k).fact ≡ (here j).fact → Settled (here k).fact → Same (Inner k) (Inner j) → k ≡ j
    together k j hk hj facts ih same =
        let f = (here k).fact in
        let lj : Below f (here j).low = subst (λ i. Below i (here j).low) (sym facts) (low_below j hj) in
        let uj : Below f (here j).high = subst (λ i. Below i (here j).high) (sym facts) (high_below j hj) in
        let both : (x : ℕ → Bool) (b : Bool) → mix R (type_at k) b (worth x (here k).low) (worth x (here k).high) ≡ mix R (type_at k) b (worth x (here j).low) (worth x (here j).high) =
        λ x b. sym (sides R types ns ordered x k hk b) ∙ same (put x f b) ∙ ap (λ i. worth (put x i b) (Inner j)) facts ∙ sides R types ns ordered x j hj b
        ∙ ap (λ i. mix R (get_or types i Shannon) b (worth x (here j).low) (worth x (here j).high)) (sym facts) in
        let lows = ih (here k).low (here j).low (low_below k hk) lj
        (λ x. mix_low (type_at k) (worth x (here k).low) (worth x (here k).high) (worth x (here j).low) (worth x (here j).high) (both x)) in
        let highs = ih (here k).high (here j).high (high_below k hk) uj
        (λ x. mix_high (type_at k) (worth x (here k).low) (worth x (here k).high) (worth x (here j).low) (worth x (here j).high)
        (worth_value x (here k).low (low_below k hk).held) (worth_value x (here k).high (high_below k hk).held) (worth_value x (here j).high uj.held) (both x)) in
        let nodes : here k ≡ here j = λ i. record { fact = facts i; low = lows i; high = highs i } in
        red.distinct k j hk hj nodes

    leaf_leaf : (v w : ℕ) → Same (Leaf v) (Leaf w) → v ≡ w
    leaf_leaf v w same = sym (value_leaf R types (λ _. false) ns v) ∙ same (λ _. false) ∙ value_leaf R types (λ _. false) ns w

    -- d: how many facts may lie at or below the topmost of the two
    pub unique : (d : ℕ) (a b : Root) → Held R (length ns) a → Held R (length ns) b → length types ≤ d + level types ns a → length types ≤ d + level types ns b → Same a b → a ≡ b
    unique d (Leaf v) (Leaf w) ha hb la lb same = ap Leaf (leaf_leaf v w same)
    unique zero (Leaf v) (Inner j) ha hb la lb same = absurd (omega (arith, (red.placed j hb).known))
    unique zero (Inner k) (Leaf w) ha hb la lb same = absurd (omega (arith, (red.placed k ha).known))
    unique zero (Inner k) (Inner j) ha hb la lb same = absurd (omega (arith, (red.placed k ha).known))
    unique (suc d) (Leaf v) (Inner j) ha hb la lb same =
        let known = (red.placed j hb).known in
        absurd (apart j (Leaf v) hb (record { held = ha; later = known }) (λ a b p q. unique d a b p.held q.held (omega (arith, p.later)) (omega (arith, q.later))) (λ x. sym (same x)))
    unique (suc d) (Inner k) (Leaf w) ha hb la lb same =
        let known = (red.placed k ha).known in
        absurd (apart k (Leaf w) ha (record { held = hb; later = known }) (λ a b p q. unique d a b p.held q.held (omega (arith, p.later)) (omega (arith, q.later))) same)
    unique (suc d) (Inner k) (Inner j) ha hb la lb same =
        let ih-k : Settled (here k).fact = λ a b p q. unique d a b p.held q.held (omega (arith, p.later)) (omega (arith, q.later)) in
        let ih-j : Settled (here j).fact = λ a b p q. unique d a b p.held q.held (omega (arith, p.later)) (omega (arith, q.later)) in
        elim (cases_order (here k).fact (here j).fact) [
          | inl e ↦ ap Inner (together k j ha hb e ih-k same)
          | inr (inl lt) ↦ absurd (apart k (Inner j) ha (record { held = hb; later = lt }) ih-k same)
          | inr (inr gt) ↦ absurd (apart j (Inner k) hb (record { held = ha; later = gt }) ih-j (λ x. sym (same x)))
        ]

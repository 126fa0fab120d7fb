-- Values in ordered lists: they are values of the arithmetic, and depend on facts from a root's level on.
use Rattle.std.proofs.Common.{◌≡◌, ℕ, zero, suc, ◌<◌, ◌≤◌, Bool, cond, T, eqb, List, length, get_or, sym, ap, ◌∙◌, subst, ap₂, arith}
use Rattle.model.specs.Rings.{Ring, Closed}
use Rattle.model.specs.Roots.{blank_node}
use Rattle.model.specs.declared.root.Root.{Root}
use Rattle.model.specs.declared.root.Root.TheVariants.{Leaf, Inner}
use Rattle.model.specs.declared.decomposition.Decomposition.{Decomposition}
use Rattle.model.specs.declared.decomposition.Decomposition.TheVariants.{Shannon}
use Rattle.model.specs.declared.node.Node.{Node}
use Rattle.kfdd.specs.Values.{mix, value}
use Rattle.kfdd.specs.Reduced.{level, Held, Reduced}
use Rattle.kfdd.specs.Ordered.{Ordered}
use Rattle.kfdd.proofs.Values.{held_more, value_leaf, value_node}
use Rattle.kfdd.proofs.Sides.{mix_value}

pub reduced_ordered : (R : Ring) (types : List Decomposition) (ns : List Node) → Reduced R types ns → Ordered R types ns
reduced_ordered R types ns red k h =
    let p = red.placed k h in
    record { known = p.known; low_held = p.low_held; high_held = p.high_held; low_later = p.low_later; high_later = p.high_later }

-- x with fact i set to b
abbrev pub put : (ℕ → Bool) → ℕ → Bool → ℕ → Bool
put x i b = λ j. cond (eqb j i) b (x j)

pub put_same : (x : ℕ → Bool) (i : ℕ) (b : Bool) → put x i b i ≡ b
put_same x i b = grind arith

pub put_other : (x : ℕ → Bool) (i : ℕ) (b : Bool) (j : ℕ) → (j ≡ i → ⊥) → put x i b j ≡ x j
put_other x i b j h = grind arith

pub put_own : (x : ℕ → Bool) (i : ℕ) (b : Bool) → x i ≡ b → (j : ℕ) → put x i b j ≡ x j
put_own x i b e j = grind arith

module _ (R : Ring) (types : List Decomposition) (ns : List Node) (ordered : Ordered R types ns) where
  abbrev node : ℕ → Node
  node k = get_or ns k blank_node

  abbrev type_of : ℕ → Decomposition
  type_of k = get_or types (node k).fact Shannon

  pub low_in : (k : ℕ) → k < length ns → Held R (length ns) (node k).low
  low_in k h = held_more R k (length ns) (node k).low (omega arith) (ordered k h).low_held

  pub high_in : (k : ℕ) → k < length ns → Held R (length ns) (node k).high
  high_in k h = held_more R k (length ns) (node k).high (omega arith) (ordered k h).high_held

  pub node_is : (x : ℕ → Bool) (k : ℕ) → k < length ns
      → value R types x ns (Inner k) ≡ mix R (type_of k) (x (node k).fact) (value R types x ns (node k).low) (value R types x ns (node k).high)
  node_is x k h = value_node R types x ns k h (ordered k h).low_held (ordered k h).high_held

  -- by the bound b on the places
  value_below : Closed R → (x : ℕ → Bool) (b : ℕ) → b ≤ length ns → (r : Root) → Held R b r → T (R.value (value R types x ns r))
  value_below c x b le (Leaf v) h = subst (λ n. T (R.value n)) (sym (value_leaf R types x ns v)) h
  value_below c x zero le (Inner k) h = absurd (omega arith)
  value_below c x (suc b) le (Inner k) h =
      let k< : k < length ns = omega arith in
      let e = ordered k k< in
      let low = value_below c x b (omega arith) (node k).low (held_more R k b (node k).low (omega arith) e.low_held) in
      let high = value_below c x b (omega arith) (node k).high (held_more R k b (node k).high (omega arith) e.high_held) in
      subst (λ n. T (R.value n)) (sym (node_is x k k<))
      (mix_value R c (type_of k) (x (node k).fact) (value R types x ns (node k).low) (value R types x ns (node k).high) low high)

  pub is_value : Closed R → (x : ℕ → Bool) (r : Root) → Held R (length ns) r → T (R.value (value R types x ns r))
  is_value c x r h = value_below c x (length ns) (omega arith) r h

  agrees_below : (x y : ℕ → Bool) (b : ℕ) → b ≤ length ns → (r : Root) → Held R b r
      → ((i : ℕ) → level types ns r ≤ i → i < length types → x i ≡ y i) → value R types x ns r ≡ value R types y ns r
  agrees_below x y b le (Leaf v) h e = value_leaf R types x ns v ∙ sym (value_leaf R types y ns v)
  agrees_below x y zero le (Inner k) h e = absurd (omega arith)
  agrees_below x y (suc b) le (Inner k) h e =
      let k< : k < length ns = omega arith in
      let p = ordered k k< in
      let lows = agrees_below x y b (omega arith) (node k).low (held_more R k b (node k).low (omega arith) p.low_held) (λ i l m. e i (omega (arith, p.low_later)) m) in
      let highs = agrees_below x y b (omega arith) (node k).high (held_more R k b (node k).high (omega arith) p.high_held) (λ i l m. e i (omega (arith, p.high_later)) m) in
      node_is x k k< ∙ ap (λ (v : Bool). mix R (type_of k) v (value R types x ns (node k).low) (value R types x ns (node k).high)) (e (node k).fact (omega arith) p.known)
      ∙ ap₂ (mix R (type_of k) (y (node k).fact)) lows highs ∙ sym (node_is y k k<)

  -- only facts from the root's level on, up to the last, count
  pub agrees : (x y : ℕ → Bool) (r : Root) → Held R (length ns) r
      → ((i : ℕ) → level types ns r ≤ i → i < length types → x i ≡ y i) → value R types x ns r ≡ value R types y ns r
  agrees x y r h e = agrees_below x y (length ns) (omega arith) r h e

  pub put_above : (x : ℕ → Bool) (f : ℕ) (b : Bool) (r : Root) → Held R (length ns) r → f < level types ns r → value R types (put x f b) ns r ≡ value R types x ns r
  put_above x f b r h lt = agrees (put x f b) x r h (λ i l m. put_other x f b i (omega arith))

  -- both sides of a node's fact, by its children
  pub sides : (x : ℕ → Bool) (k : ℕ) → k < length ns → (b : Bool)
      → value R types (put x (node k).fact b) ns (Inner k) ≡ mix R (type_of k) b (value R types x ns (node k).low) (value R types x ns (node k).high)
  sides x k h b =
      let f = (node k).fact in
      let p = ordered k h in
      node_is (put x f b) k h
      ∙ ap (λ (v : Bool). mix R (type_of k) v (value R types (put x f b) ns (node k).low) (value R types (put x f b) ns (node k).high)) (put_same x f b)
      ∙ ap₂ (mix R (type_of k) b) (put_above x f b (node k).low (low_in k h) p.low_later) (put_above x f b (node k).high (high_in k h) p.high_later)

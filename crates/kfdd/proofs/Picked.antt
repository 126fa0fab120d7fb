-- The nodes of a list that pass a test, in their order and renumbered: with the children of what passes they are worth the same.
use Rattle.std.proofs.Common.{◌≡◌, ℕ, zero, suc, ◌+◌, ◌-◌, ◌<◌, ◌≤◌, Bool, true, false, cond, List, [], ◌∷◌, ◌++◌, length, get_or, sym, refl, ap, ◌∙◌, subst, ap₂, inl, inr, arith}
use Rattle.std.proofs.lemmas.List.{get_or_append_left, get_or_push, length_push}
use Rattle.std.proofs.lemmas.Bool.{cases_lt}
use Rattle.model.specs.Rings.{Ring}
use Rattle.model.specs.Roots.{blank_node}
use Rattle.model.specs.declared.root.Root.{Root}
use Rattle.model.specs.declared.root.Root.TheVariants.{Leaf, Inner}
use Rattle.model.specs.declared.decomposition.Decomposition.{Decomposition}
use Rattle.model.specs.declared.decomposition.Decomposition.TheVariants.{Shannon}
use Rattle.model.specs.declared.node.Node.{Node}
use Rattle.kfdd.specs.Values.{mix, value}
use Rattle.kfdd.specs.Reduced.{level, Held}
use Rattle.kfdd.specs.Ordered.{Entry, Ordered}
use Rattle.kfdd.specs.Reaching.{count_below}
use Rattle.kfdd.proofs.Values.{held_more, value_leaf}
use Rattle.kfdd.proofs.Ordered.{node_is}
use Rattle.kfdd.proofs.Reaching.{Marked}
use Rattle.kfdd.proofs.Counting.{count_yes, count_less, count_mono}

module _ (test : ℕ → Bool) where
  -- the number of those that pass before k
  abbrev pub rank : ℕ → ℕ
  rank k = count_below k test

  abbrev pub renumber : Root → Root
  renumber (Leaf v) = Leaf v
  renumber (Inner k) = Inner (rank k)

  abbrev renumbered : Node → Node
  renumbered n = record { fact = n.fact; low = renumber n.low; high = renumber n.high }

  module _ (ns : List Node) where
    abbrev node : ℕ → Node
    node k = get_or ns k blank_node

    -- of the first k nodes
    abbrev pub picked : ℕ → List Node
    picked zero = []
    picked (suc k) = cond (test k) (picked k ++ (renumbered (node k) ∷ [])) (picked k)

    pub length_picked : (k : ℕ) → length (picked k) ≡ rank k
    length_picked zero = refl
    length_picked (suc k) = by (test k) (length_picked k)
      where
        by : (b : Bool) → length (picked k) ≡ rank k → length (cond b (picked k ++ (renumbered (node k) ∷ [])) (picked k)) ≡ rank k + cond b 1 0
        by true e = omega (arith, length_push (picked k) (renumbered (node k)))
        by false e = omega arith

    picked_more : (k i : ℕ) → i < rank k → get_or (picked (suc k)) i blank_node ≡ get_or (picked k) i blank_node
    picked_more k i h = by (test k)
      where
        by : (b : Bool) → get_or (cond b (picked k ++ (renumbered (node k) ∷ [])) (picked k)) i blank_node ≡ get_or (picked k) i blank_node
        by true = get_or_append_left (picked k) (renumbered (node k) ∷ []) blank_node i (omega (arith, length_picked k))
        by false = refl

    picked_further : (d k i : ℕ) → i < rank k → get_or (picked (d + k)) i blank_node ≡ get_or (picked k) i blank_node
    picked_further zero k i h = ap (λ m. get_or (picked m) i blank_node) (let e : 0 + k ≡ k = omega arith in e)
    picked_further (suc d) k i h =
        ap (λ m. get_or (picked m) i blank_node) (let e : suc d + k ≡ suc (d + k) = omega arith in e)
        ∙ picked_more (d + k) i (omega (arith, count_mono k (d + k) test (omega arith))) ∙ picked_further d k i h

    -- a node that passes stands at its rank
    pub picked_at : (n k : ℕ) → k < n → test k ≡ true → get_or (picked n) (rank k) blank_node ≡ renumbered (node k)
    picked_at n k h t =
        let own : picked (suc k) ≡ picked k ++ (renumbered (node k) ∷ []) = ap (λ (b : Bool). cond b (picked k ++ (renumbered (node k) ∷ [])) (picked k)) t in
        ap (λ m. get_or (picked m) (rank k) blank_node) (let e : n ≡ (n - suc k) + suc k = omega arith in e)
        ∙ picked_further (n - suc k) (suc k) (rank k) (omega (arith, count_yes k test t))
        ∙ ap (λ (ms : List Node). get_or ms (rank k) blank_node) own ∙ get_or_push (picked k) (renumbered (node k)) blank_node (rank k) (length_picked k)

    -- and nothing else is there
    pub picked_from : (n i : ℕ) → i < rank n → (k : ℕ) × (k < n) × (test k ≡ true) × (i ≡ rank k)
    picked_from zero i h = absurd (omega arith)
    picked_from (suc n) i h = elim (cases_lt i (rank n)) [
      | inl less ↦ let found = picked_from n i less in (found.0, omega (arith, found.1), found.2, found.3)
      | inr more ↦ by (test n) refl h more
    ]
      where
        by : (b : Bool) → test n ≡ b → i < rank n + cond b 1 0 → rank n ≤ i → (k : ℕ) × (k < suc n) × (test k ≡ true) × (i ≡ rank k)
        by true t h le = (n, omega arith, t, omega arith)
        by false t h le = absurd (omega arith)

    module _ (R : Ring) (types : List Decomposition) (ordered : Ordered R types ns)
        (children : (k : ℕ) → k < length ns → test k ≡ true → Marked test (node k).low × Marked test (node k).high) where
      abbrev pub kept : List Node
      kept = picked (length ns)

      renumber_held : (k : ℕ) (r : Root) → Held R k r → Marked test r → Held R (rank k) (renumber r)
      renumber_held k (Leaf v) h m = h
      renumber_held k (Inner j) h m = count_less j k test h m

      renumber_level : (r : Root) → Held R (length ns) r → Marked test r → level types kept (renumber r) ≡ level types ns r
      renumber_level (Leaf v) h m = refl
      renumber_level (Inner k) h m = ap (λ (n : Node). n.fact) (picked_at (length ns) k h m)

      renumbered_entry : (k : ℕ) → k < length ns → test k ≡ true → Entry R types kept (rank k) (renumbered (node k))
      renumbered_entry k h t =
          let e = ordered k h in
          let c = children k h t in
          let l = held_more R k (length ns) (node k).low (omega arith) e.low_held in
          let u = held_more R k (length ns) (node k).high (omega arith) e.high_held in
          record {
            known = e.known;
            low_held = renumber_held k (node k).low e.low_held c.0;
            high_held = renumber_held k (node k).high e.high_held c.1;
            low_later = omega (arith, e.low_later, renumber_level (node k).low l c.0);
            high_later = omega (arith, e.high_later, renumber_level (node k).high u c.1);
          }

      pub kept_ordered : Ordered R types kept
      kept_ordered i h =
          let found = picked_from (length ns) i (omega (arith, length_picked (length ns))) in
          let k = found.0 in
          let at : get_or kept (rank k) blank_node ≡ renumbered (node k) = picked_at (length ns) k found.1 found.2 in
          subst (λ j. Entry R types kept j (get_or kept j blank_node)) (sym found.3)
          (subst (λ (n : Node). Entry R types kept (rank k) n) (sym at) (renumbered_entry k found.1 found.2))

      pub kept_held : (r : Root) → Held R (length ns) r → Marked test r → Held R (length kept) (renumber r)
      kept_held r h m = subst (λ j. Held R j (renumber r)) (sym (length_picked (length ns))) (renumber_held (length ns) r h m)

      value_below : (x : ℕ → Bool) (b : ℕ) → b ≤ length ns → (r : Root) → Held R b r → Marked test r → value R types x kept (renumber r) ≡ value R types x ns r
      value_below x b le (Leaf v) h m = value_leaf R types x kept v ∙ sym (value_leaf R types x ns v)
      value_below x zero le (Inner k) h m = absurd (omega arith)
      value_below x (suc b) le (Inner k) h m =
          let k< : k < length ns = omega arith in
          let e = ordered k k< in
          let c = children k k< m in
          let lows = value_below x b (omega arith) (node k).low (held_more R k b (node k).low (omega arith) e.low_held) c.0 in
          let highs = value_below x b (omega arith) (node k).high (held_more R k b (node k).high (omega arith) e.high_held) c.1 in
          node_is R types kept kept_ordered x (rank k) (kept_held (Inner k) k< m)
          ∙ ap (λ (n : Node). mix R (get_or types n.fact Shannon) (x n.fact) (value R types x kept n.low) (value R types x kept n.high)) (picked_at (length ns) k k< m)
          ∙ ap₂ (mix R (get_or types (node k).fact Shannon) (x (node k).fact)) lows highs ∙ sym (node_is R types ns ordered x k k<)

      pub kept_value : (x : ℕ → Bool) (r : Root) → Held R (length ns) r → Marked test r → value R types x kept (renumber r) ≡ value R types x ns r
      kept_value x r h m = value_below x (length ns) (omega arith) r h m

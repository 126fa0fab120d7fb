-- The value of each node from its children's, and that later nodes change no earlier value.
use Rattle.std.proofs.Common.{◌≡◌, ℕ, zero, suc, ◌+◌, ◌<◌, ◌≤◌, Bool, List, [], ◌∷◌, ◌++◌, length, get_or, sym, refl, ◌∙◌, subst, ap₂, add-zero, arith}
use Rattle.std.proofs.lemmas.List.{get_or_append_left, get_or_push, length_push}
use Rattle.model.specs.Rings.{Ring}
use Rattle.model.specs.Roots.{blank_node}
use Rattle.kfdd.specs.Values.{mix, at_root, node_value, values_after, value}
use Rattle.kfdd.specs.Reduced.{Held}
use Rattle.model.specs.declared.root.Root.{Root}
use Rattle.model.specs.declared.root.Root.TheVariants.{Leaf, Inner}
use Rattle.model.specs.declared.decomposition.Decomposition.{Decomposition}
use Rattle.model.specs.declared.decomposition.Decomposition.TheVariants.{Shannon}
use Rattle.model.specs.declared.node.Node.{Node}

pub held_more : (R : Ring) (j k : ℕ) (r : Root) → j ≤ k → Held R j r → Held R k r
held_more R j k (Leaf v) le h = h
held_more R j k (Inner i) le h = omega arith

module _ (R : Ring) (types : List Decomposition) (x : ℕ → Bool) where
  pub value_leaf : (ns : List Node) (v : ℕ) → value R types x ns (Leaf v) ≡ v
  unfolding value
  value_leaf ns v = refl

  -- later nodes leave the values before
  after_front : (vs : List ℕ) (ns : List Node) (k : ℕ) → k < length vs → get_or (values_after R types x vs ns) k 0 ≡ get_or vs k 0
  after_front vs [] k h = refl
  after_front vs (n ∷ ns) k h =
      let longer : k < length (vs ++ (node_value R types x vs n ∷ [])) = omega (arith, length_push vs (node_value R types x vs n)) in
      after_front (vs ++ (node_value R types x vs n ∷ [])) ns k longer ∙ get_or_append_left vs (node_value R types x vs n ∷ []) 0 k h

  pub at_root_front : (vs : List ℕ) (ns : List Node) (r : Root) → Held R (length vs) r → at_root (values_after R types x vs ns) r ≡ at_root vs r
  at_root_front vs ns (Leaf v) h = refl
  at_root_front vs ns (Inner k) h = after_front vs ns k h

  node_value_front : (vs : List ℕ) (ns : List Node) (n : Node) → Held R (length vs) n.low → Held R (length vs) n.high
      → node_value R types x (values_after R types x vs ns) n ≡ node_value R types x vs n
  node_value_front vs ns n l h =
      ap₂ (mix R (get_or types n.fact Shannon) (x n.fact)) (at_root_front vs ns n.low l) (at_root_front vs ns n.high h)

  at_root_push : (vs : List ℕ) (v : ℕ) (r : Root) → Held R (length vs) r → at_root (vs ++ (v ∷ [])) r ≡ at_root vs r
  at_root_push vs v (Leaf w) h = refl
  at_root_push vs v (Inner k) h = get_or_append_left vs (v ∷ []) 0 k h

  node_value_push : (vs : List ℕ) (v : ℕ) (n : Node) → Held R (length vs) n.low → Held R (length vs) n.high
      → node_value R types x (vs ++ (v ∷ [])) n ≡ node_value R types x vs n
  node_value_push vs v n l h =
      ap₂ (mix R (get_or types n.fact Shannon) (x n.fact)) (at_root_push vs v n.low l) (at_root_push vs v n.high h)

  after_at : (vs : List ℕ) (ns : List Node) (k : ℕ) → k < length ns → Held R (length vs + k) (get_or ns k blank_node).low → Held R (length vs + k) (get_or ns k blank_node).high
      → get_or (values_after R types x vs ns) (length vs + k) 0 ≡ node_value R types x (values_after R types x vs ns) (get_or ns k blank_node)
  after_at vs [] k h l u = absurd (omega arith)
  after_at vs (n ∷ ns) zero h l u =
      let v = node_value R types x vs n in
      let vs' = vs ++ (v ∷ []) in
      let l' = rw add-zero at l in
      let u' = rw add-zero at u in
      let within : length vs < length vs' = omega (arith, length_push vs v) in
      let longer : (r : Root) → Held R (length vs) r → Held R (length vs') r = λ r. held_more R (length vs) (length vs') r (omega arith) in
      rw add-zero (after_front vs' ns (length vs) within ∙ get_or_push vs v 0 (length vs) refl
      ∙ sym (node_value_front vs' ns n (longer n.low l') (longer n.high u') ∙ node_value_push vs v n l' u'))
  after_at vs (n ∷ ns) (suc k) h l u =
      let v = node_value R types x vs n in
      let vs' = vs ++ (v ∷ []) in
      let e : length vs' + k ≡ length vs + suc k = omega (arith, length_push vs v) in
      rw (← e) (after_at vs' ns k (omega arith) (subst (λ m. Held R m (get_or ns k blank_node).low) (sym e) l) (subst (λ m. Held R m (get_or ns k blank_node).high) (sym e) u))

  pub value_node : (ns : List Node) (k : ℕ) → k < length ns → Held R k (get_or ns k blank_node).low → Held R k (get_or ns k blank_node).high
      → value R types x ns (Inner k) ≡ mix R (get_or types (get_or ns k blank_node).fact Shannon) (x (get_or ns k blank_node).fact) (value R types x ns (get_or ns k blank_node).low) (value R types x ns (get_or ns k blank_node).high)
  unfolding value
  value_node ns k h l u =
      let e : 0 + k ≡ k = omega arith in
      rw e at (after_at [] ns k h (subst (λ m. Held R m (get_or ns k blank_node).low) (sym e) l) (subst (λ m. Held R m (get_or ns k blank_node).high) (sym e) u))

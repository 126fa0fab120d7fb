-- A reduced list with one more node.
use Rattle.std.proofs.Common.{◌≡◌, ℕ, ◌<◌, ◌≤◌, ◌⊎◌, List, [], ◌∷◌, ◌++◌, length, get_or, sym, ◌∙◌, subst, inl, inr, arith}
use Rattle.std.proofs.lemmas.Bool.{cases_lt}
use Rattle.std.proofs.lemmas.List.{get_or_append_left, get_or_push, length_push}
use Rattle.model.specs.Rings.{Ring}
use Rattle.model.specs.Roots.{blank_node}
use Rattle.model.specs.declared.decomposition.Decomposition.{Decomposition}
use Rattle.model.specs.declared.node.Node.{Node}
use Rattle.kfdd.specs.Reduced.{Placed, Reduced}
use Rattle.kfdd.specs.Appending.{Extends}
use Rattle.kfdd.proofs.Values.{held_more}
use Rattle.kfdd.proofs.Appending.{extends_by, level_after}

module _ (R : Ring) (types : List Decomposition) where
  placed_after : (a b : List Node) → Extends a b → (k : ℕ) → k ≤ length a → (n : Node) → Placed R types a k n → Placed R types b k n
  placed_after a b ext k le n p =
      let low = held_more R k (length a) n.low le p.low_held in
      let high = held_more R k (length a) n.high le p.high_held in
      record {
        known = p.known;
        low_held = p.low_held;
        high_held = p.high_held;
        low_later = omega (arith, p.low_later, level_after R types a b ext n.low low);
        high_later = omega (arith, p.high_later, level_after R types a b ext n.high high);
        needed = p.needed;
      }

  module _ (ns : List Node) (red : Reduced R types ns) (n : Node) where
    abbrev pushed : List Node
    pushed = ns ++ (n ∷ [])

    old_at : (k : ℕ) → k < length ns → get_or pushed k blank_node ≡ get_or ns k blank_node
    old_at k h = get_or_append_left ns (n ∷ []) blank_node k h

    new_at : (k : ℕ) → length ns ≡ k → get_or pushed k blank_node ≡ n
    new_at k e = get_or_push ns n blank_node k e

    old_or_new : (k : ℕ) → k < length pushed → (k < length ns) ⊎ (length ns ≡ k)
    old_or_new k h = elim (cases_lt k (length ns)) [ inl lt ↦ inl lt | inr ge ↦ inr (omega (arith, length_push ns n)) ]

    push_placed : Placed R types ns (length ns) n → (k : ℕ) → k < length pushed → Placed R types pushed k (get_or pushed k blank_node)
    push_placed p k h = elim (old_or_new k h) [
      | inl old ↦ subst (Placed R types pushed k) (sym (old_at k old)) (placed_after ns pushed (extends_by ns (n ∷ [])) k (omega arith) (get_or ns k blank_node) (red.placed k old))
      | inr new ↦ subst (Placed R types pushed k) (sym (new_at k new)) (subst (λ i. Placed R types pushed i n) new (placed_after ns pushed (extends_by ns (n ∷ [])) (length ns) (omega arith) n p))
    ]

    module _ (absent : (k : ℕ) → k < length ns → get_or ns k blank_node ≡ n → ⊥) where
      push_distinct : (i j : ℕ) → i < length pushed → j < length pushed → get_or pushed i blank_node ≡ get_or pushed j blank_node → i ≡ j
      push_distinct i j hi hj e = elim (old_or_new i hi) [
        | inl old ↦ elim (old_or_new j hj) [
          | inl old' ↦ red.distinct i j old old' (sym (old_at i old) ∙ e ∙ old_at j old')
          | inr new' ↦ absurd (absent i old (sym (old_at i old) ∙ e ∙ new_at j new'))
        ]
        | inr new ↦ elim (old_or_new j hj) [
          | inl old' ↦ absurd (absent j old' (sym (old_at j old') ∙ sym e ∙ new_at i new))
          | inr new' ↦ omega arith
        ]
      ]

      -- a node that is placed at the end, and was not there, leaves a reduced list
      pub push_reduced : Placed R types ns (length ns) n → Reduced R types pushed
      push_reduced p = record { placed = push_placed p; distinct = push_distinct }

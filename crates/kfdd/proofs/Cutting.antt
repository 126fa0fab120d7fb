-- The empty list is reduced, and so is the front of a reduced list: nodes only refer to earlier ones.
use Rattle.std.proofs.Common.{◌≡◌, ℕ, ◌<◌, ◌≤◌, List, [], length, get_or, take, drop, sym, ◌∙◌, subst, arith}
use Rattle.std.proofs.lemmas.List.{take-append-drop}
use Rattle.model.specs.Rings.{Ring}
use Rattle.model.specs.Roots.{blank_node}
use Rattle.model.specs.declared.root.Root.{Root}
use Rattle.model.specs.declared.decomposition.Decomposition.{Decomposition}
use Rattle.model.specs.declared.node.Node.{Node}
use Rattle.kfdd.specs.Reduced.{level, Held, Placed, Reduced}
use Rattle.kfdd.specs.Appending.{Extends}
use Rattle.kfdd.proofs.Values.{held_more}
use Rattle.kfdd.proofs.Appending.{extends_at, extends_length, level_after}

pub extends_take : (n : ℕ) (ns : List Node) → Extends (take n ns) ns
extends_take n ns = (drop n ns, sym (take-append-drop n ns))

module _ (R : Ring) (types : List Decomposition) where
  pub reduced_none : Reduced R types []
  reduced_none = record { placed = λ k h. absurd (omega arith); distinct = λ i j hi hj e. absurd (omega arith) }

  module _ (a b : List Node) (ext : Extends a b) (red : Reduced R types b) where
    earlier_level : (k : ℕ) → k ≤ length a → (r : Root) → Held R k r → level types b r ≡ level types a r
    earlier_level k le r h = level_after R types a b ext r (held_more R k (length a) r le h)

    placed_front : (k : ℕ) → k < length a → Placed R types a k (get_or a k blank_node)
    placed_front k h =
        let longer = extends_length a b ext in
        let p = subst (Placed R types b k) (extends_at a b ext k h) (red.placed k (omega arith)) in
        record {
          known = p.known;
          low_held = p.low_held;
          high_held = p.high_held;
          low_later = omega (arith, p.low_later, earlier_level k (omega arith) (get_or a k blank_node).low p.low_held);
          high_later = omega (arith, p.high_later, earlier_level k (omega arith) (get_or a k blank_node).high p.high_held);
          needed = p.needed;
        }

    pub reduced_front : Reduced R types a
    reduced_front =
        let longer = extends_length a b ext in
        record {
          placed = placed_front;
          distinct = λ i j hi hj e. red.distinct i j (omega arith) (omega arith) (extends_at a b ext i hi ∙ e ∙ sym (extends_at a b ext j hj));
        }

  pub reduced_take : (n : ℕ) (ns : List Node) → Reduced R types ns → Reduced R types (take n ns)
  reduced_take n ns red = reduced_front (take n ns) ns (extends_take n ns) red

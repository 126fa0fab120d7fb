-- Roots with what they are worth, and what splitting makes of one.
use Rattle.std.proofs.Common.{◌≡◌, ℕ, suc, ◌<◌, ◌≤◌, Bool, true, false, cond, T, eqb, List, length, get_or, sym, refl, ap, ◌∙◌, subst, ap₂, arith}
use Rattle.std.proofs.lemmas.Bool.{eqb-true, eqb-false}
use Rattle.model.specs.Rings.{Ring, Closed, Laws}
use Rattle.model.specs.Roots.{blank_node}
use Rattle.kfdd.specs.Values.{mix, value}
use Rattle.kfdd.specs.Reduced.{level, Held, Reduced}
use Rattle.kfdd.specs.Splitting.{split, split_other}
use Rattle.kfdd.specs.Appending.{Extends}
use Rattle.kfdd.proofs.Values.{held_more, value_leaf}
use Rattle.kfdd.proofs.Ordered.{reduced_ordered, node_is, is_value}
use Rattle.arithmetic.proofs.RingLaws.{sum_zero_right}
use Rattle.kfdd.proofs.Appending.{held_after, level_after, value_after}
use Rattle.model.specs.declared.root.Root.{Root}
use Rattle.model.specs.declared.root.Root.TheVariants.{Leaf, Inner}
use Rattle.model.specs.declared.decomposition.Decomposition.{Decomposition}
use Rattle.model.specs.declared.decomposition.Decomposition.TheVariants.{Shannon, PositiveDavio, NegativeDavio}
use Rattle.model.specs.declared.node.Node.{Node}

-- r is held in ns, has no fact before l, and is worth w
pub record Stands (R : Ring) (types : List Decomposition) (ns : List Node) (l : ℕ) (w : (ℕ → Bool) → ℕ) (r : Root) : Type 0 where
  pub held : Held R (length ns) r
  pub later : l ≤ level types ns r
  pub worth : (x : ℕ → Bool) → value R types x ns r ≡ w x

-- p is a low and a high for r at the fact f of type t: both have later facts, and mixed they are worth r
pub record Halves (R : Ring) (types : List Decomposition) (ns : List Node) (t : Decomposition) (f : ℕ) (r : Root) (p : Root × Root) : Type 0 where
  pub low : Stands R types ns (suc f) (λ x. value R types x ns p.0) p.0
  pub high : Stands R types ns (suc f) (λ x. value R types x ns p.1) p.1
  pub mixed : (x : ℕ → Bool) → value R types x ns r ≡ mix R t (x f) (value R types x ns p.0) (value R types x ns p.1)

module _ (R : Ring) (types : List Decomposition) where
  pub stands_after : (a b : List Node) → Extends a b → (l : ℕ) (w : (ℕ → Bool) → ℕ) (r : Root) → Stands R types a l w r → Stands R types b l w r
  stands_after a b ext l w r s =
      record {
        held = held_after R types a b ext r s.held;
        later = omega (arith, s.later, level_after R types a b ext r s.held);
        worth = λ x. value_after R types x a b ext r s.held ∙ s.worth x;
      }

  -- an earlier bound and another way to say the worth
  pub stands_as : (ns : List Node) (l m : ℕ) (w v : (ℕ → Bool) → ℕ) (r : Root) → m ≤ l → ((x : ℕ → Bool) → w x ≡ v x) → Stands R types ns l w r → Stands R types ns m v r
  stands_as ns l m w v r le e s = record { held = s.held; later = omega (arith, s.later); worth = λ x. s.worth x ∙ e x }

  pub stands_plainly : (ns : List Node) (l : ℕ) (r : Root) → Held R (length ns) r → l ≤ level types ns r → Stands R types ns l (λ x. value R types x ns r) r
  stands_plainly ns l r h le = record { held = h; later = le; worth = λ x. refl }

  pub leaf_stands : (ns : List Node) (l v : ℕ) → T (R.value v) → l ≤ length types → Stands R types ns l (λ x. v) (Leaf v)
  leaf_stands ns l v h le = record { held = h; later = le; worth = λ x. value_leaf R types x ns v }

  -- an operation on two leaves is a leaf at once
  pub leaf_pair_stands : (op : ℕ → ℕ → ℕ) (ns : List Node) (l p q : ℕ) (u v : (ℕ → Bool) → ℕ) → T (R.value (op p q))
      → Stands R types ns l u (Leaf p) → Stands R types ns l v (Leaf q) → Stands R types ns l (λ x. op (u x) (v x)) (Leaf (op p q))
  leaf_pair_stands op ns l p q u v known sa sb =
      record {
        held = known;
        later = sa.later;
        worth = λ x. value_leaf R types x ns (op p q) ∙ ap₂ op (sym (value_leaf R types x ns p) ∙ sa.worth x) (sym (value_leaf R types x ns q) ∙ sb.worth x);
      }

module _ (R : Ring) (closed : Closed R) (laws : Laws R) (types : List Decomposition) (ns : List Node) (red : Reduced R types ns) where
  abbrev worth_of : (ℕ → Bool) → Root → ℕ
  worth_of x r = value R types x ns r

  pub held_value : (x : ℕ → Bool) (r : Root) → Held R (length ns) r → T (R.value (worth_of x r))
  held_value x r h = is_value R types ns (reduced_ordered R types ns red) closed x r h

  pub stands_value : (l : ℕ) (w : (ℕ → Bool) → ℕ) (r : Root) → Stands R types ns l w r → (x : ℕ → Bool) → T (R.value (w x))
  stands_value l w r s x = subst (λ n. T (R.value n)) (s.worth x) (held_value x r s.held)

  plus_zero : (x : ℕ → Bool) (r : Root) → Held R (length ns) r → worth_of x r ≡ R.sum (worth_of x r) (worth_of x (Leaf R.zero))
  plus_zero x r h =
      sym (ap (R.sum (worth_of x r)) (value_leaf R types x ns R.zero) ∙ sum_zero_right R closed laws (worth_of x r) (held_value x r h))

  module _ (f : ℕ) (known : f < length types) where
    zero_stands : Stands R types ns (suc f) (λ x. worth_of x (Leaf R.zero)) (Leaf R.zero)
    zero_stands = stands_plainly R types ns (suc f) (Leaf R.zero) closed.zero_value (omega arith)

    plus_zero_if : (x : ℕ → Bool) (t : Decomposition) (b : Bool) (r : Root) → Held R (length ns) r → worth_of x r ≡ mix R t b (worth_of x (split_other R t r).0) (worth_of x (split_other R t r).1)
    plus_zero_if x Shannon false r h = refl
    plus_zero_if x Shannon true r h = refl
    plus_zero_if x PositiveDavio false r h = refl
    plus_zero_if x PositiveDavio true r h = plus_zero x r h
    plus_zero_if x NegativeDavio false r h = plus_zero x r h
    plus_zero_if x NegativeDavio true r h = refl

    other_halves : (t : Decomposition) (r : Root) → Held R (length ns) r → suc f ≤ level types ns r → Halves R types ns t f r (split_other R t r)
    other_halves Shannon r h le =
        let s = stands_plainly R types ns (suc f) r h le in
        record { low = s; high = s; mixed = λ x. plus_zero_if x Shannon (x f) r h }
    other_halves PositiveDavio r h le =
        record { low = stands_plainly R types ns (suc f) r h le; high = zero_stands; mixed = λ x. plus_zero_if x PositiveDavio (x f) r h }
    other_halves NegativeDavio r h le =
        record { low = stands_plainly R types ns (suc f) r h le; high = zero_stands; mixed = λ x. plus_zero_if x NegativeDavio (x f) r h }

    own_halves : (k : ℕ) → k < length ns → (get_or ns k blank_node).fact ≡ f → Halves R types ns (get_or types f Shannon) f (Inner k) ((get_or ns k blank_node).low, (get_or ns k blank_node).high)
    own_halves k h e =
        let n = get_or ns k blank_node in
        let p = red.placed k h in
        record {
          low = stands_plainly R types ns (suc f) n.low (held_more R k (length ns) n.low (omega arith) p.low_held) (omega (arith, p.low_later, e));
          high = stands_plainly R types ns (suc f) n.high (held_more R k (length ns) n.high (omega arith) p.high_held) (omega (arith, p.high_later, e));
          mixed = λ x. node_is R types ns (reduced_ordered R types ns red) x k h ∙ ap (λ i. mix R (get_or types i Shannon) (x i) (worth_of x n.low) (worth_of x n.high)) e;
        }

    inner_halves : (k : ℕ) → k < length ns → f ≤ (get_or ns k blank_node).fact → (b : Bool) → eqb (get_or ns k blank_node).fact f ≡ b
        → Halves R types ns (get_or types f Shannon) f (Inner k) (cond b ((get_or ns k blank_node).low, (get_or ns k blank_node).high) (split_other R (get_or types f Shannon) (Inner k)))
    inner_halves k h le true e = own_halves k h (eqb-true (get_or ns k blank_node).fact f e)
    inner_halves k h le false e =
        let apart = eqb-false (get_or ns k blank_node).fact f e in
        other_halves (get_or types f Shannon) (Inner k) h (omega arith)

    pub split_halves : (r : Root) → Held R (length ns) r → f ≤ level types ns r → Halves R types ns (get_or types f Shannon) f r (split R types ns f r)
    split_halves (Leaf v) h le = other_halves (get_or types f Shannon) (Leaf v) h (omega arith)
    split_halves (Inner k) h le = inner_halves k h le (eqb (get_or ns k blank_node).fact f) refl

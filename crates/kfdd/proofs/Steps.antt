-- What sum, minus and product share: the low, the high and the join; shortcuts; the topmost fact.
use Rattle.std.proofs.Common.{◌≡◌, ℕ, suc, ◌<◌, ◌≤◌, min, Bool, true, false, List, length, get_or, None, Option, sym, ap, ◌∙◌, ap₂, arith}
use Rattle.model.specs.Rings.{Ring, Closed, Laws}
use Rattle.kfdd.specs.Values.{mix, value}
use Rattle.kfdd.specs.Reduced.{level, Held, Reduced}
use Rattle.kfdd.specs.Appending.{Extends}
use Rattle.kfdd.specs.Splitting.{topmost}
use Rattle.kfdd.specs.Joining.{then, same_root, join}
use Rattle.kfdd.specs.Recipe.{or_if, is_zero, is_one, low_high_join}
use Rattle.kfdd.proofs.Values.{value_leaf}
use Rattle.kfdd.proofs.Places.{same_root_true}
use Rattle.kfdd.proofs.Appending.{level_after}
use Rattle.kfdd.proofs.Standing.{Stands, stands_after}
use Rattle.kfdd.proofs.Answering.{Question, Answered, one_then}
use Rattle.kfdd.proofs.Joined.{join_answered}
use Rattle.model.specs.declared.root.Root.{Root}
use Rattle.model.specs.declared.root.Root.TheVariants.{Leaf, Inner}
use Rattle.model.specs.declared.decomposition.Decomposition.{Decomposition}
use Rattle.model.specs.declared.decomposition.Decomposition.TheVariants.{Shannon}
use Rattle.model.specs.declared.node.Node.{Node}

-- a shortcut that is not taken leaves the others
pub or_if_none : (t : Bool) (r : Root) (o : Option Root) → or_if t r o ≡ None → o ≡ None
or_if_none true r o e = cc
or_if_none false r o e = e

module _ (R : Ring) (types : List Decomposition) (ns : List Node) where
  leaf_worth : (l : ℕ) (w : (ℕ → Bool) → ℕ) (r : Root) (v : ℕ) → Stands R types ns l w r → same_root r (Leaf v) ≡ true → (x : ℕ → Bool) → w x ≡ v
  leaf_worth l w r v s e x = sym (s.worth x) ∙ ap (value R types x ns) (same_root_true r (Leaf v) e) ∙ value_leaf R types x ns v

  pub zero_worth : (l : ℕ) (w : (ℕ → Bool) → ℕ) (r : Root) → Stands R types ns l w r → is_zero R r ≡ true → (x : ℕ → Bool) → w x ≡ R.zero
  zero_worth l w r = leaf_worth l w r R.zero

  pub one_worth : (l : ℕ) (w : (ℕ → Bool) → ℕ) (r : Root) → Stands R types ns l w r → is_one R r ≡ true → (x : ℕ → Bool) → w x ≡ R.one
  one_worth l w r = leaf_worth l w r R.one

  -- a node has a fact of the order
  pub inner_known : Reduced R types ns → (k : ℕ) → Held R (length ns) (Inner k) → level types ns (Inner k) < length types
  inner_known red k h = (red.placed k h).known

  pub level_within : Reduced R types ns → (r : Root) → Held R (length ns) r → level types ns r ≤ length types
  level_within red (Leaf v) h = omega arith
  level_within red (Inner k) h = omega (arith, inner_known red k h)

  pub topmost_after : (ms : List Node) → Extends ns ms → (a b : Root) → Held R (length ns) a → Held R (length ns) b → topmost types ms a b ≡ topmost types ns a b
  topmost_after ms ext a b ha hb = ap₂ min (level_after R types ns ms ext a ha) (level_after R types ns ms ext b hb)

module _ (R : Ring) (closed : Closed R) (laws : Laws R) (types : List Decomposition) where
  -- the low, then the high on what the low left, then the two joined
  pub low_high_answered : (least f : ℕ) → f < length types → (Low High : Question) (ns : List Node) (u v : (ℕ → Bool) → ℕ) (low : Answered R types least Low ns (suc f) u)
      → Answered R types least High low.after (suc f) v
      → Answered R types least (λ e c ms. low_high_join R types c f (Low e c ms) (High e c)) ns f (λ x. mix R (get_or types f Shannon) (x f) (u x) (v x))
  low_high_answered least f known Low High ns u v low high =
      let l = low.root in
      let w : (ℕ → Bool) → ℕ = λ x. mix R (get_or types f Shannon) (x f) (u x) (v x) in
      let low_stands = stands_after R types low.after high.after high.extends (suc f) u l low.stands in
      let joined = join_answered R closed laws types high.after high.reduced f known least l high.root u v low_stands high.stands in
      one_then R types least Low (λ l e c ms. then (High e c ms) (λ ms₁ h. join R types c ms₁ f l h)) ns (suc f) f u w low
      (one_then R types least High (λ h e c ms. join R types c ms f l h) low.after (suc f) f v w high joined)

-- Nodes that are appended leave what was there: which roots are held, their levels, values and splits.
use Rattle.std.proofs.Common.{◌≡◌, ℕ, ◌+◌, ◌<◌, ◌≤◌, Bool, cond, eqb, List, [], ◌∷◌, ◌++◌, length, get_or, sym, refl, ap, ◌∙◌, subst, append_assoc, append-nil, arith, length-append}
use Rattle.std.proofs.lemmas.List.{get_or_append_left, length_push}
use Rattle.model.specs.Rings.{Ring}
use Rattle.model.specs.Roots.{blank_node}
use Rattle.kfdd.specs.Values.{at_root, node_value, values_after, value}
use Rattle.kfdd.specs.Reduced.{level, Held}
use Rattle.kfdd.specs.Splitting.{split, split_other}
use Rattle.kfdd.specs.Appending.{Extends}
use Rattle.kfdd.proofs.Values.{held_more, at_root_front}
use Rattle.model.specs.declared.root.Root.{Root}
use Rattle.model.specs.declared.root.Root.TheVariants.{Leaf, Inner}
use Rattle.model.specs.declared.decomposition.Decomposition.{Decomposition}
use Rattle.model.specs.declared.decomposition.Decomposition.TheVariants.{Shannon}
use Rattle.model.specs.declared.node.Node.{Node}

pub extends_self : (ns : List Node) → Extends ns ns
extends_self ns = ([], sym (append-nil ns))

pub extends_by : (ns more : List Node) → Extends ns (ns ++ more)
extends_by ns more = (more, refl)

pub extends_trans : (a b c : List Node) → Extends a b → Extends b c → Extends a c
extends_trans a b c (p, e) (q, e') = (p ++ q, e' ∙ ap (λ l. l ++ q) e ∙ append_assoc a p q)

pub extends_length : (a b : List Node) → Extends a b → length a ≤ length b
extends_length a b (p, e) = omega (arith, ap length e, length-append a p)

pub extends_at : (a b : List Node) → Extends a b → (k : ℕ) → k < length a → get_or b k blank_node ≡ get_or a k blank_node
extends_at a b (p, e) k h = ap (λ l. get_or l k blank_node) e ∙ get_or_append_left a p blank_node k h

-- a list that extends another and is no longer is that list
pub extends_none : (a b : List Node) → Extends a b → length b ≤ length a → b ≡ a
extends_none a b ([], e) h = e ∙ append-nil a
extends_none a b (n ∷ p, e) h = absurd (omega (arith, ap length e, length-append a (n ∷ p)))

module _ (R : Ring) (types : List Decomposition) (a b : List Node) (ext : Extends a b) where
  pub held_after : (r : Root) → Held R (length a) r → Held R (length b) r
  held_after r h = held_more R (length a) (length b) r (extends_length a b ext) h

  pub level_after : (r : Root) → Held R (length a) r → level types b r ≡ level types a r
  level_after (Leaf v) h = refl
  level_after (Inner k) h = ap (λ n. n.fact) (extends_at a b ext k h)

  pub split_after : (f : ℕ) (r : Root) → Held R (length a) r → split R types b f r ≡ split R types a f r
  split_after f (Leaf v) h = refl
  split_after f (Inner k) h =
      ap (λ (n : Node). cond (eqb n.fact f) (n.low, n.high) (split_other R (get_or types f Shannon) (Inner k))) (extends_at a b ext k h)

module _ (R : Ring) (types : List Decomposition) (x : ℕ → Bool) where
  values_append : (vs : List ℕ) (ns more : List Node) → values_after R types x vs (ns ++ more) ≡ values_after R types x (values_after R types x vs ns) more
  values_append vs [] more = refl
  values_append vs (n ∷ ns) more = values_append (vs ++ (node_value R types x vs n ∷ [])) ns more

  length_values : (vs : List ℕ) (ns : List Node) → length (values_after R types x vs ns) ≡ length vs + length ns
  length_values vs [] = omega arith
  length_values vs (n ∷ ns) =
      omega (arith, length_values (vs ++ (node_value R types x vs n ∷ [])) ns, length_push vs (node_value R types x vs n))

  pub value_after : (a b : List Node) → Extends a b → (r : Root) → Held R (length a) r → value R types x b r ≡ value R types x a r
  unfolding value
  value_after a b (more, e) r h =
      let long : length (values_after R types x [] a) ≡ length a = omega (arith, length_values [] a) in
      ap (λ l. at_root (values_after R types x [] l) r) e ∙ ap (λ vs. at_root vs r) (values_append [] a more)
      ∙ at_root_front R types x (values_after R types x [] a) more r (subst (λ n. Held R n r) (sym long) h)

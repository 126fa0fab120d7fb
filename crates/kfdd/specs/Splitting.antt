-- Splitting roots at a fact.
use Rattle.std.specs.Prelude.{ℕ, min, cond, List, get_or, ◌==◌, slice_index_or}
use Rattle.model.specs.Rings.{Ring}
use Rattle.model.specs.Roots.{blank_node}
use Rattle.model.specs.declared.root.Root.{Root}
use Rattle.model.specs.declared.root.Root.TheVariants.{Leaf, Inner}
use Rattle.model.specs.declared.decomposition.Decomposition.{Decomposition}
use Rattle.model.specs.declared.decomposition.Decomposition.TheVariants.{Shannon, PositiveDavio, NegativeDavio}
use Rattle.model.specs.declared.node.Node.{Node}
use Rattle.kfdd.specs.Reduced.{level}

-- the topmost fact of either root
abbrev pub topmost : List Decomposition → List Node → Root → Root → ℕ
topmost types ns a b = min (level types ns a) (level types ns b)

module _ (R : Ring) where
  -- the low and the high of a root at a fact that it does not branch at
  abbrev pub split_other : Decomposition → Root → Root × Root
  split_other Shannon r = (r, r)
  split_other PositiveDavio r = (r, Leaf R.zero)
  split_other NegativeDavio r = (r, Leaf R.zero)

  -- the low and the high of a root at a fact: a node of that fact gives its own two
  abbrev pub split : List Decomposition → List Node → ℕ → Root → Root × Root
  split types ns f (Leaf v) = split_other (slice_index_or types f Shannon) (Leaf v)
  split types ns f (Inner k) =
      cond ((get_or ns k blank_node).fact == f) ((get_or ns k blank_node).low, (get_or ns k blank_node).high) (split_other (slice_index_or types f Shannon) (Inner k))

-- What a list of nodes is worth under an assignment.
use Rattle.std.specs.Prelude.{ℕ, Bool, true, false, List, [], ◌∷◌, ◌++◌, slice_index, slice_index_or}
use Rattle.model.specs.Rings.{Ring}
use Rattle.model.specs.declared.root.Root.{Root}
use Rattle.model.specs.declared.root.Root.TheVariants.{Leaf, Inner}
use Rattle.model.specs.declared.decomposition.Decomposition.{Decomposition}
use Rattle.model.specs.declared.decomposition.Decomposition.TheVariants.{Shannon, PositiveDavio, NegativeDavio}
use Rattle.model.specs.declared.node.Node.{Node}

-- what a node of this type is worth, from its children's values
abbrev pub mix : Ring → Decomposition → Bool → ℕ → ℕ → ℕ
mix R Shannon false low high = low
mix R Shannon true low high = high
mix R PositiveDavio false low high = low
mix R PositiveDavio true low high = R.sum low high
mix R NegativeDavio false low high = R.sum low high
mix R NegativeDavio true low high = low

-- the value of a root where the nodes have the values vs
abbrev pub at_root : List ℕ → Root → ℕ
at_root vs (Leaf v) = v
at_root vs (Inner k) = slice_index vs k

module _ (R : Ring) (types : List Decomposition) (x : ℕ → Bool) where
  abbrev pub node_value : List ℕ → Node → ℕ
  node_value vs n = mix R (slice_index_or types n.fact Shannon) (x n.fact) (at_root vs n.low) (at_root vs n.high)

  -- the values of the nodes, of which vs has those of the nodes before
  abbrev pub values_after : List ℕ → List Node → List ℕ
  values_after vs [] = vs
  values_after vs (n ∷ ns) = values_after (vs ++ (node_value vs n ∷ [])) ns

  unfoldable pub value : List Node → Root → ℕ
  value ns r = at_root (values_after [] ns) r

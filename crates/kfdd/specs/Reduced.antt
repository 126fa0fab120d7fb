-- Roots that a list of nodes holds, and the lists that diagrams keep.
use Rattle.std.specs.Prelude.{◌≡◌, ℕ, ◌<◌, T, List, length, get_or, slice_index_or}
use Rattle.model.specs.Rings.{Ring}
use Rattle.model.specs.declared.root.Root.{Root}
use Rattle.model.specs.declared.root.Root.TheVariants.{Leaf, Inner}
use Rattle.model.specs.declared.decomposition.Decomposition.{Decomposition}
use Rattle.model.specs.declared.decomposition.Decomposition.TheVariants.{Shannon, PositiveDavio, NegativeDavio}
use Rattle.model.specs.declared.node.Node.{Node}
use Rattle.model.specs.Roots.{blank_node}

-- a fact's number, and for a leaf the number of facts
abbrev pub level : List Decomposition → List Node → Root → ℕ
level types ns (Leaf v) = length types
level types ns (Inner k) = (get_or ns k blank_node).fact

-- r is a value's leaf, or a node before place k
abbrev pub Held : Ring → ℕ → Root → Type 0
Held R k (Leaf v) = T (R.value v)
Held R k (Inner j) = j < k

-- joining would not drop this node
abbrev pub Needed : Ring → Decomposition → Root → Root → Type 0
Needed R Shannon low high = low ≡ high → ⊥
Needed R PositiveDavio low high = high ≡ Leaf R.zero → ⊥
Needed R NegativeDavio low high = high ≡ Leaf R.zero → ⊥

pub record Placed (R : Ring) (types : List Decomposition) (ns : List Node) (k : ℕ) (n : Node) : Type 0 where
  pub known : n.fact < length types
  pub low_held : Held R k n.low
  pub high_held : Held R k n.high
  pub low_later : n.fact < level types ns n.low
  pub high_later : n.fact < level types ns n.high
  pub needed : Needed R (slice_index_or types n.fact Shannon) n.low n.high

pub record Reduced (R : Ring) (types : List Decomposition) (ns : List Node) : Type 0 where
  pub placed : (k : ℕ) → k < length ns → Placed R types ns k (slice_index_or ns k blank_node)
  pub distinct : (i j : ℕ) → i < length ns → j < length ns → slice_index_or ns i blank_node ≡ slice_index_or ns j blank_node → i ≡ j

-- Lists of nodes in which every child comes earlier and is of a later fact.
use Rattle.std.specs.Prelude.{ℕ, ◌<◌, List, length, slice_index_or}
use Rattle.model.specs.Rings.{Ring}
use Rattle.model.specs.Roots.{blank_node}
use Rattle.model.specs.declared.decomposition.Decomposition.{Decomposition}
use Rattle.model.specs.declared.node.Node.{Node}
use Rattle.kfdd.specs.Reduced.{level, Held}

-- what the node n at place k of ns keeps to
pub record Entry (R : Ring) (types : List Decomposition) (ns : List Node) (k : ℕ) (n : Node) : Type 0 where
  pub known : n.fact < length types
  pub low_held : Held R k n.low
  pub high_held : Held R k n.high
  pub low_later : n.fact < level types ns n.low
  pub high_later : n.fact < level types ns n.high

abbrev pub Ordered : Ring → List Decomposition → List Node → Type 0
Ordered R types ns = (k : ℕ) → k < length ns → Entry R types ns k (slice_index_or ns k blank_node)

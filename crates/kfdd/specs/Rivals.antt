-- Rivals of a root: all the diagrams over the same facts, reduced or not.
use Rattle.std.specs.Prelude.{◌≡◌, ℕ, ◌^◌, ◌<◌, ◌≤◌, List, length}
use Rattle.model.specs.Rings.{Ring}
use Rattle.model.specs.declared.root.Root.{Root}
use Rattle.model.specs.declared.decomposition.Decomposition.{Decomposition}
use Rattle.model.specs.declared.node.Node.{Node}
use Rattle.kfdd.specs.Reduced.{Held, Reduced}
use Rattle.kfdd.specs.Ordered.{Ordered}
use Rattle.kfdd.specs.Assignments.{worth}
use Rattle.kfdd.specs.Reaching.{reached_count}

-- a list of nodes and a root: the facts are the order's, a child is a value's leaf or an earlier entry of a later fact,
-- the root is a value's leaf or an entry. Entries may be equal, out of reach, or such as joining drops: all count
pub record Rival (R : Ring) (types : List Decomposition) : Type 0 where
  pub nodes : List Node
  pub root : Root
  pub ordered : Ordered R types nodes
  pub held : Held R (length nodes) root

-- the rival's root has this value under every assignment to the facts
abbrev pub Means : (R : Ring) (types : List Decomposition) → Rival R types → (ℕ → ℕ) → Type 0
Means R types rival meaning = (x : ℕ) → x < 2 ^ length types → worth R types rival.nodes rival.root x ≡ meaning x

-- a held root of a reduced list reaches at most as many nodes as a rival that means the same has entries,
-- and some rival that means it has exactly that many
abbrev pub Smallest : Ring → Type 0
Smallest R =
    (types : List Decomposition) (ns : List Node) → Reduced R types ns → (r : Root) → Held R (length ns) r
    → ((rival : Rival R types) → Means R types rival (worth R types ns r) → reached_count ns r ≤ length rival.nodes)
    × ((rival : Rival R types) × (Means R types rival (worth R types ns r)) × (length rival.nodes ≡ reached_count ns r))

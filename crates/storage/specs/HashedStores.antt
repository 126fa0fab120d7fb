-- What the table of a hashed store means.
use Rattle.std.specs.Prelude.{ℕ, List}
use Rattle.model.specs.declared.node.Node.{Node}
use Rattle.storage.specs.NodeKeys.{nodes_in}
use Rattle.storage.specs.Stores.{capacity_for}
use Rattle.storage.specs.declared.hashed.HashedStore.{HashedStore}
use Rattle.table.specs.Tables as table

abbrev pub nodes_of : HashedStore → List Node
nodes_of s = nodes_in (table.keys_of s.table)

abbrev pub capacity_of : HashedStore → ℕ
capacity_of s = capacity_for (table.capacity_of s.table)

-- What the memory of a plain store means.
use Rattle.std.specs.Prelude.{ℕ, List, length, take}
use Rattle.model.specs.declared.node.Node.{Node}
use Rattle.storage.specs.Stores.{capacity_for}
use Rattle.storage.specs.declared.plain.PlainStore.{PlainStore}

-- the nodes lie in the first cells
abbrev pub nodes_of : PlainStore → List Node
nodes_of s = take s.len s.cells.now

abbrev pub capacity_of : PlainStore → ℕ
capacity_of s = capacity_for (length s.cells.now)

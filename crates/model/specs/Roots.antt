-- Roots and nodes of diagrams.
use Rattle.std.specs.Prelude.{ℕ}
use Rattle.model.specs.declared.node.Node.{Node}
use Rattle.model.specs.declared.root.Root.{Root}
use Rattle.model.specs.declared.root.Root.TheVariants.{Inner, Leaf}

-- the number of each case of a root
abbrev pub case_number : Root → ℕ
case_number (Inner k) = 0
case_number (Leaf v) = 1

-- what stands past the end of a list of nodes
abbrev pub blank_node : Node
blank_node = record { fact = 0; low = Inner 0; high = Inner 0 }

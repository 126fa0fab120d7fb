-- The nodes that a root reaches, and how many they are.
use Rattle.std.specs.Prelude.{◌≡◌, ℕ, zero, suc, ◌+◌, Bool, true, false, cond, ◌↔◌, List, length, ◌==◌, slice_index, slice_index_or}
use Rattle.model.specs.Rings.{Ring}
use Rattle.model.specs.Roots.{blank_node}
use Rattle.model.specs.declared.root.Root.{Root}
use Rattle.model.specs.declared.root.Root.TheVariants.{Leaf, Inner}
use Rattle.model.specs.declared.decomposition.Decomposition.{Decomposition}
use Rattle.model.specs.declared.node.Node.{Node}
use Rattle.kfdd.specs.Reduced.{Held, Reduced}

-- a root reaches its own node, and what that node's children reach
pub data Reaches (ns : List Node) : Root → ℕ → Type 0 where
  itself : {k : ℕ} → Reaches ns (Inner k) k
  by_low : {j k : ℕ} → Reaches ns (slice_index_or ns j blank_node).low k → Reaches ns (Inner j) k
  by_high : {j k : ℕ} → Reaches ns (slice_index_or ns j blank_node).high k → Reaches ns (Inner j) k

-- marks, and the node of r marked too
abbrev pub mark : Root → (ℕ → Bool) → ℕ → Bool
mark (Leaf v) marks = marks
mark (Inner k) marks = λ j. cond (j == k) true (marks j)

-- the children of node k marked, if it is marked itself
abbrev pub mark_children : List Node → ℕ → (ℕ → Bool) → ℕ → Bool
mark_children ns k marks = cond (marks k) (mark (slice_index_or ns k blank_node).high (mark (slice_index_or ns k blank_node).low marks)) marks

-- the nodes below k, from the highest down, have marked their children
abbrev pub mark_down : List Node → ℕ → (ℕ → Bool) → ℕ → Bool
mark_down ns zero marks = marks
mark_down ns (suc k) marks = mark_down ns k (mark_children ns k marks)

-- the nodes that are marked in the end, where the root's own is marked first
unfoldable pub reached : List Node → Root → ℕ → Bool
reached ns r = mark_down ns (length ns) (mark r (λ _. false))

-- the marks that a list of numbers holds: 1 for a marked node
abbrev pub marks_of : List ℕ → ℕ → Bool
marks_of list j = slice_index list j == 1

-- how many numbers below n pass the test
abbrev pub count_below : ℕ → (ℕ → Bool) → ℕ
count_below zero test = 0
count_below (suc n) test = count_below n test + cond (test n) 1 0

-- how many nodes a root reaches
abbrev pub reached_count : List Node → Root → ℕ
reached_count ns r = count_below (length ns) (reached ns r)

-- exactly what a held root reaches is marked
abbrev pub MarksReached : Ring → Type 0
MarksReached R =
    (types : List Decomposition) (ns : List Node) → Reduced R types ns → (r : Root) → Held R (length ns) r
    → (k : ℕ) → (reached ns r k ≡ true) ↔ Reaches ns r k

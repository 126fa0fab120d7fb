-- What a store holds, and what adding a node does.
use Rattle.std.specs.Prelude.{◌≡◌, ℕ, ◌<◌, ◌≤◌, min, List, [], ◌∷◌, ◌++◌, length, Some, None, Ok, Err, Option, Result, ◌≢◌}
use Rattle.std.specs.List.{slice_get}
use Rattle.model.specs.Refusals.{fault}
use Rattle.model.specs.declared.fault.Fault.{Fault}
use Rattle.model.specs.declared.fault.Refusal.TheVariants.{StoreFull}
use Rattle.model.specs.declared.node.Node.{Node}

-- the capacity of a store with memory for so many nodes
abbrev pub capacity_for : ℕ → ℕ
capacity_for lent = min lent 1048576

-- a change of the nodes leaves the memory that was lent, and so the capacity
pub record KeepsMemory {S : Type 0} (capacity_of name_of : S → ℕ) (before after : S) : Type 0 where
  pub capacity : capacity_of after ≡ capacity_of before
  pub lent : name_of after ≡ name_of before

-- a node has one place
abbrev pub Distinct : List Node → Type 0
Distinct nodes = (i j : ℕ) (n : Node) → slice_get nodes i ≡ Some n → slice_get nodes j ≡ Some n → i ≡ j

-- what a store of this capacity may hold
pub record Stored (capacity : ℕ) (nodes : List Node) : Type 0 where
  pub distinct : Distinct nodes
  pub within : length nodes ≤ capacity
  pub limited : capacity ≤ 1048576

abbrev pub Absent : List Node → Node → Type 0
Absent nodes n = (i : ℕ) → slice_get nodes i ≢ Some n

-- what a search for a node answers
abbrev pub Finds : List Node → Node → Option ℕ → Type 0
Finds nodes n None = Absent nodes n
Finds nodes n (Some place) = slice_get nodes place ≡ Some n

-- what find_or_add answers, and which nodes are held then
pub data FindsOrAdds (capacity : ℕ) (nodes : List Node) (n : Node) : Result ℕ Fault → List Node → Type 0 where
  found : (place : ℕ) → slice_get nodes place ≡ Some n → FindsOrAdds capacity nodes n (Ok place) nodes
  appended : Absent nodes n → length nodes < capacity → FindsOrAdds capacity nodes n (Ok (length nodes)) (nodes ++ (n ∷ []))
  refused : Absent nodes n → length nodes ≡ capacity → FindsOrAdds capacity nodes n (Err (fault StoreFull 0)) nodes

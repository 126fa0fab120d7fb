-- What holds over whole runs of a store.
use Rattle.std.specs.Prelude.{◌≡◌, ℕ, List, [], ◌∷◌, length, take, Result}
use Rattle.std.specs.List.{slice_get}
use Rattle.model.specs.declared.fault.Fault.{Fault}
use Rattle.model.specs.declared.node.Node.{Node}
use Rattle.storage.specs.Stores.{FindsOrAdds}
use Rattle.storage.specs.declared.calls.StoreAnswer.{StoreAnswer}
use Rattle.storage.specs.declared.calls.StoreAnswer.TheVariants.{Done, Placed, Number, Held}
use Rattle.storage.specs.declared.calls.StoreCall.{StoreCall}
use Rattle.storage.specs.declared.calls.StoreCall.TheVariants.{Clear, FindOrAdd, Cut, Capacity, Len, NodeAt}

-- what a call answered, and the nodes that were held then
pub record Step : Type 0 where
  pub answer : StoreAnswer
  pub nodes : List Node

module _ (capacity : ℕ) where
  -- what a call may answer on a store that holds these nodes, and which nodes it holds then
  pub data Does (nodes : List Node) : StoreCall → StoreAnswer → List Node → Type 0 where
    clears : Does nodes Clear Done []
    seeks : {n : Node} {r : Result ℕ Fault} {after : List Node} → FindsOrAdds capacity nodes n r after → Does nodes (FindOrAdd n) (Placed r) after
    cuts : (count : ℕ) → Does nodes (Cut count) Done (take count nodes)
    tells_capacity : Does nodes Capacity (Number capacity) nodes
    tells_len : Does nodes Len (Number (length nodes)) nodes
    reads : (place : ℕ) → Does nodes (NodeAt place) (Held (slice_get nodes place)) nodes

  -- the calls, first to last, on a store that holds these nodes
  pub data Runs : List Node → List StoreCall → List Step → Type 0 where
    ends : {nodes : List Node} → Runs nodes [] []
    then : {nodes after : List Node} {call : StoreCall} {answer : StoreAnswer} {calls : List StoreCall} {steps : List Step} → Does nodes call answer after → Runs after calls steps → Runs nodes (call ∷ calls) (record { answer = answer; nodes = after } ∷ steps)

  -- two stores of this capacity, both empty at first, answer every list of calls alike and hold the same nodes after each
  abbrev pub Alike : Type 0
  Alike = (calls : List StoreCall) (a b : List Step) → Runs [] calls a → Runs [] calls b → a ≡ b

-- What is asked of a question of the recipe: that it keeps and means, and that it repeats.
use Rattle.std.specs.Prelude.{◌≡◌, ℕ, ◌<◌, ◌≤◌, Bool, ◌↔◌, List, length}
use Rattle.model.specs.Rings.{Ring}
use Rattle.model.specs.declared.root.Root.{Root}
use Rattle.model.specs.declared.decomposition.Decomposition.{Decomposition}
use Rattle.model.specs.declared.node.Node.{Node}
use Rattle.kfdd.specs.Values.{value}
use Rattle.kfdd.specs.Reduced.{level, Held, Reduced}
use Rattle.kfdd.specs.Appending.{Extends}
use Rattle.kfdd.specs.Joining.{Outcome, full, done}

-- from ns nodes were only appended, the list is reduced, and it holds r, which has no fact before l and is worth w
pub record Kept (R : Ring) (types : List Decomposition) (ns : List Node) (l : ℕ) (w : (ℕ → Bool) → ℕ) (after : List Node) (r : Root) : Type 0 where
  pub appended : Extends ns after
  pub reduced : Reduced R types after
  pub held : Held R (length after) r
  pub later : l ≤ level types after r
  pub worth : (x : ℕ → Bool) → value R types x after r ≡ w x

-- asked about ns, with any capacity, the question is done with a list and a root that are kept so, or it is full;
-- and there is a capacity with which it is done
pub record KeepsAndMeans (R : Ring) (types : List Decomposition) (ns : List Node) (l : ℕ) (w : (ℕ → Bool) → ℕ) (ask : ℕ → Outcome) : Type 0 where
  pub keeps : (capacity : ℕ) (after : List Node) (r : Root) → ask capacity ≡ done after r → Kept R types ns l w after r
  pub enough : ℕ
  pub ends : (after : List Node) × (r : Root) × (ask enough ≡ done after r)

-- asked about ns, by capacity and list of nodes:
pub record Repeats (ask : ℕ → List Node → Outcome) (ns : List Node) : Type 0 where
  -- asked again on the list that it left, it adds nothing and answers the same
  pub repeats : (c c' : ℕ) (after : List Node) (r : Root) → ask c ns ≡ done after r → ask c' after ≡ done after r
  -- what it answers while adding nothing, it answers, adding nothing, on every list that begins with ns
  pub grows : (c c' : ℕ) (r : Root) → ask c ns ≡ done ns r → (ms : List Node) → Extends ns ms → ask c' ms ≡ done ms r
  -- two capacities that both suffice make no difference
  pub alike : (c c' : ℕ) (after after' : List Node) (r r' : Root) → ask c ns ≡ done after r → ask c' ns ≡ done after' r' → (after ≡ after') × (r ≡ r')
  -- it is full exactly if the nodes that it would add do not fit
  pub full_exactly : (c c' : ℕ) (after : List Node) (r : Root) → ask c ns ≡ done after r → length ns ≤ c' → (ask c' ns ≡ full) ↔ (c' < length after)

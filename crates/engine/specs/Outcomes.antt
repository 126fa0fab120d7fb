-- What a question answers in a store of some capacity, and which nodes are held then.
use Rattle.std.specs.Prelude.{◌≡◌, ℕ, List, length, Ok, Err, Result}
use Rattle.model.specs.Refusals.{fault}
use Rattle.model.specs.Rings.{Ring}
use Rattle.model.specs.declared.decomposition.Decomposition.{Decomposition}
use Rattle.model.specs.declared.fault.Fault.{Fault}
use Rattle.model.specs.declared.fault.Refusal.TheVariants.{StoreFull}
use Rattle.model.specs.declared.node.Node.{Node}
use Rattle.model.specs.declared.root.Root.{Root}
use Rattle.kfdd.specs.Appending.{Extends}
use Rattle.kfdd.specs.Joining.{Outcome, full, done, join}

-- What is asked comes to an outcome for each capacity. With this one it is done, and then its answer is told and its nodes are held.
-- Or it is full; then as many nodes are held as there is room for, the first of those that it leads to with enough room.
pub data Comes (ask : ℕ → Outcome) (capacity : ℕ) (before : List Node) : Result Root Fault → List Node → Type 0 where
  answers : {r : Root} {after : List Node} → ask capacity ≡ done after r → Comes ask capacity before (Ok r) after
  fills : {after : List Node} → ask capacity ≡ full → Extends before after → length after ≡ capacity
      → (enough : ℕ) (all : List Node) (r : Root) → ask enough ≡ done all r → Extends after all → Comes ask capacity before (Err (fault StoreFull 0)) after

-- what joining a fact, a low and a high answers
pub data Joins (R : Ring) (types : List Decomposition) (capacity : ℕ) (ns : List Node) (f : ℕ) (low high : Root) : Result Root Fault → List Node → Type 0 where
  joined : {r : Root} {after : List Node} → join R types capacity ns f low high ≡ done after r → Joins R types capacity ns f low high (Ok r) after
  overfull : join R types capacity ns f low high ≡ full → length ns ≡ capacity → Joins R types capacity ns f low high (Err (fault StoreFull 0)) ns

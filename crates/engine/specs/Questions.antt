-- What the recipe makes of a question.
use Rattle.std.specs.Prelude.{ℕ, ◌≤◌, List, map, length, Option}
use Rattle.model.specs.Orders.{facts_of}
use Rattle.model.specs.Rings.{Ring}
use Rattle.model.specs.declared.decomposition.Decomposition.{Decomposition}
use Rattle.model.specs.declared.node.Node.{Node}
use Rattle.model.specs.declared.order.Order.{Order}
use Rattle.model.specs.declared.root.Root.{Root}
use Rattle.storage.specs.declared.question.Question.{Question}
use Rattle.storage.specs.declared.question.Question.TheVariants.{Sum, Minus, Times}
use Rattle.kfdd.specs.Joining.{Outcome}
use Rattle.kfdd.specs.Recipe.{sum_at_once, minus_at_once, product_at_once, sum_of, minus_of, times_of}
use Rattle.kfdd.specs.Reduced.{level, Held}
use Rattle.kfdd.specs.Splitting.{topmost}

-- the types of the facts, topmost first
abbrev pub types_of : Order → List Decomposition
types_of order = map (λ f. f.decomposition) (facts_of order)

-- the answer to a question that needs no split
abbrev pub shortcut : Ring → Question → Option Root
shortcut R (Sum a b) = sum_at_once R a b
shortcut R (Minus a) = minus_at_once R a
shortcut R (Times a b) = product_at_once R a b

-- the list holds the roots of a question
abbrev pub RootsHeld : Ring → List Node → Question → Type 0
RootsHeld R ns (Sum a b) = Held R (length ns) a × Held R (length ns) b
RootsHeld R ns (Minus a) = Held R (length ns) a
RootsHeld R ns (Times a b) = Held R (length ns) a × Held R (length ns) b

-- r is held and has no fact before l
pub record From (R : Ring) (types : List Decomposition) (ns : List Node) (l : ℕ) (r : Root) : Type 0 where
  pub held : Held R (length ns) r
  pub later : l ≤ level types ns r

module _ (R : Ring) (types : List Decomposition) where
  -- what the recipe comes to, with room for so many nodes
  abbrev pub outcome : ℕ → List Node → Question → Outcome
  outcome capacity ns (Sum a b) = sum_of R types capacity ns a b
  outcome capacity ns (Minus a) = minus_of R types capacity ns a
  outcome capacity ns (Times a b) = times_of R types capacity ns a b

  -- the topmost fact of the roots
  abbrev pub top_of : List Node → Question → ℕ
  top_of ns (Sum a b) = topmost types ns a b
  top_of ns (Minus a) = level types ns a
  top_of ns (Times a b) = topmost types ns a b

  -- the roots are held and have no fact before l
  abbrev pub RootsFrom : List Node → ℕ → Question → Type 0
  RootsFrom ns l (Sum a b) = From R types ns l a × From R types ns l b
  RootsFrom ns l (Minus a) = From R types ns l a
  RootsFrom ns l (Times a b) = From R types ns l a × From R types ns l b

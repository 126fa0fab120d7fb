-- Small examples of counting and comparing, with the type S for a and P for b.
use Rattle.std.specs.Prelude.{◌≡◌, List, [], ◌∷◌}
use Rattle.model.specs.Rings.{Ring}
use Rattle.model.specs.declared.root.Root.TheVariants.{Leaf, Inner}
use Rattle.model.specs.declared.decomposition.Decomposition.{Decomposition}
use Rattle.model.specs.declared.decomposition.Decomposition.TheVariants.{Shannon, PositiveDavio}
use Rattle.model.specs.declared.node.Node.{Node}
use Rattle.arithmetic.specs.YesNo.{yes_no}
use Rattle.kfdd.specs.Assignments.{worth}
use Rattle.kfdd.specs.FirstDifference.{First, walk}
use Rattle.kfdd.specs.Reaching.{reached_count}

abbrev pub a_then_b : List Decomposition
a_then_b = Shannon ∷ PositiveDavio ∷ []

-- a, b, and then a × b at place 2
abbrev pub product_nodes : List Node
product_nodes =
    record { fact = 0; low = Leaf 0; high = Leaf 1 }
    ∷ record { fact = 1; low = Leaf 0; high = Leaf 1 }
    ∷ record { fact = 0; low = Leaf 0; high = Inner 1 } ∷ []

-- and then a + b at place 4
abbrev pub product_and_sum_nodes : List Node
product_and_sum_nodes =
    record { fact = 0; low = Leaf 0; high = Leaf 1 }
    ∷ record { fact = 1; low = Leaf 0; high = Leaf 1 }
    ∷ record { fact = 0; low = Leaf 0; high = Inner 1 }
    ∷ record { fact = 1; low = Leaf 1; high = Leaf 1 }
    ∷ record { fact = 0; low = Inner 1; high = Inner 3 } ∷ []

pub record ComparedExamples : Type 0 where
  -- a × b reaches two nodes
  pub product_count : reached_count product_nodes (Inner 2) ≡ 2
  -- a × b and a + b first differ where a fails and b holds
  pub product_and_sum : First a_then_b (worth yes_no a_then_b product_and_sum_nodes (Inner 2)) (worth yes_no a_then_b product_and_sum_nodes (Inner 4)) 2
  pub product_and_sum_walk : walk yes_no a_then_b product_and_sum_nodes (Inner 2) (Inner 4) ≡ 2
  -- with no facts the constants 0 and 1 differ under the only assignment
  pub constants : (R : Ring) → First [] (worth R [] [] (Leaf 0)) (worth R [] [] (Leaf 1)) 0

-- What is left of a question once its roots are split at a fact, all of it asked with one count.
use Rattle.std.specs.Prelude.{ℕ, List, slice_index_or}
use Rattle.model.specs.Rings.{Ring}
use Rattle.model.specs.declared.root.Root.{Root}
use Rattle.model.specs.declared.decomposition.Decomposition.{Decomposition}
use Rattle.model.specs.declared.decomposition.Decomposition.TheVariants.{Shannon}
use Rattle.model.specs.declared.node.Node.{Node}
use Rattle.kfdd.specs.Joining.{Outcome}
use Rattle.kfdd.specs.Recipe.{low_high_join, high_of_product, sum, minus, times}

module _ (R : Ring) (types : List Decomposition) (capacity count : ℕ) (ns : List Node) (f : ℕ) where
  abbrev pub sum_split : Root × Root → Root × Root → Outcome
  sum_split p q = low_high_join R types capacity f (sum R types capacity count ns p.0 q.0) (λ ns₁. sum R types capacity count ns₁ p.1 q.1)

  abbrev pub minus_split : Root × Root → Outcome
  minus_split p = low_high_join R types capacity f (minus R types capacity count ns p.0) (λ ns₁. minus R types capacity count ns₁ p.1)

  abbrev pub times_split : Root × Root → Root × Root → Outcome
  times_split p q =
      low_high_join R types capacity f (times R types capacity count ns p.0 q.0)
      (high_of_product (slice_index_or types f Shannon) (times R types capacity count) (sum R types capacity count) p q)

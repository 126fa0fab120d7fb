-- Two theorems about the recipe: it keeps lists reduced and means the operations, and it repeats.
use Rattle.std.specs.Prelude.{ℕ, ◌<◌, List, length, Ok, slice_index_or}
use Rattle.model.specs.Nets.{fact_value}
use Rattle.model.specs.Rings.{Ring}
use Rattle.model.specs.declared.gate.Gate.{Gate}
use Rattle.model.specs.declared.output.Output.{Output}
use Rattle.model.specs.declared.root.Root.{Root}
use Rattle.model.specs.declared.decomposition.Decomposition.{Decomposition}
use Rattle.model.specs.declared.decomposition.Decomposition.TheVariants.{Shannon}
use Rattle.model.specs.declared.node.Node.{Node}
use Rattle.arithmetic.specs.NetChecks.{NetVerdict}
use Rattle.kfdd.specs.Values.{mix, value}
use Rattle.kfdd.specs.Reduced.{level, Held, Reduced}
use Rattle.kfdd.specs.Splitting.{topmost}
use Rattle.kfdd.specs.Joining.{join, fact_root}
use Rattle.kfdd.specs.NetRecipe.{build_net}
use Rattle.kfdd.specs.Outcomes.{KeepsAndMeans, Repeats}
use Rattle.kfdd.specs.NetOutcomes.{NetMeans, NetRepeats}
use Rattle.kfdd.specs.Recipe.{sum_of, minus_of, times_of}

-- a low and a high that the list holds, both of facts after f, which is one of the order
pub record Joinable (R : Ring) (types : List Decomposition) (ns : List Node) (f : ℕ) (low high : Root) : Type 0 where
  pub known : f < length types
  pub low_held : Held R (length ns) low
  pub high_held : Held R (length ns) high
  pub low_later : f < level types ns low
  pub high_later : f < level types ns high

module _ (R : Ring) (types : List Decomposition) (ns : List Node) where
  -- what is asked of roots that the list holds means the operation on what they are worth
  pub record MeansOperations : Type 0 where
    pub sums : (a b : Root) → Held R (length ns) a → Held R (length ns) b
        → KeepsAndMeans R types ns (topmost types ns a b) (λ x. R.sum (value R types x ns a) (value R types x ns b)) (λ c. sum_of R types c ns a b)
    pub minuses : (a : Root) → Held R (length ns) a → KeepsAndMeans R types ns (level types ns a) (λ x. R.minus (value R types x ns a)) (λ c. minus_of R types c ns a)
    pub products : (a b : Root) → Held R (length ns) a → Held R (length ns) b
        → KeepsAndMeans R types ns (topmost types ns a b) (λ x. R.product (value R types x ns a) (value R types x ns b)) (λ c. times_of R types c ns a b)
    pub joins : (f : ℕ) (low high : Root) → Joinable R types ns f low high
        → KeepsAndMeans R types ns f (λ x. mix R (slice_index_or types f Shannon) (x f) (value R types x ns low) (value R types x ns high)) (λ c. join R types c ns f low high)
    pub facts : (f : ℕ) → f < length types → KeepsAndMeans R types ns f (λ x. fact_value R (x f)) (λ c. fact_root R types c ns f)
    pub nets : (gates : List Gate) (outputs : List Output) → NetVerdict R (length types) gates outputs (Ok tt) → NetMeans R types ns gates outputs (λ c. build_net R types c ns gates outputs)

  -- and it repeats
  pub record RepeatsOperations : Type 0 where
    pub sums : (a b : Root) → Held R (length ns) a → Held R (length ns) b → Repeats (λ c ms. sum_of R types c ms a b) ns
    pub minuses : (a : Root) → Held R (length ns) a → Repeats (λ c ms. minus_of R types c ms a) ns
    pub products : (a b : Root) → Held R (length ns) a → Held R (length ns) b → Repeats (λ c ms. times_of R types c ms a b) ns
    pub joins : (f : ℕ) (low high : Root) → Joinable R types ns f low high → Repeats (λ c ms. join R types c ms f low high) ns
    pub facts : (f : ℕ) → f < length types → Repeats (λ c ms. fact_root R types c ms f) ns
    pub nets : (gates : List Gate) (outputs : List Output) → NetVerdict R (length types) gates outputs (Ok tt) → NetRepeats (λ c ms. build_net R types c ms gates outputs) ns

-- on every reduced list
abbrev pub RecipeMeans : Ring → Type 0
RecipeMeans R = (types : List Decomposition) (ns : List Node) → Reduced R types ns → MeansOperations R types ns

abbrev pub RecipeRepeats : Ring → Type 0
RecipeRepeats R = (types : List Decomposition) (ns : List Node) → Reduced R types ns → RepeatsOperations R types ns

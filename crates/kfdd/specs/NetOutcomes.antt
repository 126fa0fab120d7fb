-- What is asked of building a net: that it keeps and means, and that it repeats.
use Rattle.std.specs.Prelude.{◌≡◌, ℕ, ◌<◌, ◌≤◌, Bool, ◌↔◌, List, map, length, slice_index, slice_index_or}
use Rattle.model.specs.Nets.{gate_values, output_value}
use Rattle.model.specs.Refusals.{fault}
use Rattle.model.specs.Rings.{Ring}
use Rattle.model.specs.declared.fault.Fault.{Fault}
use Rattle.model.specs.declared.fault.Refusal.TheVariants.{StoreFull}
use Rattle.model.specs.declared.gate.Gate.{Gate}
use Rattle.model.specs.declared.output.Output.{Output}
use Rattle.model.specs.declared.root.Root.{Root}
use Rattle.model.specs.declared.root.Root.TheVariants.{Inner}
use Rattle.model.specs.declared.decomposition.Decomposition.{Decomposition}
use Rattle.model.specs.declared.node.Node.{Node}
use Rattle.kfdd.specs.Values.{value}
use Rattle.kfdd.specs.Reduced.{Held, Reduced}
use Rattle.kfdd.specs.Appending.{Extends}
use Rattle.kfdd.specs.NetRecipe.{NetOutcome, refused, built}

-- the roots are held, and worth the values in their order
pub record Worths (R : Ring) (types : List Decomposition) (ns : List Node) (roots : List Root) (vs : (ℕ → Bool) → List ℕ) : Type 0 where
  pub count : (x : ℕ → Bool) → length (vs x) ≡ length roots
  pub held : (k : ℕ) → k < length roots → Held R (length ns) (slice_index_or roots k (Inner 0))
  pub worth : (k : ℕ) → k < length roots → (x : ℕ → Bool) → value R types x ns (slice_index_or roots k (Inner 0)) ≡ slice_index (vs x) k

-- from ns nodes were only appended, the list is reduced, and it holds the gates' and the outputs' roots, worth what the net is worth
pub record NetKept (R : Ring) (types : List Decomposition) (ns : List Node) (gates : List Gate) (outputs : List Output) (after : List Node) (roots outs : List Root) : Type 0 where
  pub appended : Extends ns after
  pub reduced : Reduced R types after
  pub gates_worth : Worths R types after roots (λ x. gate_values R (length types) x gates)
  pub outputs_worth : Worths R types after outs (λ x. map (output_value R (length types) x gates) outputs)

-- the one refusal: there was no room at a gate, or, for an output's fact, past the gates; and the nodes are as they were
pub record NetRefused (ns : List Node) (gates : List Gate) (f : Fault) (before : List Node) : Type 0 where
  pub place : ℕ
  pub place_within : place ≤ length gates
  pub is_full : f ≡ fault StoreFull place
  pub unchanged : before ≡ ns

-- with any capacity the net is built and kept so, or refused; and there is a capacity with which it is built
pub record NetMeans (R : Ring) (types : List Decomposition) (ns : List Node) (gates : List Gate) (outputs : List Output) (ask : ℕ → NetOutcome) : Type 0 where
  pub keeps : (c : ℕ) (after : List Node) (roots outs : List Root) → ask c ≡ built after roots outs → NetKept R types ns gates outputs after roots outs
  pub refuses : (c : ℕ) (f : Fault) (before : List Node) → ask c ≡ refused f before → NetRefused ns gates f before
  pub enough : ℕ
  pub ends : (after : List Node) × (roots : List Root) × (outs : List Root) × (ask enough ≡ built after roots outs)

-- as a question of the recipe repeats, so does a whole net
pub record NetRepeats (ask : ℕ → List Node → NetOutcome) (ns : List Node) : Type 0 where
  pub repeats : (c c' : ℕ) (after : List Node) (roots outs : List Root) → ask c ns ≡ built after roots outs → ask c' after ≡ built after roots outs
  pub grows : (c c' : ℕ) (roots outs : List Root) → ask c ns ≡ built ns roots outs → (ms : List Node) → Extends ns ms → ask c' ms ≡ built ms roots outs
  pub alike : (c c' : ℕ) (after after' : List Node) (roots roots' outs outs' : List Root) → ask c ns ≡ built after roots outs → ask c' ns ≡ built after' roots' outs'
      → (after ≡ after') × (roots ≡ roots') × (outs ≡ outs')
  pub full_exactly : (c c' : ℕ) (after : List Node) (roots outs : List Root) → ask c ns ≡ built after roots outs → length ns ≤ c'
      → ((f : Fault) × (ask c' ns ≡ refused f ns)) ↔ (c' < length after)

-- Small examples of everything: facts, sums, nets, capacities, counting and comparing.
use Rattle.std.specs.Prelude.{◌≡◌, ℕ, [], ◌∷◌}
use Rattle.model.specs.Gates.{two_arguments}
use Rattle.model.specs.Refusals.{fault, number_of, layer_of}
use Rattle.model.specs.Rings.{Ring}
use Rattle.model.specs.declared.fault.Refusal.TheVariants.{StoreFull}
use Rattle.model.specs.declared.gate.GateKind.TheVariants.{Sum, Times}
use Rattle.model.specs.declared.output.Output.{Output}
use Rattle.model.specs.declared.root.Root.TheVariants.{Leaf, Inner}
use Rattle.model.specs.declared.decomposition.Decomposition.{Decomposition}
use Rattle.model.specs.declared.decomposition.Decomposition.TheVariants.{Shannon, NegativeDavio}
use Rattle.model.specs.declared.node.Node.{Node}
use Rattle.arithmetic.specs.Amounts.{amounts}
use Rattle.arithmetic.specs.YesNo.{yes_no}
use Rattle.kfdd.specs.Joining.{Outcome, done, then, fact_root}
use Rattle.kfdd.specs.NetRecipe.{NetOutcome, refused, built, build_net}
use Rattle.kfdd.specs.ComparedExamples.{a_then_b, product_nodes, product_and_sum_nodes, ComparedExamples}
use Rattle.kfdd.specs.Recipe.{sum_of}

-- (f: l, h), a node with two leaves
abbrev pub leaves : ℕ → ℕ → ℕ → Node
leaves f l h = record { fact = f; low = Leaf l; high = Leaf h }

-- one fact of this type, joined; and then summed with itself
abbrev pub the_fact : Ring → Decomposition → Outcome
the_fact R t = fact_root R (t ∷ []) 2 [] 0

abbrev pub twice : Ring → Decomposition → Outcome
twice R t = then (the_fact R t) (λ ns a. sum_of R (t ∷ []) 2 ns a a)

-- the net of one gate, a × b, which is its output; and with a second gate, a + b
abbrev pub product_net : ℕ → Output → NetOutcome
product_net capacity output = build_net yes_no a_then_b capacity [] (two_arguments Times 0 1 ∷ []) (record { name = output.name; signal = 2 } ∷ [])

abbrev pub product_and_sum_net : Output → NetOutcome
product_and_sum_net output =
    build_net yes_no a_then_b 5 [] (two_arguments Times 0 1 ∷ two_arguments Sum 0 1 ∷ [])
    (record { name = output.name; signal = 2 } ∷ record { name = output.name; signal = 3 } ∷ [])

pub record Examples : Type 0 where
  -- a fact by itself
  pub s_yes_no : the_fact yes_no Shannon ≡ done (leaves 0 0 1 ∷ []) (Inner 0)
  pub s_amounts : the_fact amounts Shannon ≡ done (leaves 0 0 1 ∷ []) (Inner 0)
  pub n_yes_no : the_fact yes_no NegativeDavio ≡ done (leaves 0 1 1 ∷ []) (Inner 0)
  pub n_amounts : the_fact amounts NegativeDavio ≡ done (leaves 0 1 4294967295 ∷ []) (Inner 0)
  -- a + a
  pub s_twice_yes_no : twice yes_no Shannon ≡ done (leaves 0 0 1 ∷ []) (Leaf 0)
  pub n_twice_yes_no : twice yes_no NegativeDavio ≡ done (leaves 0 1 1 ∷ []) (Leaf 0)
  pub s_twice_amounts : twice amounts Shannon ≡ done (leaves 0 0 1 ∷ leaves 0 0 2 ∷ []) (Inner 1)
  pub n_twice_amounts : twice amounts NegativeDavio ≡ done (leaves 0 1 4294967295 ∷ leaves 0 2 4294967294 ∷ []) (Inner 1)
  -- a × b, in a list of three nodes; with room for two it is refused, and nothing is held
  pub product : (o : Output) → product_net 3 o ≡ built product_nodes (Inner 2 ∷ []) (Inner 2 ∷ [])
  pub no_room : (o : Output) → product_net 2 o ≡ refused (fault StoreFull 0) []
  pub told_as : (number_of StoreFull ≡ 16) × (layer_of StoreFull ≡ 3)
  -- a × b and then a + b
  pub product_and_sum : (o : Output) → product_and_sum_net o ≡ built product_and_sum_nodes (Inner 2 ∷ Inner 4 ∷ []) (Inner 2 ∷ Inner 4 ∷ [])
  -- how many nodes a × b reaches, and where the two differ first
  pub compared : ComparedExamples

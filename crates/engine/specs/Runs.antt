-- What holds over whole runs of an engine.
use Rattle.std.specs.Prelude.{◌≡◌, ℕ, ◌<◌, List, [], ◌∷◌, length, take, Result}
use Rattle.model.specs.Rings.{Ring}
use Rattle.model.specs.declared.decomposition.Decomposition.{Decomposition}
use Rattle.model.specs.declared.fault.Fault.{Fault}
use Rattle.model.specs.declared.node.Node.{Node}
use Rattle.model.specs.declared.root.Root.{Root}
use Rattle.storage.specs.declared.question.Question.{Question}
use Rattle.kfdd.specs.Joining.{fact_root}
use Rattle.kfdd.specs.Reduced.{Reduced}
use Rattle.engine.specs.Outcomes.{Comes}
use Rattle.engine.specs.Questions.{outcome, RootsHeld}

-- what an engine is asked: a question about roots, the root of a fact, or to keep the first nodes only
pub data Call : Type 0 where
  question : Question → Call
  fact : ℕ → Call
  cut : ℕ → Call

-- what it answered, if it was asked for a root, and the nodes that were held then
pub data Step : Type 0 where
  answered : Result Root Fault → List Node → Step
  cut_to : List Node → Step

abbrev pub nodes_after : Step → List Node
nodes_after (answered r ns) = ns
nodes_after (cut_to ns) = ns

module _ (R : Ring) (types : List Decomposition) (capacity : ℕ) where
  -- what a call may answer where these nodes are held, and which nodes are held then
  pub data Does (ns : List Node) : Call → Step → Type 0 where
    asks : {q : Question} {r : Result Root Fault} {after : List Node} → RootsHeld R ns q → Comes (λ c. outcome R types c ns q) capacity ns r after → Does ns (question q) (answered r after)
    joins : {f : ℕ} {r : Result Root Fault} {after : List Node} → f < length types → Comes (λ c. fact_root R types c ns f) capacity ns r after → Does ns (fact f) (answered r after)
    cuts : (count : ℕ) → Does ns (cut count) (cut_to (take count ns))

  -- the calls, first to last
  pub data Runs : List Node → List Call → List Step → Type 0 where
    ends : {ns : List Node} → Runs ns [] []
    then : {ns : List Node} {call : Call} {step : Step} {calls : List Call} {steps : List Step} → Does ns call step → Runs (nodes_after step) calls steps → Runs ns (call ∷ calls) (step ∷ steps)

  -- two engines that hold the same nodes, whatever their memos, answer every list of calls alike and hold the same nodes after each
  abbrev pub Alike : Type 0
  Alike = (ns : List Node) → Reduced R types ns → (calls : List Call) (a b : List Step) → Runs ns calls a → Runs ns calls b → a ≡ b

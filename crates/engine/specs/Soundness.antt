-- What is true of whatever an engine's memo holds.
use Rattle.std.specs.Prelude.{◌≡◌, ℕ, List}
use Rattle.model.specs.Rings.{Ring}
use Rattle.model.specs.declared.decomposition.Decomposition.{Decomposition}
use Rattle.model.specs.declared.node.Node.{Node}
use Rattle.storage.specs.Memos.{Member}
use Rattle.storage.specs.declared.question.Answered.{Answered}
use Rattle.kfdd.specs.Joining.{done}
use Rattle.engine.specs.Questions.{outcome, RootsHeld}

-- a question about roots that are held, which the recipe answers like this and adds nothing
pub record Remembered (R : Ring) (types : List Decomposition) (ns : List Node) (e : Answered) : Type 0 where
  pub held : RootsHeld R ns e.question
  pub repeats : (capacity : ℕ) → outcome R types capacity ns e.question ≡ done ns e.answer

abbrev pub Remembers : Ring → List Decomposition → List Node → List Answered → Type 0
Remembers R types ns es = (e : Answered) → Member e es → Remembered R types ns e

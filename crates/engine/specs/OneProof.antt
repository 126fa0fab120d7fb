-- What an engine keeps has at most one proof, as a fact of a type must.
use Rattle.std.specs.Prelude.{ℕ, List}
use denote.Struct.Props.{props}
use Rattle.model.specs.Rings.{Ring}
use Rattle.model.specs.declared.decomposition.Decomposition.{Decomposition}
use Rattle.model.specs.declared.decomposition.Decomposition.TheVariants.{Shannon, PositiveDavio, NegativeDavio}
use Rattle.model.specs.declared.node.Node.{Node}
use Rattle.model.specs.declared.root.Root.{Root}
use Rattle.model.specs.declared.root.Root.TheVariants.{Inner, Leaf}
use Rattle.storage.specs.declared.question.Answered.{Answered}
use Rattle.storage.specs.declared.question.Question.{Question}
use Rattle.storage.specs.declared.question.Question.TheVariants.{Sum, Minus, Times}
use Rattle.kfdd.specs.Joining.{Outcome}
use Rattle.kfdd.specs.Reduced.{Held, Needed, Reduced}
use Rattle.engine.specs.Questions.{RootsHeld}
use Rattle.engine.specs.Soundness.{Remembers}

Root-set : IsSet Root
Root-set = hlevel props

Node-set : IsSet Node
Node-set = hlevel (props, Root-set)

Outcome-set : IsSet Outcome
Outcome-set = hlevel (props, Root-set, Node-set)

Held-prop : (R : Ring) (k : ℕ) (r : Root) → IsProp (Held R k r)
Held-prop R k (Leaf v) = hlevel props
Held-prop R k (Inner j) = hlevel props

Needed-prop : (R : Ring) (t : Decomposition) (low high : Root) → IsProp (Needed R t low high)
Needed-prop R Shannon low high = hlevel
Needed-prop R PositiveDavio low high = hlevel
Needed-prop R NegativeDavio low high = hlevel

RootsHeld-prop : (R : Ring) (ns : List Node) (q : Question) → IsProp (RootsHeld R ns q)
RootsHeld-prop R ns (Sum a b) = hlevel Held-prop
RootsHeld-prop R ns (Minus a) = hlevel Held-prop
RootsHeld-prop R ns (Times a b) = hlevel Held-prop

pub reduced_once : (R : Ring) (types : List Decomposition) (ns : List Node) → IsProp (Reduced R types ns)
reduced_once R types ns = hlevel (props, Held-prop, Needed-prop)

pub remembers_once : (R : Ring) (types : List Decomposition) (ns : List Node) (es : List Answered) → IsProp (Remembers R types ns es)
remembers_once R types ns es = hlevel (props, RootsHeld-prop, Outcome-set)

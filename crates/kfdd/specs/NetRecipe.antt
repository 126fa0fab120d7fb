-- The recipe of a whole net: gate by gate, then the facts that are named as outputs.
use Rattle.std.specs.Prelude.{ℕ, ◌-◌, cond, List, [], ◌∷◌, ◌++◌, length, Some, None, Option, nat_lt, slice_index_or}
use Rattle.model.specs.Nets.{kind_of}
use Rattle.model.specs.Refusals.{fault}
use Rattle.model.specs.Rings.{Ring}
use Rattle.model.specs.declared.fault.Fault.{Fault}
use Rattle.model.specs.declared.fault.Refusal.TheVariants.{StoreFull}
use Rattle.model.specs.declared.gate.Gate.{Gate}
use Rattle.model.specs.declared.gate.GateKind.{GateKind}
use Rattle.model.specs.declared.gate.GateKind.TheVariants.{Const, Sum, Times, Minus, Not, Or}
use Rattle.model.specs.declared.output.Output.{Output}
use Rattle.model.specs.declared.root.Root.{Root}
use Rattle.model.specs.declared.root.Root.TheVariants.{Leaf, Inner}
use Rattle.model.specs.declared.decomposition.Decomposition.{Decomposition}
use Rattle.model.specs.declared.node.Node.{Node}
use Rattle.kfdd.specs.Joining.{Outcome, full, done, then, fact_root}
use Rattle.kfdd.specs.Recipe.{sum_of, minus_of, times_of}

-- what working through gates or outputs comes to: the nodes and the roots so far, or the place at which there was no room
pub data Progress : Type 0 where
  stopped : ℕ → Progress
  reached : List Node → List Root → Progress

-- go on with the nodes and the answer; what is full stops at this place
abbrev pub go_on : Outcome → ℕ → (List Node → Root → Progress) → Progress
go_on full place next = stopped place
go_on (done ns r) place next = next ns r

-- what building a net comes to: the nodes, the gates' roots and the outputs' roots, or a fault and the nodes as they were before
pub data NetOutcome : Type 0 where
  refused : Fault → List Node → NetOutcome
  built : List Node → List Root → List Root → NetOutcome

module _ (R : Ring) (types : List Decomposition) (capacity : ℕ) where
  -- one and minus a
  abbrev pub not_of : List Node → Root → Outcome
  not_of ns a = then (minus_of R types capacity ns a) (λ ns₁ m. sum_of R types capacity ns₁ (Leaf R.one) m)

  -- a × b, its minus, a + b, and the sum of the last two
  abbrev pub or_of : List Node → Root → Root → Outcome
  or_of ns a b =
      then (times_of R types capacity ns a b) (λ ns₁ t. then (minus_of R types capacity ns₁ t) (λ ns₂ m. then (sum_of R types capacity ns₂ a b) (λ ns₃ s. sum_of R types capacity ns₃ s m)))

  -- the root of a signal, where the gates have these roots: a fact is joined, each time anew
  abbrev pub signal_root : List Root → List Node → ℕ → Outcome
  signal_root roots ns s = cond (nat_lt s (length types)) (fact_root R types capacity ns s) (done ns (slice_index_or roots (s - length types) (Inner 0)))

  -- the arguments that are facts are joined first, left to right
  abbrev pub with_one : List Root → List Node → Gate → (List Node → Root → Outcome) → Outcome
  with_one roots ns g operation = then (signal_root roots ns g.first) operation

  abbrev pub with_two : List Root → List Node → Gate → (List Node → Root → Root → Outcome) → Outcome
  with_two roots ns g operation = then (signal_root roots ns g.first) (λ ns₁ a. then (signal_root roots ns₁ g.second) (λ ns₂ b. operation ns₂ a b))

  -- the root of a gate of this kind, where the gates before it have these roots; a kind that there is not gives zero
  abbrev pub root_by_kind : Option GateKind → List Root → List Node → Gate → Outcome
  root_by_kind None roots ns g = done ns (Leaf R.zero)
  root_by_kind (Some Const) roots ns g = done ns (Leaf g.number)
  root_by_kind (Some Sum) roots ns g = with_two roots ns g (sum_of R types capacity)
  root_by_kind (Some Times) roots ns g = with_two roots ns g (times_of R types capacity)
  root_by_kind (Some Minus) roots ns g = with_one roots ns g (minus_of R types capacity)
  root_by_kind (Some Not) roots ns g = with_one roots ns g not_of
  root_by_kind (Some Or) roots ns g = with_two roots ns g or_of

  abbrev pub gate_root : List Root → List Node → Gate → Outcome
  gate_root roots ns g = root_by_kind (kind_of g.kind) roots ns g

  -- the gates in turn, where those before have these roots
  abbrev pub build_gates : List Root → List Node → List Gate → Progress
  build_gates roots ns [] = reached ns roots
  build_gates roots ns (g ∷ gs) = go_on (gate_root roots ns g) (length roots) (λ ns₁ r. build_gates (roots ++ (r ∷ [])) ns₁ gs)

  -- the outputs in turn, where those before have the roots outs and the gates have theirs
  abbrev pub build_outputs : List Root → List Root → List Node → List Output → Progress
  build_outputs roots outs ns [] = reached ns outs
  build_outputs roots outs ns (o ∷ os) = go_on (signal_root roots ns o.signal) (length roots) (λ ns₁ r. build_outputs roots (outs ++ (r ∷ [])) ns₁ os)

  abbrev pub after_outputs : List Node → List Root → Progress → NetOutcome
  after_outputs before roots (stopped place) = refused (fault StoreFull place) before
  after_outputs before roots (reached ns outs) = built ns roots outs

  abbrev pub after_gates : List Node → List Output → Progress → NetOutcome
  after_gates before outputs (stopped place) = refused (fault StoreFull place) before
  after_gates before outputs (reached ns roots) = after_outputs before roots (build_outputs roots [] ns outputs)

  unfoldable pub build_net : List Node → List Gate → List Output → NetOutcome
  build_net ns gates outputs = after_gates ns outputs (build_gates [] ns gates)

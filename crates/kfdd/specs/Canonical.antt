-- The theorem that makes "same root" mean "same rule".
use Rattle.std.specs.Prelude.{◌≡◌, ℕ, ◌^◌, ◌<◌, ◌↔◌, List, length}
use Rattle.model.specs.Rings.{Ring}
use Rattle.model.specs.declared.root.Root.{Root}
use Rattle.model.specs.declared.decomposition.Decomposition.{Decomposition}
use Rattle.model.specs.declared.node.Node.{Node}
use Rattle.kfdd.specs.Assignments.{worth}
use Rattle.kfdd.specs.Reduced.{Held, Reduced}

-- in a reduced list two held roots are equal exactly if they have equal values under every assignment to the facts
abbrev pub Canonical : Ring → Type 0
Canonical R = (types : List Decomposition) (ns : List Node) → Reduced R types ns → (a b : Root) → Held R (length ns) a → Held R (length ns) b
    → (a ≡ b) ↔ ((x : ℕ) → x < 2 ^ length types → worth R types ns a x ≡ worth R types ns b x)

-- Lists of nodes that only grew.
use Rattle.std.specs.Prelude.{◌≡◌, List, ◌++◌}
use Rattle.model.specs.declared.node.Node.{Node}

-- after is before, with more nodes appended or none
abbrev pub Extends : List Node → List Node → Type 0
Extends before after = (more : List Node) × (after ≡ before ++ more)

-- The bytes that a name is written with: none for the empty name.
use Rattle.std.specs.Prelude.{ℕ, List, take}
use Rattle.model.specs.declared.name.Name.{Name}

abbrev pub spelling : Name → List ℕ
spelling n = take n.len n.bytes

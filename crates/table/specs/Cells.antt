-- Cells, and the keys that lie in them.
use Rattle.std.specs.Prelude.{List, [], ◌∷◌, Some, None, Option}
use Rattle.table.specs.declared.cell.Cell.{Cell}

module _ {K : Type 0} where
  abbrev pub empty_cell : Cell K
  empty_cell = record { key = None; first = None; next = None }

  abbrev pub put_front : Option K → List K → List K
  put_front None ks = ks
  put_front (Some k) ks = k ∷ ks

  -- the keys in cells, in their order
  abbrev pub keys_in : List (Cell K) → List K
  keys_in [] = []
  keys_in (c ∷ cs) = put_front c.key (keys_in cs)

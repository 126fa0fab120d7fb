-- What a table holds, and what adding a key does.
use Rattle.std.specs.Prelude.{◌≡◌, ℕ, ◌<◌, Bool, List, [], ◌∷◌, ◌++◌, length, Ok, Err, Result}
use Rattle.std.specs.declared.cmp.PartialEq as equality
use Rattle.table.specs.Cells.{keys_in}
use Rattle.table.specs.Filled.{Filled}
use Rattle.table.specs.Keys.{Absent, Apart, Held}
use Rattle.table.specs.declared.key.Key as hashed
use Rattle.table.specs.declared.table.Full.{Full}
use Rattle.table.specs.declared.table.Table.{Table}

module _ {K : Type 0} {hash : hashed.Ghosts K} {eq : equality.Ghosts K} where
  abbrev pub capacity_of : Table K hash eq → ℕ
  capacity_of t = length t.cells.now

  -- the keys that are held, by their numbers
  abbrev pub keys_of : Table K hash eq → List K
  keys_of t = keys_in t.cells.now

  -- the cells that a table has are those that it had
  pub record KeepsCells (before after : Table K hash eq) : Type 0 where
    pub capacity : capacity_of after ≡ capacity_of before
    pub lent : after.cells.ghost_name ≡ before.cells.ghost_name

  -- the cells are those of the table's keys, of which no two are equal
  pub record Sound (same : K → K → Bool) (code : K → ℕ) (t : Table K hash eq) : Type 0 where
    pub count : length (keys_of t) ≡ t.len
    pub cells : Filled code t.cells.now
    pub apart : Apart same (keys_of t)

  -- every table is so
  pub sound : (t : Table K hash eq) → Sound eq.eq hash.code t
  sound t = record { count = t.count; cells = t.filled; apart = t.apart }

module _ {K : Type 0} (same : K → K → Bool) where
  -- what find_or_add answers, and which keys are held then
  pub data FindsOrAdds (capacity : ℕ) (keys : List K) (k : K) : Result ℕ Full → List K → Type 0 where
    found : (n : ℕ) → Held same keys k n → FindsOrAdds capacity keys k (Ok n) keys
    appended : Absent same keys k → length keys < capacity → FindsOrAdds capacity keys k (Ok (length keys)) (keys ++ (k ∷ []))
    refused : (full : Full) → Absent same keys k → length keys ≡ capacity → FindsOrAdds capacity keys k (Err full) keys

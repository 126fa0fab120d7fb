-- The cells that hold a list of keys: they depend on the keys and the capacity alone.
use Rattle.std.specs.Prelude.{◌≡◌, ℕ, zero, suc, ◌%◌, ◌≤◌, Bool, false, cond, List, map, length, Some, None, Option, ◌==◌, refl}
use Rattle.std.specs.Coded.{Coded, Coded-set, code_by, coded_list, coded_option, coded×, coded_ℕ, le_prop}
use Rattle.std.specs.List.{range_with_len, slice_get}
use Rattle.table.specs.Cells.{keys_in}
use Rattle.table.specs.declared.cell.Cell.{Cell}

module _ {K : Type 0} (code : K → ℕ) (capacity : ℕ) where
  -- the cell on which a key's hash falls
  abbrev pub home : K → ℕ
  home k = code k % capacity

  abbrev pub falls_on : ℕ → Option K → Bool
  falls_on b None = false
  falls_on b (Some k) = home k == b

  -- the latest of the first n keys whose hash falls on the cell b
  abbrev pub latest : List K → ℕ → ℕ → Option ℕ
  latest keys b zero = None
  latest keys b (suc n) = cond (falls_on b (slice_get keys n)) (Some n) (latest keys b n)

  -- the latest of the first n keys that shares its cell with this one
  abbrev pub before : List K → ℕ → Option K → Option ℕ
  before keys n None = None
  before keys n (Some k) = latest keys (home k) n

  abbrev pub cell_of : List K → ℕ → Cell K
  cell_of keys i = record { key = slice_get keys i; first = latest keys i (length keys); next = before keys i (slice_get keys i) }

  abbrev pub filled : List K → List (Cell K)
  filled keys = map (cell_of keys) (range_with_len 0 capacity)

-- the cells are those of the keys that lie in them
pub record Filled {K : Type 0} (code : K → ℕ) (cells : List (Cell K)) : Type 0 where
  pub few : length (keys_in cells) ≤ length cells
  pub all : cells ≡ filled code (length cells) (keys_in cells)

-- a cell is stored as the tuple of its fields
abbrev coded_cell : {K : Type 0} → Coded K → Coded (Cell K)
coded_cell {K} key =
    code_by (Option K × (Option ℕ × Option ℕ)) (coded× (coded_option key) (coded× (coded_option coded_ℕ) (coded_option coded_ℕ)))
    (λ c. (c.key, (c.first, c.next))) (λ p. record { key = p.0; first = p.1.0; next = p.1.1 }) (λ _. refl)

-- that cells are so has one proof at most
pub filled_prop : {K : Type 0} → Coded K → (code : K → ℕ) (cells : List (Cell K)) → IsProp (Filled code cells)
filled_prop key code cells p q = λ i. record { few = le_prop p.few q.few i; all = Coded-set (coded_list (coded_cell key)) cells (filled code (length cells) (keys_in cells)) p.all q.all i }

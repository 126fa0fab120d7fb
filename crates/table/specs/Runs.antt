-- What holds over whole runs of a table.
use Rattle.std.specs.Prelude.{◌≡◌, ℕ, ◌<◌, Bool, true, List, [], ◌∷◌, ◌++◌, length, take, Ok, All, Result}
use Rattle.table.specs.Filled.{Filled}
use Rattle.table.specs.Cells.{keys_in}
use Rattle.table.specs.Tables.{FindsOrAdds}
use Rattle.table.specs.declared.cell.Cell.{Cell}
use Rattle.table.specs.declared.table.Full.{Full}

-- a call that changes a table, with its answer
pub data Event (K : Type 0) : Type 0 where
  sought : K → Result ℕ Full → Event K
  cut_to : ℕ → Event K
  cleared : Event K

module _ {K : Type 0} (same : K → K → Bool) (capacity : ℕ) where
  -- what a call may answer on a table that holds these keys, and which keys it holds then
  pub data Does (keys : List K) : Event K → List K → Type 0 where
    seeks : {k : K} {r : Result ℕ Full} {after : List K} → FindsOrAdds same capacity keys k r after → Does keys (sought k r) after
    cuts : (n : ℕ) → Does keys (cut_to n) (take n keys)
    clears : Does keys cleared []

  -- the calls, first to last, lead from some keys to others
  pub data Runs : List K → List (Event K) → List K → Type 0 where
    stays : {keys : List K} → Runs keys [] keys
    then : {keys mid after : List K} {e : Event K} {es : List (Event K)} → Does keys e mid → Runs mid es after → Runs keys (e ∷ es) after

-- the call leaves the key with the number n
abbrev pub Spares : {K : Type 0} → ℕ → Event K → Type 0
Spares n (sought k r) = Unit {0}
Spares n (cut_to m) = n < m
Spares n cleared = ⊥

pub record TableLaws {K : Type 0} (same : K → K → Bool) (code : K → ℕ) (capacity : ℕ) : Type 0 where
  -- of two answered calls, the number of the first one not cut off between them: equal numbers for equal keys, and only for these
  pub one_number : (before between : List (Event K)) (k j : K) (n m : ℕ) (after : List K)
      → Runs same capacity [] (before ++ (sought k (Ok n) ∷ (between ++ (sought j (Ok m) ∷ [])))) after
      → All (Spares n) between → ((n ≡ m → same k j ≡ true) × (same k j ≡ true → n ≡ m))
  -- the cells depend on the keys that are held and on the capacity alone
  pub same_cells : (a b : List (Cell K)) → Filled code a → Filled code b → length a ≡ length b → keys_in a ≡ keys_in b → a ≡ b

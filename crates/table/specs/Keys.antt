-- What keys are, and which lists of keys a table can hold.
use Rattle.std.specs.Prelude.{◌≡◌, ℕ, ◌<◌, Bool, true, false, List, Some, None, Option}
use Rattle.std.specs.List.{slice_get}

module _ {K : Type 0} (same : K → K → Bool) where
  -- equality is an equivalence, and equal keys have equal hashes
  pub record KeyLaws (code : K → ℕ) : Type 0 where
    pub reflexive : (x : K) → same x x ≡ true
    pub symmetric : (x y : K) → same x y ≡ true → same y x ≡ true
    pub transitive : (x y z : K) → same x y ≡ true → same y z ≡ true → same x z ≡ true
    pub same_code : (x y : K) → same x y ≡ true → code x ≡ code y

  -- no two keys are equal
  abbrev pub Apart : List K → Type 0
  Apart keys = (i j : ℕ) (x y : K) → i < j → slice_get keys i ≡ Some x → slice_get keys j ≡ Some y → same x y ≡ false

  -- a key that is equal to k has the number n
  abbrev pub Held : List K → K → ℕ → Type 0
  Held keys k n = (x : K) × (slice_get keys n ≡ Some x) × (same x k ≡ true)

  -- no key is equal to k
  abbrev pub Absent : List K → K → Type 0
  Absent keys k = (i : ℕ) (x : K) → slice_get keys i ≡ Some x → same x k ≡ false

  -- what a search for a key answers
  abbrev pub Finds : List K → K → Option ℕ → Type 0
  Finds keys k None = Absent keys k
  Finds keys k (Some n) = Held keys k n

  -- a key is there, and is equal to k
  abbrev pub has_same : K → Option K → Bool
  has_same k None = false
  has_same k (Some x) = same x k

-- Lists of facts, and what their names may be.
use Rattle.std.specs.Prelude.{◌≡◌, ℕ, ◌<◌, List, [], map, length, Some, None, Option, ◌≢◌, slice_index_or}
use Rattle.model.specs.declared.fact.Fact.{Fact}
use Rattle.model.specs.Spelling.{spelling}

-- how the names are written
abbrev pub names : List Fact → List (List ℕ)
names fs = map (λ f. spelling f.name) fs

-- none is empty
abbrev pub AllNamed : List Fact → Type 0
AllNamed fs = (i : ℕ) → i < length fs → 0 < length (slice_index_or (names fs) i [])

-- no two are the same
abbrev pub Different : List Fact → Type 0
Different fs = (i j : ℕ) → i < j → j < length fs → slice_index_or (names fs) i [] ≢ slice_index_or (names fs) j []

-- one of the facts has this name
abbrev pub Named : List Fact → List ℕ → Type 0
Named fs name = (i : ℕ) × (i < length fs) × (slice_index_or (names fs) i [] ≡ name)

-- what a search for a name answers: the place of the fact that has it, if one has
abbrev pub Finds : List Fact → List ℕ → Option ℕ → Type 0
Finds fs name None = Named fs name → ⊥
Finds fs name (Some i) = (i < length fs) × (slice_index_or (names fs) i [] ≡ name)

-- Joining a fact, a low and a high; a fact by itself.
use Rattle.std.specs.Prelude.{ℕ, suc, Bool, false, cond, ◌&&◌, List, [], ◌∷◌, ◌++◌, length, Some, None, Option, ◌==◌, nat_lt, slice_index_or}
use Rattle.model.specs.Rings.{Ring}
use Rattle.model.specs.declared.root.Root.{Root}
use Rattle.model.specs.declared.root.Root.TheVariants.{Leaf, Inner}
use Rattle.model.specs.declared.decomposition.Decomposition.{Decomposition}
use Rattle.model.specs.declared.decomposition.Decomposition.TheVariants.{Shannon, PositiveDavio, NegativeDavio}
use Rattle.model.specs.declared.node.Node.{Node}

-- what a question comes to: the nodes that are held then and its answer, or no room for a node
pub data Outcome : Type 0 where
  full : Outcome
  done : List Node → Root → Outcome

-- go on from the nodes and the answer; what is full stays full
abbrev pub then : Outcome → (List Node → Root → Outcome) → Outcome
then full next = full
then (done ns r) next = next ns r

abbrev pub same_root : Root → Root → Bool
same_root (Leaf v) (Leaf w) = v == w
same_root (Leaf v) (Inner j) = false
same_root (Inner k) (Leaf w) = false
same_root (Inner k) (Inner j) = k == j

abbrev pub same_node : Node → Node → Bool
same_node m n = m.fact == n.fact && same_root m.low n.low && same_root m.high n.high

abbrev pub one_further : Option ℕ → Option ℕ
one_further None = None
one_further (Some k) = Some (suc k)

-- the place of a node, if it is held
abbrev pub place_of : List Node → Node → Option ℕ
place_of [] n = None
place_of (m ∷ ns) n = cond (same_node m n) (Some 0) (one_further (place_of ns n))

-- a node at the place where it stands, or appended if it stands nowhere and there is room
abbrev pub found_or_added : ℕ → List Node → Node → Option ℕ → Outcome
found_or_added capacity ns n None = cond (nat_lt (length ns) capacity) (done (ns ++ (n ∷ [])) (Inner (length ns))) full
found_or_added capacity ns n (Some k) = done ns (Inner k)

abbrev pub find_or_add : ℕ → List Node → Node → Outcome
find_or_add capacity ns n = found_or_added capacity ns n (place_of ns n)

module _ (R : Ring) where
  -- a node of this type would be worth its low
  abbrev pub drops : Decomposition → Root → Root → Bool
  drops Shannon low high = same_root low high
  drops PositiveDavio low high = same_root high (Leaf R.zero)
  drops NegativeDavio low high = same_root high (Leaf R.zero)

  -- the low and the high of a fact by itself
  abbrev pub fact_parts : Decomposition → Root × Root
  fact_parts Shannon = (Leaf R.zero, Leaf R.one)
  fact_parts PositiveDavio = (Leaf R.zero, Leaf R.one)
  fact_parts NegativeDavio = (Leaf R.one, Leaf (R.minus R.one))

  module _ (types : List Decomposition) (capacity : ℕ) where
    unfoldable pub join : List Node → ℕ → Root → Root → Outcome
    join ns f low high =
        cond (drops (slice_index_or types f Shannon) low high) (done ns low) (find_or_add capacity ns (record { fact = f; low = low; high = high }))

    abbrev pub fact_root : List Node → ℕ → Outcome
    fact_root ns f = let parts = fact_parts (slice_index_or types f Shannon) in join ns f parts.0 parts.1

-- The order of assignments, the first one under which two roots differ, and the walk that finds it.
use Rattle.std.specs.Prelude.{◌≡◌, ℕ, zero, suc, ◌^◌, ◌<◌, Bool, true, false, cond, not, ◌⊎◌, List, length, ◌≢◌, slice_index_or}
use Rattle.model.specs.Rings.{Ring}
use Rattle.model.specs.Assignments.{holds}
use Rattle.model.specs.declared.root.Root.{Root}
use Rattle.model.specs.declared.decomposition.Decomposition.{Decomposition}
use Rattle.model.specs.declared.decomposition.Decomposition.TheVariants.{Shannon, PositiveDavio, NegativeDavio}
use Rattle.model.specs.declared.node.Node.{Node}
use Rattle.kfdd.specs.Reduced.{Held, Reduced}
use Rattle.kfdd.specs.Assignments.{number, worth}
use Rattle.kfdd.specs.Splitting.{split}
use Rattle.kfdd.specs.Joining.{same_root}

-- the side of a fact that comes first: where it fails, but for N where it holds
abbrev pub preferred : Decomposition → Bool
preferred Shannon = false
preferred PositiveDavio = false
preferred NegativeDavio = true

-- x precedes y: at the topmost fact where they differ x has the preferred value
pub record Before (types : List Decomposition) (x y : ℕ) : Type 0 where
  pub fact : ℕ
  pub known : fact < length types
  pub above : (i : ℕ) → i < fact → holds x i ≡ holds y i
  pub here : holds x fact ≡ preferred (slice_index_or types fact Shannon)
  pub there : holds y fact ≡ not (preferred (slice_index_or types fact Shannon))

-- of two different assignments to the facts exactly one precedes the other, and precedence carries over
pub record StrictOrder (types : List Decomposition) : Type 0 where
  pub either : (x y : ℕ) → x < 2 ^ length types → y < 2 ^ length types → (x ≢ y) → Before types x y ⊎ Before types y x
  pub not_both : (x y : ℕ) → Before types x y → Before types y x → ⊥
  pub carries_over : (x y z : ℕ) → Before types x y → Before types y z → Before types x z

-- x is the first assignment to the facts under which f and g differ
pub record First (types : List Decomposition) (f g : ℕ → ℕ) (x : ℕ) : Type 0 where
  pub below : x < 2 ^ length types
  pub differs : f x ≡ g x → ⊥
  pub first : (y : ℕ) → y < 2 ^ length types → (f y ≢ g y) → (y ≢ x) → Before types x y

module _ (R : Ring) (types : List Decomposition) (ns : List Node) where
  abbrev pub same_lows : ℕ → Root × Root → Bool
  same_lows f p = same_root (split R types ns f p.0).0 (split R types ns f p.1).0

  abbrev pub lows : ℕ → Root × Root → Root × Root
  lows f p = ((split R types ns f p.0).0, (split R types ns f p.1).0)

  abbrev pub highs : ℕ → Root × Root → Root × Root
  highs f p = ((split R types ns f p.0).1, (split R types ns f p.1).1)

  -- the two roots that the walk down from a and b has come to at fact f: the lows where they differ, else the highs
  abbrev pub walked : Root → Root → ℕ → Root × Root
  walked a b zero = (a, b)
  walked a b (suc f) = cond (same_lows f (walked a b f)) (highs f (walked a b f)) (lows f (walked a b f))

  -- the side of fact f that it took: the preferred one for the lows
  abbrev pub taken : Root → Root → ℕ → Bool
  taken a b f = cond (same_lows f (walked a b f)) (not (preferred (slice_index_or types f Shannon))) (preferred (slice_index_or types f Shannon))

  abbrev pub walk : Root → Root → ℕ
  walk a b = number (length types) (taken a b)

-- for two held roots of a reduced list that are not equal, the walk gives the first assignment under which they differ,
-- and there is no other
abbrev pub WalkFindsFirst : Ring → Type 0
WalkFindsFirst R =
    (types : List Decomposition) (ns : List Node) → Reduced R types ns → (a b : Root) → Held R (length ns) a → Held R (length ns) b → (a ≢ b)
    → (First types (worth R types ns a) (worth R types ns b) (walk R types ns a b))
    × ((x : ℕ) → First types (worth R types ns a) (worth R types ns b) x → x ≡ walk R types ns a b)

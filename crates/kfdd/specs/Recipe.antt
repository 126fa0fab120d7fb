-- The recipe: how sum, minus and product of roots are worked out, question by question.
-- The count is how deep the questions may go. They are asked with the number of facts, which is deep enough.
use Rattle.std.specs.Prelude.{ℕ, zero, suc, Bool, true, false, List, length, Some, None, Option, slice_index_or}
use Rattle.model.specs.Rings.{Ring}
use Rattle.model.specs.declared.root.Root.{Root}
use Rattle.model.specs.declared.root.Root.TheVariants.{Leaf, Inner}
use Rattle.model.specs.declared.decomposition.Decomposition.{Decomposition}
use Rattle.model.specs.declared.decomposition.Decomposition.TheVariants.{Shannon, PositiveDavio, NegativeDavio}
use Rattle.model.specs.declared.node.Node.{Node}
use Rattle.kfdd.specs.Reduced.{level}
use Rattle.kfdd.specs.Splitting.{split, topmost}
use Rattle.kfdd.specs.Joining.{Outcome, full, done, then, same_root, join}

-- an answer without a split, if there is one
abbrev pub else : Option Root → List Node → Outcome → Outcome
else None ns rest = rest
else (Some r) ns rest = done ns r

-- a shortcut that a test opens, before others
abbrev pub or_if : Bool → Root → Option Root → Option Root
or_if true r others = Some r
or_if false r others = others

-- the high of a product of two P or N nodes: high × high, low × high and high × low, then the sum of the first two, then that plus the third
abbrev pub high_of_davio_product : (List Node → Root → Root → Outcome) → (List Node → Root → Root → Outcome) → Root × Root → Root × Root → List Node → Outcome
high_of_davio_product times sum p q ns =
    then (times ns p.1 q.1) (λ ns₁ hh. then (times ns₁ p.0 q.1) (λ ns₂ lh. then (times ns₂ p.1 q.0) (λ ns₃ hl. then (sum ns₃ hh lh) (λ ns₄ s. sum ns₄ s hl))))

-- the high of a product, from the lows and highs of the two: high × high for S
abbrev pub high_of_product : Decomposition → (List Node → Root → Root → Outcome) → (List Node → Root → Root → Outcome) → Root × Root → Root × Root → List Node → Outcome
high_of_product Shannon times sum p q ns = times ns p.1 q.1
high_of_product PositiveDavio times sum p q ns = high_of_davio_product times sum p q ns
high_of_product NegativeDavio times sum p q ns = high_of_davio_product times sum p q ns

module _ (R : Ring) where
  abbrev pub is_zero : Root → Bool
  is_zero r = same_root r (Leaf R.zero)

  abbrev pub is_one : Root → Bool
  is_one r = same_root r (Leaf R.one)

  abbrev pub sum_of_leaves : Root → Root → Option Root
  sum_of_leaves (Leaf v) (Leaf w) = Some (Leaf (R.sum v w))
  sum_of_leaves (Leaf v) (Inner j) = None
  sum_of_leaves (Inner k) (Leaf w) = None
  sum_of_leaves (Inner k) (Inner j) = None

  abbrev pub product_of_leaves : Root → Root → Option Root
  product_of_leaves (Leaf v) (Leaf w) = Some (Leaf (R.product v w))
  product_of_leaves (Leaf v) (Inner j) = None
  product_of_leaves (Inner k) (Leaf w) = None
  product_of_leaves (Inner k) (Inner j) = None

  -- what needs no split
  abbrev pub sum_at_once : Root → Root → Option Root
  sum_at_once a b = or_if (is_zero a) b (or_if (is_zero b) a (sum_of_leaves a b))

  abbrev pub minus_at_once : Root → Option Root
  minus_at_once (Leaf v) = Some (Leaf (R.minus v))
  minus_at_once (Inner k) = None

  abbrev pub product_at_once : Root → Root → Option Root
  product_at_once a b =
      or_if (is_zero a) (Leaf R.zero) (or_if (is_zero b) (Leaf R.zero)
      (or_if (is_one a) b (or_if (is_one b) a (product_of_leaves a b))))

  module _ (types : List Decomposition) (capacity : ℕ) where
    -- the low is worked out, then the high, and the fact is joined
    abbrev pub low_high_join : ℕ → Outcome → (List Node → Outcome) → Outcome
    low_high_join f low high = then low (λ ns₁ l. then (high ns₁) (λ ns₂ h. join R types capacity ns₂ f l h))

    unfoldable pub sum : ℕ → List Node → Root → Root → Outcome
    sum zero ns a b = else (sum_at_once a b) ns full
    sum (suc d) ns a b =
        let f = topmost types ns a b in
        let p = split R types ns f a in
        let q = split R types ns f b in
        let rest : Outcome = low_high_join f (sum d ns p.0 q.0) (λ ns₁. sum d ns₁ p.1 q.1) in
        else (sum_at_once a b) ns rest

    unfoldable pub minus : ℕ → List Node → Root → Outcome
    minus zero ns a = else (minus_at_once a) ns full
    minus (suc d) ns a =
        let f = level types ns a in
        let p = split R types ns f a in
        let rest : Outcome = low_high_join f (minus d ns p.0) (λ ns₁. minus d ns₁ p.1) in
        else (minus_at_once a) ns rest

    unfoldable pub times : ℕ → List Node → Root → Root → Outcome
    times zero ns a b = else (product_at_once a b) ns full
    times (suc d) ns a b =
        let f = topmost types ns a b in
        let p = split R types ns f a in
        let q = split R types ns f b in
        let rest : Outcome = low_high_join f (times d ns p.0 q.0) (high_of_product (slice_index_or types f Shannon) (times d) (sum d) p q) in
        else (product_at_once a b) ns rest

    -- the three questions as they are asked: with the number of facts as the count
    abbrev pub sum_of : List Node → Root → Root → Outcome
    sum_of ns a b = sum (length types) ns a b

    abbrev pub minus_of : List Node → Root → Outcome
    minus_of ns a = minus (length types) ns a

    abbrev pub times_of : List Node → Root → Root → Outcome
    times_of ns a b = times (length types) ns a b

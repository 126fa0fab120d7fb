-- Nodes by their places, in the first cells.
use Rattle.std.proofs.Common.{◌≡◌, ℕ, ◌<◌, ◌≤◌, true, false, min, List, length, get_or, take, Some, None, Option, sym, ap, ◌∙◌, ⊎_elim, arith}
use Rattle.std.proofs.lemmas.List.{get_or-take, length-take, take_all, take-take}
use Rattle.std.proofs.lemmas.Bool.{cases_lt, true≢false}
use Rattle.std.proofs.lemmas.Option.{slice_get-get_or, same_Some, slice_get_within}
use Rattle.std.specs.List.{slice_get}
use Rattle.model.specs.Roots.{blank_node}
use Rattle.model.specs.declared.node.Node.{Node}
use Rattle.storage.specs.NodeKeys.{same_node, same_node_decides}
use Rattle.storage.specs.Stores.{Finds}
use Rattle.std.specs.Option.{MatchOption}

-- of the first m the first n
pub take_both : {X : Type 0} (k m n : ℕ) (xs : List X) → k ≡ min m n → take k xs ≡ take n (take m xs)
take_both k m n xs is =
    ⊎_elim
    (λ lt. let all : k ≡ m = omega arith in ap (λ i. take i xs) all ∙ sym (take_all n (take m xs) (omega (arith, length-take m xs))))
    (λ le. let few : k ≡ n = omega arith in ap (λ i. take i xs) few ∙ sym (take-take n m xs le))
    (cases_lt m n)

module _ (cells : List Node) (len : ℕ) (count : length (take len cells) ≡ len) where
  pub place_at : (i : ℕ) → i < len → slice_get (take len cells) i ≡ Some (get_or cells i blank_node)
  place_at i lt = slice_get-get_or (take len cells) i blank_node (omega arith) ∙ ap Some (get_or-take len cells i blank_node lt)

  -- what is known of the first place whose node equals this one
  pub sought : (n : Node) (r : Option ℕ)
      → MatchOption r ((k : ℕ) → 0 ≤ k → k < len → same_node (get_or cells k blank_node) n ≡ false)
      (λ i. (0 ≤ i) × (i < len) × (same_node (get_or cells i blank_node) n ≡ true) × ((k : ℕ) → 0 ≤ k → k < i → same_node (get_or cells k blank_node) n ≡ false))
      → Finds (take len cells) n r
  sought n None none = λ i is.
      let lt : i < len = omega (arith, slice_get_within (take len cells) i n is) in
      let same : get_or cells i blank_node ≡ n = same_Some _ _ (sym (place_at i lt) ∙ is) in
      true≢false (sym ((same_node_decides _ n).1 same) ∙ none i (omega arith) lt)
  sought n (Some i) (from, lt, same, first) = place_at i lt ∙ ap Some ((same_node_decides _ n).0 same)

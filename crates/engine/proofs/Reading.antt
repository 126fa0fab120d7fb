-- Reading the type of a fact.
use Rattle.std.proofs.Common.{◌≡◌, ℕ, ◌≤◌, List, map, length, get_or, Some, None, Option, sym, ap, ◌∙◌, arith}
use Rattle.std.proofs.lemmas.List.{length-map, length-take}
use Rattle.std.proofs.lemmas.Option.{slice_get-map, unwrap_or-slice_get}
use Rattle.std.specs.List.{slice_get}
use Rattle.std.specs.Option.{option_map, unwrap_or, MatchOption}
use Rattle.model.specs.Orders.{facts_of}
use Rattle.model.specs.declared.order.Order.{Order}
use Rattle.engine.specs.Questions.{types_of}

module _ {X Y : Type 0} (f : X → Y) (d : Y) where
  chosen : (o : Option X) (y : Y) → MatchOption o (y ≡ d) (λ x. y ≡ f x) → y ≡ unwrap_or (option_map f o) d
  chosen None y is = is
  chosen (Some x) y is = is

  -- what is at a place, under a function, or a default where nothing is
  pub read_map : (xs : List X) (i : ℕ) (o : Option X) (y : Y) → o ≡ slice_get xs i → MatchOption o (y ≡ d) (λ x. y ≡ f x) → y ≡ get_or (map f xs) i d
  read_map xs i o y is said =
      chosen o y said ∙ ap (λ o. unwrap_or (option_map f o) d) is ∙ ap (λ o. unwrap_or o d) (sym (slice_get-map f xs i)) ∙ unwrap_or-slice_get (map f xs) i d

-- each fact has a type
pub types_long : (order : Order) → length (types_of order) ≡ length (facts_of order)
types_long order = length-map (facts_of order) (λ f. f.decomposition)

-- an order has at most 40 facts
pub types_few : (order : Order) → length (types_of order) ≤ 40
types_few order = omega (arith, types_long order, length-take order.len order.facts, order.short)

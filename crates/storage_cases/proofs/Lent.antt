-- The first node of an empty store.
use Rattle.std.proofs.lemmas.Option.{none-some}
use Rattle.std.proofs.Common.{◌≡◌, ℕ, ◌<◌, List, [], ◌∷◌, ◌++◌, length, take, Some, Result, sym, ap, ◌∙◌, arith}
use Rattle.std.proofs.lemmas.List.{length-take}
use Rattle.std.specs.List.{slice_get}
use Rattle.model.specs.declared.fault.Fault.{Fault}
use Rattle.model.specs.declared.node.Node.{Node}
use Rattle.storage.specs.Runs.{Does, seeks}
use Rattle.storage.specs.Stores.{FindsOrAdds, found, appended, refused}
use Rattle.storage.specs.declared.calls.StoreAnswer.{StoreAnswer}
use Rattle.storage.specs.declared.calls.StoreCall.TheVariants.{FindOrAdd}
use Rattle.table.proofs.Numbered.{nth_take}

module _ (capacity : ℕ) (nodes : List Node) (n : Node) (none : nodes ≡ []) (room : 0 < capacity) where
  first_sought : (r : Result ℕ Fault) (after : List Node) → FindsOrAdds capacity nodes n r after → after ≡ n ∷ []
  first_sought _ _ (found place is) = absurd (none-some n (ap (λ ns. slice_get ns place) (sym none) ∙ is))
  first_sought _ _ (appended absent few) = ap (λ ns. ns ++ (n ∷ [])) none
  first_sought _ _ (refused absent full) = absurd (omega (arith, ap length none))

  pub first_added : (r : StoreAnswer) (after : List Node) → Does capacity nodes (FindOrAdd n) r after → after ≡ n ∷ []
  first_added _ _ (seeks {r = r} {after = after} s) = first_sought r after s

-- what is taken off the front stands there
pub first_there : (final cells : List Node) (len : ℕ) (n : Node) → final ≡ cells → take len cells ≡ n ∷ [] → slice_get final 0 ≡ Some n
first_there final cells len n same front =
    let here = ap (λ ns. slice_get ns 0) front in
    let lt : 0 < len = omega (arith, length-take len cells, ap length front) in
    ap (λ ns. slice_get ns 0) same ∙ sym (nth_take len cells 0 lt) ∙ here

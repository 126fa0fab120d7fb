-- Nodes stay different when one is added that was not there, and when some are cut off.
use Rattle.std.proofs.lemmas.Option.{same_Some, none-some, slice_get_within}
use Rattle.std.proofs.Common.{◌≡◌, ℕ, ◌<◌, ◌≤◌, List, [], ◌∷◌, ◌++◌, length, take, Some, Ok, Err, Result, sym, refl, ap, ◌∙◌, subst, ⊎_elim, arith}
use Rattle.std.proofs.lemmas.List.{length_push, length-take}
use Rattle.std.proofs.lemmas.Bool.{cases_lt}
use Rattle.std.specs.List.{slice_get}
use Rattle.model.specs.Refusals.{fault}
use Rattle.model.specs.declared.fault.Fault.{Fault}
use Rattle.model.specs.declared.fault.Refusal.TheVariants.{StoreFull}
use Rattle.model.specs.declared.node.Node.{Node}
use Rattle.storage.specs.Stores.{Absent, Distinct, FindsOrAdds, found, appended, refused, Stored}
use Rattle.table.proofs.Numbered.{nth_before, nth_here, nth_take}

pub distinct_none : Distinct []
distinct_none i j n at_i at_j = absurd (none-some n at_i)

module _ (nodes : List Node) (n : Node) (distinct : Distinct nodes) (absent : Absent nodes n) where
  -- a node that is held stood there before, or is the new one
  at_end : (i : ℕ) (m : Node) → length nodes ≤ i → slice_get (nodes ++ (n ∷ [])) i ≡ Some m → (i ≡ length nodes) × (n ≡ m)
  at_end i m past is =
      let end : i ≡ length nodes = omega (arith, slice_get_within (nodes ++ (n ∷ [])) i m is, length_push nodes n) in
      (end, same_Some n m (sym (nth_here nodes n [] i end) ∙ is))

  -- an old node is not the new one
  apart : (i j : ℕ) (m : Node) → i < length nodes → length nodes ≤ j → slice_get (nodes ++ (n ∷ [])) i ≡ Some m → slice_get (nodes ++ (n ∷ [])) j ≡ Some m → ⊥
  apart i j m inside past at_i at_j = absent i (sym (nth_before nodes (n ∷ []) i inside) ∙ at_i ∙ ap Some (sym (at_end j m past at_j).1))

  pub distinct_more : Distinct (nodes ++ (n ∷ []))
  distinct_more i j m at_i at_j =
      ⊎_elim
      (λ i-in.
      ⊎_elim
      (λ j-in. distinct i j m (sym (nth_before nodes (n ∷ []) i i-in) ∙ at_i) (sym (nth_before nodes (n ∷ []) j j-in) ∙ at_j))
      (λ j-out. absurd (apart i j m i-in j-out at_i at_j))
      (cases_lt j (length nodes)))
      (λ i-out.
      ⊎_elim
      (λ j-in. absurd (apart j i m j-in i-out at_j at_i))
      (λ j-out. (at_end i m i-out at_i).0 ∙ sym (at_end j m j-out at_j).0)
      (cases_lt j (length nodes)))
      (cases_lt i (length nodes))

pub distinct_cut : (nodes : List Node) (count : ℕ) → Distinct nodes → Distinct (take count nodes)
distinct_cut nodes count distinct i j n at_i at_j =
    let kept : (k : ℕ) → slice_get (take count nodes) k ≡ Some n → slice_get nodes k ≡ Some n = λ k is. sym (nth_take count nodes k (omega (arith, slice_get_within (take count nodes) k n is, length-take count nodes))) ∙ is in
    distinct i j n (kept i at_i) (kept j at_j)

pub stored_cut : (capacity : ℕ) (nodes : List Node) (count : ℕ) → Stored capacity nodes → Stored capacity (take count nodes)
stored_cut capacity nodes count so = record { distinct = distinct_cut nodes count so.distinct; within = omega (arith, length-take count nodes, so.within); limited = so.limited }

pub stored_more : (capacity : ℕ) (nodes : List Node) (n : Node) → Stored capacity nodes → Absent nodes n → length nodes < capacity → Stored capacity (nodes ++ (n ∷ []))
stored_more capacity nodes n so absent room = record { distinct = distinct_more nodes n so.distinct absent; within = omega (arith, length_push nodes n); limited = so.limited }

pub stored_sought : (capacity : ℕ) (nodes : List Node) (n : Node) (r : Result ℕ Fault) (after : List Node) → Stored capacity nodes → FindsOrAdds capacity nodes n r after → Stored capacity after
stored_sought capacity nodes n _ _ so (found place is) = so
stored_sought capacity nodes n _ _ so (appended none room) = stored_more capacity nodes n so none room
stored_sought capacity nodes n _ _ so (refused none full) = so

-- a capacity and nodes that are known under other names
pub stored_as : {a b : ℕ} {x y : List Node} → a ≡ b → x ≡ y → Stored a x → Stored b y
stored_as {a} {b} {x} {y} same kept so = subst (λ c. Stored c y) same (subst (Stored a) kept so)

-- ---- what who adds a node knows

module _ (capacity : ℕ) (nodes : List Node) (n : Node) where
  pub placed_at : (place : ℕ) (after : List Node) → FindsOrAdds capacity nodes n (Ok place) after → slice_get after place ≡ Some n
  placed_at _ _ (found place is) = is
  placed_at _ _ (appended none room) = nth_here nodes n [] (length nodes) refl

  pub placed_small : (place : ℕ) (after : List Node) → Stored capacity nodes → FindsOrAdds capacity nodes n (Ok place) after → place < 1048576
  placed_small place after so does =
      let more = stored_sought capacity nodes n (Ok place) after so does in
      omega (arith, slice_get_within after place n (placed_at place after does), more.within, more.limited)

  pub refused_full : (f : Fault) (after : List Node) → FindsOrAdds capacity nodes n (Err f) after → f ≡ fault StoreFull 0
  refused_full _ _ (refused none full) = refl

-- A store's answers depend on its capacity and the calls alone.
use Rattle.std.proofs.Common.{◌≡◌, ℕ, List, [], ◌∷◌, length, take, Ok, Option, Result, sym, refl, ap, subst, arith}
use Rattle.std.specs.List.{slice_get}
use Rattle.model.specs.declared.fault.Fault.{Fault}
use Rattle.model.specs.declared.node.Node.{Node}
use Rattle.storage.specs.Runs.{Alike, Does, clears, seeks, cuts, tells_capacity, tells_len, reads, Runs, ends, then, Step}
use Rattle.storage.specs.Stores.{Distinct, FindsOrAdds, found, appended, refused}
use Rattle.storage.specs.declared.calls.StoreAnswer.{StoreAnswer}
use Rattle.storage.specs.declared.calls.StoreAnswer.TheVariants.{Done, Placed, Number, Held}
use Rattle.storage.specs.declared.calls.StoreCall.{StoreCall}
use Rattle.storage.specs.declared.calls.StoreCall.TheVariants.{Clear, FindOrAdd, Cut, Capacity, Len, NodeAt}
use Rattle.storage.proofs.Stored.{distinct_none, distinct_more, distinct_cut}

module _ (capacity : ℕ) where
  -- ---- a call that was made, by what is known of its answer

  module _ (nodes : List Node) (call : StoreCall) where
    pub does_clear : (after : List Node) → call ≡ Clear → after ≡ [] → Does capacity nodes call Done after
    does_clear after is none = subst (λ k. Does capacity nodes k Done after) (sym is) (subst (Does capacity nodes Clear Done) (sym none) clears)

    pub does_seek : (n : Node) (r : Result ℕ Fault) (after : List Node) → call ≡ FindOrAdd n → FindsOrAdds capacity nodes n r after → Does capacity nodes call (Placed r) after
    does_seek n r after is so = subst (λ k. Does capacity nodes k (Placed r) after) (sym is) (seeks so)

    pub does_cut : (count : ℕ) (after : List Node) → call ≡ Cut count → after ≡ take count nodes → Does capacity nodes call Done after
    does_cut count after is kept = subst (λ k. Does capacity nodes k Done after) (sym is) (subst (Does capacity nodes (Cut count) Done) (sym kept) (cuts count))

    pub does_capacity : (r : ℕ) → call ≡ Capacity → r ≡ capacity → Does capacity nodes call (Number r) nodes
    does_capacity r is value = subst (λ k. Does capacity nodes k (Number r) nodes) (sym is) (subst (λ n. Does capacity nodes Capacity (Number n) nodes) (sym value) tells_capacity)

    pub does_len : (r : ℕ) → call ≡ Len → r ≡ length nodes → Does capacity nodes call (Number r) nodes
    does_len r is value = subst (λ k. Does capacity nodes k (Number r) nodes) (sym is) (subst (λ n. Does capacity nodes Len (Number n) nodes) (sym value) tells_len)

    pub does_read : (place : ℕ) (r : Option Node) → call ≡ NodeAt place → r ≡ slice_get nodes place → Does capacity nodes call (Held r) nodes
    does_read place r is value = subst (λ k. Does capacity nodes k (Held r) nodes) (sym is) (subst (λ n. Does capacity nodes (NodeAt place) (Held n) nodes) (sym value) (reads place))

  -- ---- find_or_add has one outcome

  pub one_outcome : (nodes : List Node) (n : Node) → Distinct nodes → (r s : Result ℕ Fault) (x y : List Node) → FindsOrAdds capacity nodes n r x → FindsOrAdds capacity nodes n s y → (r ≡ s) × (x ≡ y)
  one_outcome nodes n distinct _ _ _ _ (found p at_p) (found q at-q) = (ap Ok (distinct p q n at_p at-q), refl)
  one_outcome nodes n distinct _ _ _ _ (found p at_p) (appended none room) = absurd (none p at_p)
  one_outcome nodes n distinct _ _ _ _ (found p at_p) (refused none full) = absurd (none p at_p)
  one_outcome nodes n distinct _ _ _ _ (appended none room) (found q at-q) = absurd (none q at-q)
  one_outcome nodes n distinct _ _ _ _ (appended none room) (appended none' room') = (refl, refl)
  one_outcome nodes n distinct _ _ _ _ (appended none room) (refused none' full) = absurd (omega arith)
  one_outcome nodes n distinct _ _ _ _ (refused none full) (found q at-q) = absurd (none q at-q)
  one_outcome nodes n distinct _ _ _ _ (refused none full) (appended none' room) = absurd (omega arith)
  one_outcome nodes n distinct _ _ _ _ (refused none full) (refused none' full') = (refl, refl)

  pub distinct_sought : (nodes : List Node) (n : Node) (r : Result ℕ Fault) (after : List Node) → Distinct nodes → FindsOrAdds capacity nodes n r after → Distinct after
  distinct_sought nodes n _ _ distinct (found p at_p) = distinct
  distinct_sought nodes n _ _ distinct (appended none room) = distinct_more nodes n distinct none
  distinct_sought nodes n _ _ distinct (refused none full) = distinct

  -- ---- so has every call

  distinct_does : (nodes : List Node) (call : StoreCall) (r : StoreAnswer) (after : List Node) → Distinct nodes → Does capacity nodes call r after → Distinct after
  distinct_does nodes _ _ _ distinct clears = distinct_none
  distinct_does nodes _ _ _ distinct (seeks {n} {r} {after} s) = distinct_sought nodes n r after distinct s
  distinct_does nodes _ _ _ distinct (cuts count) = distinct_cut nodes count distinct
  distinct_does nodes _ _ _ distinct tells_capacity = distinct
  distinct_does nodes _ _ _ distinct tells_len = distinct
  distinct_does nodes _ _ _ distinct (reads place) = distinct

  one_answer : (nodes : List Node) (call : StoreCall) (r s : StoreAnswer) (x y : List Node) → Distinct nodes → Does capacity nodes call r x → Does capacity nodes call s y → (r ≡ s) × (x ≡ y)
  one_answer nodes _ _ _ _ _ distinct clears clears = (refl, refl)
  one_answer nodes _ _ _ _ _ distinct (seeks {n = n} {r = r} {after = x} p) (seeks {r = s} {after = y} q) = let same = one_outcome nodes n distinct r s x y p q in (ap Placed same.0, same.1)
  one_answer nodes _ _ _ _ _ distinct (cuts count) (cuts _) = (refl, refl)
  one_answer nodes _ _ _ _ _ distinct tells_capacity tells_capacity = (refl, refl)
  one_answer nodes _ _ _ _ _ distinct tells_len tells_len = (refl, refl)
  one_answer nodes _ _ _ _ _ distinct (reads place) (reads _) = (refl, refl)

  one_run : (nodes : List Node) (calls : List StoreCall) (a b : List Step) → Distinct nodes → Runs capacity nodes calls a → Runs capacity nodes calls b → a ≡ b
  one_run nodes _ _ _ distinct ends ends = refl
  one_run nodes _ _ _ distinct (then {after = x} {call = call} {answer = r} {calls = calls} {steps = a} p run) (then {after = y} {answer = s} {steps = b} q other) =
      let same = one_answer nodes call r s x y distinct p q in
      let here : Runs capacity x calls b = subst (λ z. Runs capacity z calls b) (sym same.1) other in
      let rest = one_run x calls a b (distinct_does nodes call r x distinct p) run here in
      λ i. record { answer = same.0 i; nodes = same.1 i } ∷ rest i

  pub alike : Alike capacity
  alike calls a b = one_run [] calls a b distinct_none

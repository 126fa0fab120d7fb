-- The first byte that fails a test, by the place that `position` answers.
use Rattle.std.proofs.Common.{◌≡◌, ℕ, ◌<◌, Bool, true, false, not, ltb, List, [], ◌∷◌, length, get_or, take, Some, None, MatchOption, Option, sym, refl, ap, ◌∙◌, subst, ⊎_elim, arith, ltb-false}
use Rattle.std.proofs.lemmas.Bool.{and_from, cases_Bool, cond-true, cond-false}
use Rattle.std.proofs.lemmas.List.{take_all}
use Rattle.std.proofs.lemmas.List.Quantifiers.{position-Some}
use Rattle.std.specs.List.{position, position_or_len}
use Rattle.model.specs.Names.{every}
use Rattle.sheets.proofs.Words.{prefix_more, prefix_none}

module _ (fails passes : ℕ → Bool) (opposite : (b : ℕ) → passes b ≡ not (fails b)) where
  until : (xs : List ℕ) → every passes (take (position_or_len fails xs) xs) ≡ true
  until [] = refl
  until (x ∷ xs) =
      let E : ℕ → Type 0 = λ n. every passes (take n (x ∷ xs)) ≡ true in
      ⊎_elim
      (λ bad. subst E (sym (prefix_none (λ b. not (fails b)) x xs (ap not bad))) refl)
      (λ good. subst E (sym (prefix_more (λ b. not (fails b)) x xs (ap not good))) (and_from (passes x) _ (opposite x ∙ ap not good) (until xs)))
      (cases_Bool (fails x))

  pub first_fails : (xs : List ℕ) (r : Option ℕ) → r ≡ position fails xs → MatchOption r (every passes xs ≡ true) (λ i. (i < length xs) × (every passes (take i xs) ≡ true) × (passes (get_or xs i 0) ≡ false))
  first_fails xs r e =
      let n = position_or_len fails xs in
      let F : Option ℕ → Type 0 = λ r. MatchOption r (every passes xs ≡ true) (λ i. (i < length xs) × (every passes (take i xs) ≡ true) × (passes (get_or xs i 0) ≡ false)) in
      ⊎_elim
      (λ found.
      let is : position fails xs ≡ Some n = cond-true (ltb n (length xs)) (Some n) None found in
      let at = position-Some fails xs n 0 is in
      subst F (sym (e ∙ is)) (at.0, until xs, opposite (get_or xs n 0) ∙ ap not at.1))
      (λ none.
      let is : position fails xs ≡ None = cond-false (ltb n (length xs)) (Some n) None none in
      subst F (sym (e ∙ is)) (ap (every passes) (sym (take_all n xs (omega (arith, ltb-false, none)))) ∙ until xs))
      (cases_Bool (ltb n (length xs)))

-- Characters that are tokens by themselves.
use Rattle.std.proofs.Common.{◌≡◌, ℕ, Bool, true, false, cond, eqb, List, [], ◌∷◌, sym, ap, ◌∙◌, subst, ⊎_elim}
use Rattle.std.proofs.lemmas.Bool.{eqb-true, cases_Bool}
use Rattle.model.specs.Names.{is_word_byte}
use Rattle.sheets.specs.Tokens.{sign, Next}
use Rattle.sheets.specs.declared.token.Token.{Token}

module _ (ts : List (List ℕ)) (c : ℕ) (rest : List (List ℕ)) (e : ts ≡ (c ∷ []) ∷ rest) where
  at_code : (k : ℕ) → eqb c k ≡ true → ts ≡ (k ∷ []) ∷ rest
  at_code k h = e ∙ ap (λ n. (n ∷ []) ∷ rest) (eqb-true c k h)

  -- one case of `sign`: this character, or one of those below
  one_of : (k : ℕ) (t u : Token) → (ts ≡ (k ∷ []) ∷ rest → Next ts t rest) → (eqb c k ≡ false → Next ts u rest) → Next ts (cond (eqb c k) t u) rest
  one_of k t u this other =
      ⊎_elim
      (λ h. let N : Bool → Type 0 = λ b. Next ts (cond b t u) rest in subst N (sym h) (this (at_code k h)))
      (λ h. let N : Bool → Type 0 = λ b. Next ts (cond b t u) rest in subst N (sym h) (other h))
      (cases_Bool (eqb c k))

  pub next_sign : is_word_byte c ≡ false → Next ts (sign c) rest
  next_sign plain =
      one_of 83 _ _ (λ q. q) (λ h1. one_of 80 _ _ (λ q. q) (λ h2. one_of 78 _ _ (λ q. q) (λ h3.
      one_of 61 _ _ (λ q. q) (λ h4. one_of 124 _ _ (λ q. q) (λ h5. one_of 43 _ _ (λ q. q) (λ h6. one_of 45 _ _ (λ q. q) (λ h7. one_of 42 _ _ (λ q. q) (λ h8.
      one_of 33 _ _ (λ q. q) (λ h9. one_of 40 _ _ (λ q. q) (λ h10. one_of 41 _ _ (λ q. q) (λ h11.
      (e, plain, rw (h1, h2, h3, h4, h5, h6, h7, h8, h9, h10, h11)))))))))))))

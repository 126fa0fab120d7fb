-- What holds of each byte of a list.
use Rattle.std.proofs.Common.{◌≡◌, ℕ, zero, suc, ◌+◌, ◌<◌, Bool, true, ◌&&◌, List, [], ◌∷◌, ◌++◌, length, get_or, take, replicate, refl, ap, ◌∙◌, arith}
use Rattle.std.proofs.lemmas.List.{take_more}
use Rattle.std.proofs.lemmas.Bool.{and_parts, and_from}
use Rattle.model.specs.Names.{every}

module _ (test : ℕ → Bool) where
  pub every_at : (xs : List ℕ) (i : ℕ) → i < length xs → every test xs ≡ true → test (get_or xs i 0) ≡ true
  every_at [] i lt h = absurd (omega arith)
  every_at (x ∷ xs) zero lt h = (and_parts (test x) (every test xs) h).0
  every_at (x ∷ xs) (suc i) lt h = every_at xs i (omega arith) (and_parts (test x) (every test xs) h).1

  pub every_replicate : (n x : ℕ) → test x ≡ true → every test (replicate n x) ≡ true
  every_replicate zero x h = refl
  every_replicate (suc n) x h = ap (λ t. t && every test (replicate n x)) h ∙ every_replicate n x h

  pub every_append : (xs ys : List ℕ) → every test xs ≡ true → every test ys ≡ true → every test (xs ++ ys) ≡ true
  every_append [] ys h k = k
  every_append (x ∷ xs) ys h k =
      let both = and_parts (test x) (every test xs) h in
      and_from (test x) (every test (xs ++ ys)) both.0 (every_append xs ys both.1 k)

  pub every_push : (xs : List ℕ) (i : ℕ) → i < length xs → every test (take i xs) ≡ true → test (get_or xs i 0) ≡ true → every test (take (i + 1) xs) ≡ true
  every_push xs i lt so here =
      ap (every test) (take_more xs i 0 lt) ∙ every_append (take i xs) (get_or xs i 0 ∷ []) so (and_from (test (get_or xs i 0)) true here refl)

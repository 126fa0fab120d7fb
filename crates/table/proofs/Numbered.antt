-- The element at a place of a list, if there is one.
use Rattle.std.proofs.Common.{◌≡◌, ℕ, zero, suc, ◌+◌, ◌<◌, List, [], ◌∷◌, ◌++◌, length, take, Some, refl, ap, ◌∙◌, arith}
use Rattle.std.proofs.lemmas.Option.{none-some, same_Some}
use Rattle.std.specs.List.{slice_get}

module _ {X : Type 0} where
  pub nth_some : (xs : List X) (i : ℕ) → i < length xs → (x : X) × (slice_get xs i ≡ Some x)
  nth_some [] i lt = absurd (omega arith)
  nth_some (x ∷ xs) zero lt = (x, refl)
  nth_some (x ∷ xs) (suc i) lt = nth_some xs i (omega arith)

  pub nth_before : (xs ys : List X) (i : ℕ) → i < length xs → slice_get (xs ++ ys) i ≡ slice_get xs i
  nth_before [] ys i lt = absurd (omega arith)
  nth_before (x ∷ xs) ys zero lt = refl
  nth_before (x ∷ xs) ys (suc i) lt = nth_before xs ys i (omega arith)

  pub nth_here : (xs : List X) (y : X) (ys : List X) (i : ℕ) → i ≡ length xs → slice_get (xs ++ (y ∷ ys)) i ≡ Some y
  nth_here [] y ys i e = ap (slice_get (y ∷ ys)) e
  nth_here (x ∷ xs) y ys i e = ap (slice_get (x ∷ (xs ++ (y ∷ ys)))) e ∙ nth_here xs y ys (length xs) refl

  pub nth_take : (n : ℕ) (xs : List X) (i : ℕ) → i < n → slice_get (take n xs) i ≡ slice_get xs i
  nth_take zero xs i lt = absurd (omega arith)
  nth_take (suc n) [] i lt = refl
  nth_take (suc n) (x ∷ xs) zero lt = refl
  nth_take (suc n) (x ∷ xs) (suc i) lt = nth_take n xs i (omega arith)

  -- a list that is not empty, by its last element
  pub split_last : (xs : List X) (n : ℕ) (x : X) → length xs ≡ n + 1 → slice_get xs n ≡ Some x → xs ≡ take n xs ++ (x ∷ [])
  split_last [] n x long e = absurd (none-some x e)
  split_last (y ∷ []) zero x long e = ap (λ z. z ∷ []) (same_Some y x e)
  split_last (y ∷ z ∷ xs) zero x long e = absurd (omega arith)
  split_last (y ∷ xs) (suc n) x long e = ap (λ zs. y ∷ zs) (split_last xs n x (omega arith) e)

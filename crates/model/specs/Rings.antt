-- What an arithmetic on 32-bit numbers is: its values, its operations, and the seven laws.
use Rattle.std.specs.Prelude.{◌≡◌, ℕ, Bool, T}

-- which numbers are values, and the operations on them
pub record Ring : Type 0 where
  pub value : ℕ → Bool
  pub zero : ℕ
  pub one : ℕ
  pub sum : ℕ → ℕ → ℕ
  pub product : ℕ → ℕ → ℕ
  pub minus : ℕ → ℕ

-- the operations stay among the values
pub record Closed (R : Ring) : Type 0 where
  pub zero_value : T (R.value R.zero)
  pub one_value : T (R.value R.one)
  pub sum_value : (a b : ℕ) → T (R.value a) → T (R.value b) → T (R.value (R.sum a b))
  pub product_value : (a b : ℕ) → T (R.value a) → T (R.value b) → T (R.value (R.product a b))
  pub minus_value : (a : ℕ) → T (R.value a) → T (R.value (R.minus a))

-- the seven laws, each for values only
pub record Laws (R : Ring) : Type 0 where
  pub sum_assoc : (a b c : ℕ) → T (R.value a) → T (R.value b) → T (R.value c) → R.sum (R.sum a b) c ≡ R.sum a (R.sum b c)
  pub sum_comm : (a b : ℕ) → T (R.value a) → T (R.value b) → R.sum a b ≡ R.sum b a
  pub sum_zero : (a : ℕ) → T (R.value a) → R.sum R.zero a ≡ a
  pub sum_minus : (a : ℕ) → T (R.value a) → R.sum a (R.minus a) ≡ R.zero
  pub product_comm : (a b : ℕ) → T (R.value a) → T (R.value b) → R.product a b ≡ R.product b a
  pub product_sum : (a b c : ℕ) → T (R.value a) → T (R.value b) → T (R.value c) → R.product a (R.sum b c) ≡ R.sum (R.product a b) (R.product a c)
  pub product_one : (a : ℕ) → T (R.value a) → R.product R.one a ≡ a

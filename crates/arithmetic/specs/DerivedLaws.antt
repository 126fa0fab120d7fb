-- Laws that follow from the seven, for the values of every arithmetic.
use Rattle.std.specs.Prelude.{◌≡◌, ℕ, T}
use Rattle.model.specs.Rings.{Ring}

pub record DerivedLaws (R : Ring) : Type 0 where
  pub sum_cancel : (a b c : ℕ) → T (R.value a) → T (R.value b) → T (R.value c) → R.sum a b ≡ R.sum a c → b ≡ c
  pub product_zero : (a : ℕ) → T (R.value a) → R.product R.zero a ≡ R.zero
  pub minus_zero : R.minus R.zero ≡ R.zero
  pub minus_minus : (a : ℕ) → T (R.value a) → R.minus (R.minus a) ≡ a
  pub minus_sum : (a b : ℕ) → T (R.value a) → T (R.value b) → R.minus (R.sum a b) ≡ R.sum (R.minus a) (R.minus b)
  -- if zero equals one, zero is the only value
  pub zero_alone : R.zero ≡ R.one → (a : ℕ) → T (R.value a) → a ≡ R.zero

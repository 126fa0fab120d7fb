-- More of what follows from the seven laws, for the values of every ring that has them.
use Rattle.std.proofs.Common.{◌≡◌, ℕ, T, sym, ap, ◌∙◌, ap₂}
use Rattle.model.specs.Rings.{Ring, Closed, Laws}
use Rattle.arithmetic.proofs.RingLaws.{product_zero}

module _ (R : Ring) (closed : Closed R) (laws : Laws R) where
  abbrev V : ℕ → Type 0
  V n = T (R.value n)

  pub product_one_right : (a : ℕ) → V a → R.product a R.one ≡ a
  product_one_right a p = laws.product_comm a R.one p closed.one_value ∙ laws.product_one a p

  pub product_zero_right : (a : ℕ) → V a → R.product a R.zero ≡ R.zero
  product_zero_right a p = laws.product_comm a R.zero p closed.zero_value ∙ product_zero R closed laws a p

  pub product_sum_right : (a b c : ℕ) → V a → V b → V c → R.product (R.sum a b) c ≡ R.sum (R.product a c) (R.product b c)
  product_sum_right a b c p q r =
      laws.product_comm (R.sum a b) c (closed.sum_value a b p q) r ∙ laws.product_sum c a b r p q
      ∙ ap₂ R.sum (laws.product_comm c a r p) (laws.product_comm c b r q)

  -- (a + b) + (c + d) is (a + c) + (b + d)
  pub sum_interchange : (a b c d : ℕ) → V a → V b → V c → V d → R.sum (R.sum a b) (R.sum c d) ≡ R.sum (R.sum a c) (R.sum b d)
  sum_interchange a b c d p q r s =
      let bd = closed.sum_value b d q s in
      let cd = closed.sum_value c d r s in
      let inner : R.sum b (R.sum c d) ≡ R.sum c (R.sum b d) =
      sym (laws.sum_assoc b c d q r s) ∙ ap (λ n. R.sum n d) (laws.sum_comm b c q r) ∙ laws.sum_assoc c b d r q s in
      laws.sum_assoc a b (R.sum c d) p q cd ∙ ap (R.sum a) inner ∙ sym (laws.sum_assoc a c (R.sum b d) p r bd)

-- Sum, minus and product of two nodes of one fact, by their children: why the recipe may work on lows and highs.
use Rattle.std.proofs.Common.{◌≡◌, ℕ, Bool, true, false, T, sym, refl, ap, ◌∙◌, ap₂}
use Rattle.model.specs.Rings.{Ring, Closed, Laws}
use Rattle.kfdd.specs.Values.{mix}
use Rattle.arithmetic.proofs.RingLaws.{minus_sum}
use Rattle.kfdd.proofs.RingMore.{product_sum_right, sum_interchange}
use Rattle.model.specs.declared.decomposition.Decomposition.{Decomposition}
use Rattle.model.specs.declared.decomposition.Decomposition.TheVariants.{Shannon, PositiveDavio, NegativeDavio}

-- the high of a product: high × high for S, (high × high + low × high) + high × low for P and N
abbrev pub product_high : Ring → Decomposition → ℕ → ℕ → ℕ → ℕ → ℕ
product_high R Shannon a₀ a₁ b₀ b₁ = R.product a₁ b₁
product_high R PositiveDavio a₀ a₁ b₀ b₁ = R.sum (R.sum (R.product a₁ b₁) (R.product a₀ b₁)) (R.product a₁ b₀)
product_high R NegativeDavio a₀ a₁ b₀ b₁ = R.sum (R.sum (R.product a₁ b₁) (R.product a₀ b₁)) (R.product a₁ b₀)

module _ (R : Ring) (closed : Closed R) (laws : Laws R) where
  abbrev V : ℕ → Type 0
  V n = T (R.value n)

  pub mix_sum : (t : Decomposition) (x : Bool) (a₀ a₁ b₀ b₁ : ℕ) → V a₀ → V a₁ → V b₀ → V b₁
      → mix R t x (R.sum a₀ b₀) (R.sum a₁ b₁) ≡ R.sum (mix R t x a₀ a₁) (mix R t x b₀ b₁)
  mix_sum Shannon false a₀ a₁ b₀ b₁ p q r s = refl
  mix_sum Shannon true a₀ a₁ b₀ b₁ p q r s = refl
  mix_sum PositiveDavio false a₀ a₁ b₀ b₁ p q r s = refl
  mix_sum PositiveDavio true a₀ a₁ b₀ b₁ p q r s = sum_interchange R closed laws a₀ b₀ a₁ b₁ p r q s
  mix_sum NegativeDavio false a₀ a₁ b₀ b₁ p q r s = sum_interchange R closed laws a₀ b₀ a₁ b₁ p r q s
  mix_sum NegativeDavio true a₀ a₁ b₀ b₁ p q r s = refl

  pub mix_minus : (t : Decomposition) (x : Bool) (a₀ a₁ : ℕ) → V a₀ → V a₁ → mix R t x (R.minus a₀) (R.minus a₁) ≡ R.minus (mix R t x a₀ a₁)
  mix_minus Shannon false a₀ a₁ p q = refl
  mix_minus Shannon true a₀ a₁ p q = refl
  mix_minus PositiveDavio false a₀ a₁ p q = refl
  mix_minus PositiveDavio true a₀ a₁ p q = sym (minus_sum R closed laws a₀ a₁ p q)
  mix_minus NegativeDavio false a₀ a₁ p q = sym (minus_sum R closed laws a₀ a₁ p q)
  mix_minus NegativeDavio true a₀ a₁ p q = refl

  -- a₀b₀ + ((a₁b₁ + a₀b₁) + a₁b₀) is (a₀ + a₁)(b₀ + b₁)
  davio_product : (a₀ a₁ b₀ b₁ : ℕ) → V a₀ → V a₁ → V b₀ → V b₁
      → R.sum (R.product a₀ b₀) (R.sum (R.sum (R.product a₁ b₁) (R.product a₀ b₁)) (R.product a₁ b₀)) ≡ R.product (R.sum a₀ a₁) (R.sum b₀ b₁)
  davio_product a₀ a₁ b₀ b₁ p q r s =
      let m : (a b : ℕ) → V a → V b → V (R.product a b) = closed.product_value in
      let ll = m a₀ b₀ p r in
      let hh = m a₁ b₁ q s in
      let lh = m a₀ b₁ p s in
      let hl = m a₁ b₀ q r in
      let b = closed.sum_value b₀ b₁ r s in
      let order : R.sum (R.sum (R.product a₁ b₁) (R.product a₀ b₁)) (R.product a₁ b₀) ≡ R.sum (R.product a₀ b₁) (R.sum (R.product a₁ b₀) (R.product a₁ b₁)) =
      ap (λ n. R.sum n (R.product a₁ b₀)) (laws.sum_comm (R.product a₁ b₁) (R.product a₀ b₁) hh lh)
      ∙ laws.sum_assoc (R.product a₀ b₁) (R.product a₁ b₁) (R.product a₁ b₀) lh hh hl
      ∙ ap (R.sum (R.product a₀ b₁)) (laws.sum_comm (R.product a₁ b₁) (R.product a₁ b₀) hh hl) in
      ap (R.sum (R.product a₀ b₀)) order
      ∙ sym (laws.sum_assoc (R.product a₀ b₀) (R.product a₀ b₁) (R.sum (R.product a₁ b₀) (R.product a₁ b₁)) ll lh (closed.sum_value (R.product a₁ b₀) (R.product a₁ b₁) hl hh))
      ∙ sym (product_sum_right R closed laws a₀ a₁ (R.sum b₀ b₁) p q b ∙ ap₂ R.sum (laws.product_sum a₀ b₀ b₁ p r s) (laws.product_sum a₁ b₀ b₁ q r s))

  pub mix_product : (t : Decomposition) (x : Bool) (a₀ a₁ b₀ b₁ : ℕ) → V a₀ → V a₁ → V b₀ → V b₁
      → mix R t x (R.product a₀ b₀) (product_high R t a₀ a₁ b₀ b₁) ≡ R.product (mix R t x a₀ a₁) (mix R t x b₀ b₁)
  mix_product Shannon false a₀ a₁ b₀ b₁ p q r s = refl
  mix_product Shannon true a₀ a₁ b₀ b₁ p q r s = refl
  mix_product PositiveDavio false a₀ a₁ b₀ b₁ p q r s = refl
  mix_product PositiveDavio true a₀ a₁ b₀ b₁ p q r s = davio_product a₀ a₁ b₀ b₁ p q r s
  mix_product NegativeDavio false a₀ a₁ b₀ b₁ p q r s = davio_product a₀ a₁ b₀ b₁ p q r s
  mix_product NegativeDavio true a₀ a₁ b₀ b₁ p q r s = refl

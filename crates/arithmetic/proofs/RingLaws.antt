-- What follows from the seven laws, for the values of every ring that has them.
use Rattle.std.proofs.Common.{◌≡◌, ℕ, T, sym, ap, ◌∙◌}
use Rattle.model.specs.Rings.{Ring, Closed, Laws}
use Rattle.arithmetic.specs.DerivedLaws.{DerivedLaws}

module _ (R : Ring) (closed : Closed R) (laws : Laws R) where
  abbrev V : ℕ → Type 0
  V n = T (R.value n)

  -- two of the laws the other way round
  pub sum_zero_right : (a : ℕ) → V a → R.sum a R.zero ≡ a
  sum_zero_right a p = laws.sum_comm a R.zero p closed.zero_value ∙ laws.sum_zero a p

  minus_first : (a : ℕ) → V a → R.sum (R.minus a) a ≡ R.zero
  minus_first a p = laws.sum_comm (R.minus a) a (closed.minus_value a p) p ∙ laws.sum_minus a p

  undo : (a h : ℕ) → V a → V h → R.sum (R.minus a) (R.sum a h) ≡ h
  undo a h p q =
      sym (laws.sum_assoc (R.minus a) a h (closed.minus_value a p) p q) ∙ ap (λ s. R.sum s h) (minus_first a p) ∙ laws.sum_zero h q

  pub cancel : (a h k : ℕ) → V a → V h → V k → R.sum a h ≡ R.sum a k → h ≡ k
  cancel a h k p q r e = sym (undo a h p q) ∙ ap (R.sum (R.minus a)) e ∙ undo a k p r

  pub adds_nothing : (a h : ℕ) → V a → V h → R.sum a h ≡ a → h ≡ R.zero
  adds_nothing a h p q e =
      cancel a h R.zero p q closed.zero_value (e ∙ sym (sum_zero_right a p))

  pub product_zero : (a : ℕ) → V a → R.product R.zero a ≡ R.zero
  product_zero a p =
      let z = closed.zero_value in
      let n = R.product a R.zero in
      let v = closed.product_value a R.zero p z in
      let twice : R.sum n n ≡ n = sym (laws.product_sum a R.zero R.zero p z z) ∙ ap (R.product a) (laws.sum_zero R.zero z) in
      laws.product_comm R.zero a z p ∙ adds_nothing n n v v twice

  pub minus_zero : R.minus R.zero ≡ R.zero
  minus_zero =
      let z = closed.zero_value in
      sym (laws.sum_zero (R.minus R.zero) (closed.minus_value R.zero z)) ∙ laws.sum_minus R.zero z

  pub minus_minus : (a : ℕ) → V a → R.minus (R.minus a) ≡ a
  minus_minus a p =
      let n = closed.minus_value a p in
      cancel (R.minus a) (R.minus (R.minus a)) a n (closed.minus_value (R.minus a) n) p (laws.sum_minus (R.minus a) n ∙ sym (minus_first a p))

  pub minus_sum : (a b : ℕ) → V a → V b → R.minus (R.sum a b) ≡ R.sum (R.minus a) (R.minus b)
  minus_sum a b p q =
      let m = closed.minus_value a p in
      let n = closed.minus_value b q in
      let s = closed.sum_value a b p q in
      let t = closed.sum_value (R.minus a) (R.minus b) m n in
      let rest : R.sum b (R.sum (R.minus a) (R.minus b)) ≡ R.minus a =
      ap (R.sum b) (laws.sum_comm (R.minus a) (R.minus b) m n)
      ∙ sym (laws.sum_assoc b (R.minus b) (R.minus a) q n m)
      ∙ ap (λ k. R.sum k (R.minus a)) (laws.sum_minus b q)
      ∙ laws.sum_zero (R.minus a) m in
      let nothing : R.sum (R.sum a b) (R.sum (R.minus a) (R.minus b)) ≡ R.zero =
      laws.sum_assoc a b (R.sum (R.minus a) (R.minus b)) p q t ∙ ap (R.sum a) rest ∙ laws.sum_minus a p in
      cancel (R.sum a b) (R.minus (R.sum a b)) (R.sum (R.minus a) (R.minus b)) s (closed.minus_value (R.sum a b) s) t (laws.sum_minus (R.sum a b) s ∙ sym nothing)

  zero_alone : R.zero ≡ R.one → (a : ℕ) → V a → a ≡ R.zero
  zero_alone e a p = sym (laws.product_one a p) ∙ ap (λ k. R.product k a) (sym e) ∙ product_zero a p

  pub derived_laws : DerivedLaws R
  derived_laws = record {
    sum_cancel = cancel;
    product_zero = product_zero;
    minus_zero = minus_zero;
    minus_minus = minus_minus;
    minus_sum = minus_sum;
    zero_alone = zero_alone;
  }

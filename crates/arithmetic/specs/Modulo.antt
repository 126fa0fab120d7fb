-- The laws of counting modulo a number.
use Rattle.std.specs.Prelude.{◌≡◌, ℕ, ◌+◌, ◌-◌, ◌*◌, ◌/◌, ◌%◌, ◌<◌, T, nat_lt}
use Rattle.std.proofs.Common.{sym, ap, ◌∙◌, ltb→lt, lt→ltb, arith, add_assoc, add_comm, mod-eq_of_lt, mod-lt, mul-add, mul_comm, mul_left_comm, one-mul, zero-add}
use Rattle.std.proofs.Math.Nat.{add-mod-mod, add-mul-mod_self_left, mod-add-div, mod-add-mod, mod_self}
use Rattle.model.specs.Rings.{Closed, Laws}
use Rattle.arithmetic.specs.Amounts.{modulo}

module _ (m : ℕ) (big : 1 < m) where
  below : (n : ℕ) → T (nat_lt (n % m) m)
  below n = let pos : 0 < m = omega arith in lt→ltb (n % m) m (mod-lt n pos)

  -- a factor may be reduced first
  product_mod : (a b : ℕ) → a * (b % m) % m ≡ a * b % m
  product_mod a b =
      let split : a * b ≡ a * (b % m) + m * (a * (b / m)) = ap (λ n. a * n) (sym (mod-add-div b m)) ∙ mul-add a (b % m) (m * (b / m)) ∙ ap (λ n. a * (b % m) + n) (mul_left_comm a m (b / m)) in
      sym (ap (λ n. n % m) split ∙ add-mul-mod_self_left (a * (b % m)) m (a * (b / m)))

  pub modulo_closed : Closed (modulo m)
  modulo_closed = record {
    zero_value = lt→ltb 0 m (omega arith);
    one_value = lt→ltb 1 m big;
    sum_value = λ a b v w. below (a + b);
    product_value = λ a b v w. below (a * b);
    minus_value = λ a v. below (m - a);
  }

  pub modulo_laws : Laws (modulo m)
  modulo_laws = record {
    sum_assoc = λ a b c u v w. mod-add-mod (a + b) m c ∙ ap (λ n. n % m) (add_assoc a b c) ∙ sym (add-mod-mod a (b + c) m);
    sum_comm = λ a b v w. ap (λ n. n % m) (add_comm a b);
    sum_zero = λ a v. let lt = ltb→lt a m v in ap (λ n. n % m) (zero-add a) ∙ mod-eq_of_lt lt;
    sum_minus = λ a v.
        let lt = ltb→lt a m v in
        let e : a + (m - a) ≡ m = omega arith in
        add-mod-mod a (m - a) m ∙ ap (λ n. n % m) e ∙ mod_self m;
    product_comm = λ a b v w. ap (λ n. n % m) (mul_comm a b);
    product_sum = λ a b c u v w.
        product_mod a (b + c) ∙ ap (λ n. n % m) (mul-add a b c)
        ∙ sym (mod-add-mod (a * b) m (a * c % m) ∙ add-mod-mod (a * b) (a * c) m);
    product_one = λ a v. let lt = ltb→lt a m v in ap (λ n. n % m) (one-mul a) ∙ mod-eq_of_lt lt;
  }

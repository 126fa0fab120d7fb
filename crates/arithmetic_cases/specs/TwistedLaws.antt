-- The laws of the twisted arithmetic, tried at all its values.
use Rattle.std.specs.Prelude.{◌≡◌, ℕ, zero, suc, ◌+◌, ◌-◌, ◌/◌, ◌<◌, Bool, true, ◌&&◌, T, nat_eq, refl}
use Rattle.std.proofs.Common.{⊎_elim, sym, subst, eqb→eq, arith}
use Rattle.std.proofs.lemmas.Bool.{and_parts, cases_lt, eqb-true}
use Rattle.model.specs.Rings.{Closed, Laws}
use Rattle.arithmetic_cases.specs.Twisted.{twisted}

below : ℕ → (ℕ → Bool) → Bool
below zero test = true
below (suc n) test = test n && below n test

at_below : (n : ℕ) (test : ℕ → Bool) → below n test ≡ true → (k : ℕ) → k < n → test k ≡ true
unfolding below
at_below zero test all k h = absurd (omega arith)
at_below (suc n) test all k h =
    let parts = and_parts (test n) (below n test) all in
    ⊎_elim (at_below n test parts.1 k) (λ le. let last : n ≡ k = omega arith in let P : ℕ → Type 0 = λ j. test j ≡ true in subst P last parts.0) (cases_lt k n)

abbrev V : ℕ → Type 0
V a = T (twisted.value a)

-- the test comes out true at every value
all : (ℕ → Bool) → Bool
all test = below 8 (λ k. test (8 + k))

by_all : (test : ℕ → Bool) → all test ≡ true → (a : ℕ) → V a → test a ≡ true
unfolding all
by_all test every a v =
    let e : a / 8 ≡ 1 = eqb→eq (a / 8) 1 v in
    let is : 8 + (a - 8) ≡ a = omega arith in
    let P : ℕ → Type 0 = λ j. test j ≡ true in
    subst P is (at_below 8 (λ k. test (8 + k)) every (a - 8) (omega arith))

by_two : (test : ℕ → ℕ → Bool) → all (λ a. all (test a)) ≡ true → (a b : ℕ) → V a → V b → test a b ≡ true
by_two test every a b v w = by_all (test a) (by_all (λ c. all (test c)) every a v) b w

by_three : (test : ℕ → ℕ → ℕ → Bool) → all (λ a. all (λ b. all (test a b))) ≡ true → (a b c : ℕ) → V a → V b → V c → test a b c ≡ true
by_three test every a b c u v w = by_two (test a) (by_all (λ d. all (λ e. all (test d e))) every a u) b c v w

true_t : {b : Bool} → b ≡ true → T b
true_t e = subst T (sym e) tt

pub twisted_closed : Closed twisted
unfolding all below
twisted_closed = record {
  zero_value = tt;
  one_value = tt;
  sum_value = λ a b v w. true_t (by_two (λ d e. twisted.value (twisted.sum d e)) refl a b v w);
  product_value = λ a b v w. true_t (by_two (λ d e. twisted.value (twisted.product d e)) refl a b v w);
  minus_value = λ a v. v;
}

pub twisted_laws : Laws twisted
unfolding all below
twisted_laws = record {
  sum_assoc = λ a b c u v w. eqb-true _ _ (by_three (λ d e f. nat_eq (twisted.sum (twisted.sum d e) f) (twisted.sum d (twisted.sum e f))) refl a b c u v w);
  sum_comm = λ a b v w. eqb-true _ _ (by_two (λ d e. nat_eq (twisted.sum d e) (twisted.sum e d)) refl a b v w);
  sum_zero = λ a v. eqb-true _ _ (by_all (λ d. nat_eq (twisted.sum twisted.zero d) d) refl a v);
  sum_minus = λ a v. eqb-true _ _ (by_all (λ d. nat_eq (twisted.sum d (twisted.minus d)) twisted.zero) refl a v);
  product_comm = λ a b v w. eqb-true _ _ (by_two (λ d e. nat_eq (twisted.product d e) (twisted.product e d)) refl a b v w);
  product_sum = λ a b c u v w. eqb-true _ _ (by_three (λ d e f. nat_eq (twisted.product d (twisted.sum e f)) (twisted.sum (twisted.product d e) (twisted.product d f))) refl a b c u v w);
  product_one = λ a v. eqb-true _ _ (by_all (λ d. nat_eq (twisted.product twisted.one d) d) refl a v);
}

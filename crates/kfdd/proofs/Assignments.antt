-- Assignments to the facts below n, and the numbers below 2 ^ n: each has exactly one of the other.
use Rattle.std.proofs.Common.{◌≡◌, ℕ, zero, suc, ◌+◌, ◌-◌, ◌*◌, ◌/◌, ◌%◌, ◌^◌, ◌<◌, ◌≤◌, Bool, true, false, cond, eqb, sym, refl, ap, ◌∙◌, inl, inr, mod-eq_of_lt, arith, pow_mono}
use Rattle.std.proofs.lemmas.Nat.{pow_pos, pow-add, mod-pow-add, or_shifted, or_comm, shr_high, div-add-mod', div-mul-add, mod_below}
use lib.Bits.{bit_or}
use Rattle.std.proofs.lemmas.Bool.{cases_lt}
use Rattle.model.specs.Assignments.{holds}
use Rattle.arithmetic.proofs.Assignments.{fails_beyond}
use Rattle.kfdd.specs.Assignments.{number, OneNumber}
use Rattle.kfdd.proofs.Ordered.{put}

pub number_below : (n : ℕ) (x : ℕ → Bool) → number n x < 2 ^ n
number_below zero x = omega arith
number_below (suc n) x = elim (x n) as (λ b. number n x + cond b (2 ^ n) 0 < 2 ^ suc n) [ true ↦ omega (arith, number_below n x) | false ↦ omega (arith, number_below n x) ]

high_quotient : (h l p q m : ℕ) → m ≡ p * q → 0 < q → (h * m + l) / q ≡ h * p + l / q
high_quotient h l p q m e pos =
    let s : h * m + l ≡ (h * p + l / q) * q + l % q = omega (arith, ap (λ k. h * k) e, div-add-mod' l q) in
    ap (λ k. k / q) s ∙ div-mul-add (h * p + l / q) q (l % q) (mod_below l q pos)

-- the bits below n of h * 2 ^ n + l are those of l
pub low_bits : (n h l i : ℕ) → i < n → holds (h * 2 ^ n + l) i ≡ holds l i
low_bits n h l i lt =
    let d = n - suc i in
    let e : 2 ^ n ≡ (2 * 2 ^ d) * 2 ^ i = ap (λ m. 2 ^ m) (let k : n ≡ suc d + i = omega arith in k) ∙ pow-add 2 (suc d) i ∙ ap (λ m. m * 2 ^ i) (let k : 2 ^ suc d ≡ 2 * 2 ^ d = omega arith in k) in
    let q = high_quotient h l (2 * 2 ^ d) (2 ^ i) (2 ^ n) e (pow_pos i) in
    let r : (h * 2 ^ n + l) / 2 ^ i % 2 ≡ l / 2 ^ i % 2 = omega (arith, q) in
    ap (λ k. eqb k 1) r

-- the bit at n of b * 2 ^ n + l, for l below 2 ^ n
top_bit : (n l : ℕ) (b : Bool) → l < 2 ^ n → holds (l + cond b (2 ^ n) 0) n ≡ b
top_bit n l true h =
    let e : (l + 2 ^ n) / 2 ^ n ≡ 1 = ap (λ k. k / 2 ^ n) (let k : l + 2 ^ n ≡ 1 * 2 ^ n + l = omega arith in k) ∙ shr_high 1 n l h in
    ap (λ k. eqb (k % 2) 1) e
top_bit n l false h =
    let e : (l + 0) / 2 ^ n ≡ 0 = ap (λ k. k / 2 ^ n) (let k : l + 0 ≡ 0 * 2 ^ n + l = omega arith in k) ∙ shr_high 0 n l h in
    ap (λ k. eqb (k % 2) 1) e

pub holds_number : (n : ℕ) (x : ℕ → Bool) (i : ℕ) → i < n → holds (number n x) i ≡ x i
holds_number zero x i h = absurd (omega arith)
holds_number (suc n) x i h = elim (cases_lt i n) [
  | inl lt ↦ keeps (x n) lt ∙ holds_number n x i lt
  | inr ge ↦ let e : i ≡ n = omega arith in rw e (top_bit n (number n x) (x n) (number_below n x))
]
  where
    keeps : (b : Bool) → i < n → holds (number n x + cond b (2 ^ n) 0) i ≡ holds (number n x) i
    keeps true lt = ap (λ k. holds k i) (let k : number n x + 2 ^ n ≡ 1 * 2 ^ n + number n x = omega arith in k) ∙ low_bits n 1 (number n x) i lt
    keeps false lt = ap (λ k. holds k i) (let k : number n x + 0 ≡ number n x = omega arith in k)

-- only the facts below n count
pub number_agrees : (n : ℕ) (x y : ℕ → Bool) → ((i : ℕ) → i < n → x i ≡ y i) → number n x ≡ number n y
number_agrees zero x y e = refl
number_agrees (suc n) x y e =
    let rest = number_agrees n x y (λ i h. e i (omega arith)) in
    let last : cond (x n) (2 ^ n) 0 ≡ cond (y n) (2 ^ n) 0 = ap (λ (b : Bool). cond b (2 ^ n) 0) (e n (omega arith)) in
    omega arith

bit_value : (m p : ℕ) → cond (eqb (m % 2) 1) p 0 ≡ m % 2 * p
bit_value m p = elim (cases_lt (m % 2) 1) [
  | inl lt ↦ let e : m % 2 ≡ 0 = omega arith in rw e (omega arith)
  | inr ge ↦ let e : m % 2 ≡ 1 = omega arith in rw e (omega arith)
]

number_mod : (n a : ℕ) → number n (holds a) ≡ a % 2 ^ n
number_mod zero a = omega arith
number_mod (suc n) a =
    let e : a % 2 ^ (1 + n) ≡ (a / 2 ^ n % 2) * 2 ^ n + a % 2 ^ n = mod-pow-add a 1 n in
    let s : a % 2 ^ suc n ≡ a % 2 ^ (1 + n) = ap (λ m. a % 2 ^ m) (let k : suc n ≡ 1 + n = omega arith in k) in
    omega (arith, number_mod n a, bit_value (a / 2 ^ n) (2 ^ n))

-- a number below 2 ^ n is that of its own bits
pub number_holds : (n a : ℕ) → a < 2 ^ n → number n (holds a) ≡ a
number_holds n a h = number_mod n a ∙ mod-eq_of_lt h

-- two numbers below 2 ^ n with the same n bits are equal
pub same_bits : (n a b : ℕ) → a < 2 ^ n → b < 2 ^ n → ((i : ℕ) → i < n → holds a i ≡ holds b i) → a ≡ b
same_bits n a b p q e = sym (number_holds n a p) ∙ number_agrees n (holds a) (holds b) e ∙ number_holds n b q

-- no bit of a number below 2 ^ n is at n or beyond
pub no_bit : (n a i : ℕ) → a < 2 ^ n → n ≤ i → holds a i ≡ false
no_bit n a i h le =
    let m : 2 ^ n ≤ 2 ^ i = pow_mono le in
    fails_beyond a i (omega arith)

-- the number with fact f set to b
pub put_number : (n a f : ℕ) (b : Bool) (i : ℕ) → i < n → holds (number n (put (holds a) f b)) i ≡ put (holds a) f b i
put_number n a f b i l = holds_number n (put (holds a) f b) i l

-- one more fact: its bit is set where it holds
pub number_set : (n : ℕ) (x : ℕ → Bool) → x n ≡ true → bit_or (number n x) (2 ^ n) ≡ number (n + 1) x
number_set n x e =
    let below = number_below n x in
    let sum : bit_or (1 * 2 ^ n) (number n x) ≡ 1 * 2 ^ n + number n x = or_shifted 1 n (number n x) below in
    let last : number (suc n) x ≡ number n x + 2 ^ n = ap (λ (b : Bool). number n x + cond b (2 ^ n) 0) e in
    or_comm (number n x) (2 ^ n) ∙ ap (λ m. bit_or m (number n x)) (let k : 2 ^ n ≡ 1 * 2 ^ n = omega arith in k) ∙ sum
    ∙ (let k : 1 * 2 ^ n + number n x ≡ number (suc n) x = omega arith in k) ∙ ap (λ m. number m x) (let k : suc n ≡ n + 1 = omega arith in k)

pub number_stays : (n : ℕ) (x : ℕ → Bool) → x n ≡ false → number n x ≡ number (n + 1) x
number_stays n x e =
    let last : number (suc n) x ≡ number n x + 0 = ap (λ (b : Bool). number n x + cond b (2 ^ n) 0) e in
    (let k : number n x ≡ number (suc n) x = omega arith in k) ∙ ap (λ m. number m x) (let k : suc n ≡ n + 1 = omega arith in k)

pub one_number : (n : ℕ) (x : ℕ → Bool) → OneNumber n x
one_number n x = record {
  below = number_below n x;
  agrees = holds_number n x;
  only = λ y h same. same_bits n y (number n x) h (number_below n x) (λ i l. same i l ∙ sym (holds_number n x i l));
}

-- Counting the numbers below a bound that pass a test, and the pigeonhole.
use Rattle.std.proofs.Common.{◌≡◌, ℕ, zero, suc, ◌+◌, ◌-◌, ◌<◌, ◌≤◌, Bool, true, false, cond, eqb, ◌⊎◌, sym, refl, ap, ◌∙◌, inl, inr, arith}
use Rattle.std.proofs.lemmas.Bool.{cases_eq, eq-eqb, ne_eqb, false≢true}
use Rattle.kfdd.specs.Reaching.{count_below}

pub count_yes : (k : ℕ) (test : ℕ → Bool) → test k ≡ true → count_below (suc k) test ≡ count_below k test + 1
count_yes k test e = ap (λ (b : Bool). count_below k test + cond b 1 0) e

pub count_no : (k : ℕ) (test : ℕ → Bool) → test k ≡ false → count_below (suc k) test ≡ count_below k test
count_no k test e = ap (λ (b : Bool). count_below k test + cond b 1 0) e ∙ (let z : count_below k test + 0 ≡ count_below k test = omega arith in z)

pub count_grows : (d k : ℕ) (test : ℕ → Bool) → count_below k test ≤ count_below (d + k) test
count_grows zero k test = let e : 0 + k ≡ k = omega arith in rw e (omega arith)
count_grows (suc d) k test =
    let e : suc d + k ≡ suc (d + k) = omega arith in
    rw e (omega (arith, count_grows d k test))

pub count_mono : (j k : ℕ) (test : ℕ → Bool) → j ≤ k → count_below j test ≤ count_below k test
count_mono j k test h = let e : k - j + j ≡ k = omega arith in rw e at (count_grows (k - j) j test)

-- one that passes counts
pub count_less : (j k : ℕ) (test : ℕ → Bool) → j < k → test j ≡ true → count_below j test < count_below k test
count_less j k test h e = omega (arith, count_mono (suc j) k test h, count_yes j test e)

pub count_agrees : (n : ℕ) (p q : ℕ → Bool) → ((k : ℕ) → k < n → p k ≡ q k) → count_below n p ≡ count_below n q
count_agrees zero p q same = refl
count_agrees (suc n) p q same =
    let rest = count_agrees n p q (λ k h. same k (omega arith)) in
    let last : ◌≡◌ {A = ℕ} (cond (p n) 1 0) (cond (q n) 1 0) = ap (λ (b : Bool). cond b 1 0) (same n (omega arith)) in
    omega arith

-- a with the value m exchanged for c
abbrev exchanged : ℕ → ℕ → ℕ → ℕ
exchanged m c a = cond (eqb a m) c a

exchanged_cases : (m c a : ℕ) → ((a ≡ m) × (exchanged m c a ≡ c)) ⊎ ((a ≡ m → ⊥) × (exchanged m c a ≡ a))
exchanged_cases m c a = elim (cases_eq a m) [
  | inl e ↦ inl (e, ap (λ (b : Bool). cond b c a) (eq-eqb a m e))
  | inr ne ↦ inr (ne, ap (λ (b : Bool). cond b c a) (ne_eqb a m ne))
]

-- those below n that pass the test go to different places below m
record Housed (n m : ℕ) (test : ℕ → Bool) (place : ℕ → ℕ) : Type 0 where
  within : (k : ℕ) → k < n → test k ≡ true → place k < m
  apart : (j k : ℕ) → j < n → k < n → test j ≡ true → test k ≡ true → place j ≡ place k → j ≡ k

housed_fewer : (n m : ℕ) (test : ℕ → Bool) (place : ℕ → ℕ) → Housed (suc n) m test place → Housed n m test place
housed_fewer n m test place h = record { within = λ k l. h.within k (omega arith); apart = λ j k l l'. h.apart j k (omega arith) (omega arith) }

-- without the last that passes, whose place the one at the top takes
housed_exchanged : (n m : ℕ) (test : ℕ → Bool) (place : ℕ → ℕ) → Housed (suc n) (suc m) test place → test n ≡ true
    → Housed n m test (λ k. exchanged m (place n) (place k))
housed_exchanged n m test place h last = record {
  within = λ k l t. elim (exchanged_cases m (place n) (place k)) [
    | inl c ↦
        let other : place n ≡ m → ⊥ = λ q. let same : k ≡ n = h.apart k n (omega arith) (omega arith) t last (c.0 ∙ sym q) in omega arith in
        omega (arith, c.1, h.within n (omega arith) last)
    | inr c ↦ omega (arith, c.0, c.1, h.within k (omega arith) t)
  ];
  apart = λ j k lj lk tj tk e. elim (exchanged_cases m (place n) (place j)) [
    | inl c ↦ elim (exchanged_cases m (place n) (place k)) [
      | inl d ↦ h.apart j k (omega arith) (omega arith) tj tk (c.0 ∙ sym d.0)
      | inr d ↦ let same : n ≡ k = h.apart n k (omega arith) (omega arith) last tk (sym c.1 ∙ e ∙ d.1) in absurd (omega arith)
    ]
    | inr c ↦ elim (exchanged_cases m (place n) (place k)) [
      | inl d ↦ let same : j ≡ n = h.apart j n (omega arith) (omega arith) tj last (sym c.1 ∙ e ∙ d.1) in absurd (omega arith)
      | inr d ↦ h.apart j k (omega arith) (omega arith) tj tk (sym c.1 ∙ e ∙ d.1)
    ]
  ];
}

-- so they are at most m
count_housed : (n m : ℕ) (test : ℕ → Bool) (place : ℕ → ℕ) → Housed n m test place → count_below n test ≤ m
count_housed zero m test place h = omega arith
count_housed (suc n) zero test place h = by (test n) refl (count_housed n zero test place (housed_fewer n zero test place h))
  where
    by : (b : Bool) → test n ≡ b → count_below n test ≤ 0 → count_below n test + cond b 1 0 ≤ 0
    by true e le = absurd (omega (arith, h.within n (omega arith) e))
    by false e le = omega arith
count_housed (suc n) (suc m) test place h = by (test n) refl (count_housed n (suc m) test place (housed_fewer n (suc m) test place h)) (λ last. count_housed n m test (λ k. exchanged m (place n) (place k)) (housed_exchanged n m test place h last))
  where
    by : (b : Bool) → test n ≡ b → count_below n test ≤ suc m → (test n ≡ true → count_below n test ≤ m) → count_below n test + cond b 1 0 ≤ suc m
    by true e le less = omega (arith, less e)
    by false e le less = omega arith

pub pigeonhole : (n m : ℕ) (test : ℕ → Bool) (place : ℕ → ℕ) → ((k : ℕ) → k < n → test k ≡ true → place k < m)
    → ((j k : ℕ) → j < n → k < n → test j ≡ true → test k ≡ true → place j ≡ place k → j ≡ k) → count_below n test ≤ m
pigeonhole n m test place within apart = count_housed n m test place (record { within = within; apart = apart })

-- one place for each that passes, where each has one that P allows
pub places : (test : ℕ → Bool) (P : ℕ → ℕ → Type 0) → ((k : ℕ) → test k ≡ true → (e : ℕ) × P k e) → (place : ℕ → ℕ) × ((k : ℕ) → test k ≡ true → P k (place k))
places test P each = ((λ k. (by k (test k) refl).0), (λ k. (by k (test k) refl).1))
  where
    by : (k : ℕ) (b : Bool) → test k ≡ b → (e : ℕ) × (b ≡ true → P k e)
    by k true t = ((each k t).0, λ _. (each k t).1)
    by k false t = (0, λ e. absurd (false≢true e))

pub count_bounded : (n : ℕ) (test : ℕ → Bool) → count_below n test ≤ n
count_bounded zero test = omega arith
count_bounded (suc n) test = elim (test n) as (λ b. count_below n test + cond b 1 0 ≤ suc n) [ true ↦ omega (arith, count_bounded n test) | false ↦ omega (arith, count_bounded n test) ]

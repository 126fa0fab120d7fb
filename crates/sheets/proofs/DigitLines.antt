-- Lines of the digits 0 and 1, read digit by digit.
use Rattle.std.proofs.Common.{◌≡◌, ℕ, zero, suc, ◌+◌, ◌-◌, ◌*◌, ◌/◌, ◌%◌, ◌^◌, ◌<◌, ◌≤◌, Bool, true, false, eqb, ◌⊎◌, List, [], ◌∷◌, ◌++◌, length, get_or, take, drop, Some, None, Decides, Option, sym, refl, ap, ◌∙◌, subst, ap₂, inl, inr, ⊎_elim, one-mul, add-one, arith, pow_pos, pow_mono, pow-add, shl_exact, MatchOption}
use native.Mathlib.Nat.{add-mul-div_right, add-mul-mod_self_left, div-eq_of_lt, pow-succ'}
use Rattle.std.proofs.lemmas.List.{append-nil, drop_at, get_or_append_left, get_or_push, length_push, length-take, take-append-drop, take_at, take_more}
use Rattle.std.proofs.lemmas.Bool.{cases_lt, eq-eqb, eqb-true}
use Rattle.model.specs.Assignments.{digit, digits, holds, Assigns, Gives, ReadsAssignment}

-- a fact beyond the bits does not hold
fails_beyond : (x i : ℕ) → x < 2 ^ i → holds x i ≡ false
fails_beyond x i h = ap (λ n. eqb (n % 2) 1) (div-eq_of_lt h)

-- a higher bit leaves the lower ones
keeps_low : (a k i : ℕ) → i < k → holds (a + 2 ^ k) i ≡ holds a i
keeps_low a k i lt =
    let j = k - i - 1 in
    let e : k ≡ suc j + i = omega arith in
    let q : 2 ^ k ≡ (2 * 2 ^ j) * 2 ^ i = ap (λ n. 2 ^ n) e ∙ pow-add 2 (suc j) i ∙ ap (λ n. n * 2 ^ i) (pow-succ' 2 j) in
    ap (λ n. eqb ((a + n) / 2 ^ i % 2) 1) q
    ∙ ap (λ n. eqb (n % 2) 1) (add-mul-div_right a (2 * 2 ^ j) (pow_pos i))
    ∙ ap (λ n. eqb n 1) (add-mul-mod_self_left (a / 2 ^ i) 2 (2 ^ j))

sets_top : (a k : ℕ) → a < 2 ^ k → holds (a + 2 ^ k) k ≡ true
sets_top a k h =
    ap (λ n. eqb ((a + n) / 2 ^ k % 2) 1) (sym (one-mul (2 ^ k)))
    ∙ ap (λ n. eqb (n % 2) 1) (add-mul-div_right a 1 (pow_pos k))
    ∙ ap (λ n. eqb ((n + 1) % 2) 1) (div-eq_of_lt h)

pub shifted : (n : ℕ) → n < 64 → 1 * 2 ^ n % 2 ^ 64 ≡ 2 ^ n
shifted n h = let small : 1 + n ≤ 64 = omega arith in shl_exact {a = 1} 1 n 64 (omega arith) small ∙ one-mul (2 ^ n)

same_digits : (n a b : ℕ) → ((i : ℕ) → i < n → holds a i ≡ holds b i) → digits n a ≡ digits n b
same_digits zero a b same = refl
same_digits (suc n) a b same =
    ap₂ (λ ds d. ds ++ (d ∷ [])) (same_digits n a b (λ i h. same i (omega arith))) (ap digit (same n (omega arith)))

pub length_digits : (n x : ℕ) → length (digits n x) ≡ n
length_digits zero x = refl
length_digits (suc n) x = omega (arith, length_push (digits n x) (digit (holds x n)), length_digits n x)

digit_at : (n x i : ℕ) → i < n → get_or (digits n x) i 0 ≡ digit (holds x i)
digit_at zero x i h = absurd (omega arith)
digit_at (suc n) x i h =
    ⊎_elim
    (λ lt. get_or_append_left (digits n x) (digit (holds x n) ∷ []) 0 i (omega (arith, length_digits n x)) ∙ digit_at n x i lt)
    (λ le.
    let last : n ≡ i = omega arith in
    let P : ℕ → Type 0 = λ j. get_or (digits (suc n) x) j 0 ≡ digit (holds x j) in
    subst P last (get_or_push (digits n x) (digit (holds x n)) 0 n (length_digits n x)))
    (cases_lt i n)

module _ (line : List ℕ) (n a : ℕ) (read : Assigns n a × (take n line ≡ digits n a)) (h : n < length line) where
  longer : 2 ^ (n + 1) ≡ 2 * 2 ^ n
  longer = ap (λ k. 2 ^ k) (add-one n) ∙ pow-succ' 2 n

  one_more : (d : ℕ) → get_or line n 0 ≡ d → take (n + 1) line ≡ digits n a ++ (d ∷ [])
  one_more d is = take_more line n 0 h ∙ ap₂ (λ ds e. ds ++ (e ∷ [])) read.1 is

  pub zero_more : get_or line n 0 ≡ 48 → Assigns (n + 1) a × (take (n + 1) line ≡ digits (n + 1) a)
  zero_more is =
      (omega (arith, longer, read.0), one_more 48 is ∙ ap (λ b. digits n a ++ (digit b ∷ [])) (sym (fails_beyond a n read.0)) ∙ ap (λ k. digits k a) (sym (add-one n)))

  pub bit_more : get_or line n 0 ≡ 49 → Assigns (n + 1) (a + 2 ^ n) × (take (n + 1) line ≡ digits (n + 1) (a + 2 ^ n))
  bit_more is =
      let b = a + 2 ^ n in (
        omega (arith, longer, read.0),
        one_more 49 is
            ∙ ap₂ (λ ds bit. ds ++ (digit bit ∷ [])) (sym (same_digits n b a (keeps_low a n))) (sym (sets_top a n read.0))
            ∙ ap (λ k. digits k b) (sym (add-one n)),
      )

-- no digit, or one for a bit that there is not
module _ (line : List ℕ) (n : ℕ) (h : n < length line) (x : ℕ) (is : line ≡ digits (length line) x) where
  pub by_holds : get_or line n 0 ≡ digit (holds x n)
  by_holds = ap (λ l. get_or l n 0) is ∙ digit_at (length line) x n h

  pub no_digit : (b : Bool) → get_or line n 0 ≡ digit b → (get_or line n 0 ≡ 48 → ⊥) → (get_or line n 0 ≡ 49 → ⊥) → ⊥
  no_digit false e zero' one' = zero' e
  no_digit true e zero' one' = one' e

  pub no_bit : x < 2 ^ 64 → 64 ≤ n → get_or line n 0 ≡ 49 → ⊥
  no_bit small far e =
      let none = fails_beyond x n (omega (arith, pow_mono {i = 64} {j = n} far)) in
      let z : ◌≡◌ {A = ℕ} 48 49 = sym (by_holds ∙ ap digit none) ∙ e in
      omega arith

-- nothing, or one newline
abbrev Ends : List ℕ → Type 0
Ends rest = (rest ≡ []) ⊎ (rest ≡ 10 ∷ [])

pub one_byte_ends : (rest : List ℕ) → length rest ≡ 1 → Decides (eqb (get_or rest 0 0) 10) (Ends rest)
one_byte_ends [] e = absurd (omega arith)
one_byte_ends (b ∷ []) e = (
  λ is. inr (ap (λ n. n ∷ []) (eqb-true b 10 is)),
  ⊎_elim (λ none. let z : ◌≡◌ {A = ℕ} 0 1 = cc in absurd (omega arith)) (λ one. let is : b ≡ 10 = cc in eq-eqb b 10 is),
)
one_byte_ends (b ∷ d ∷ bs) e = absurd (omega arith)

-- a text that gives an assignment, and its parts before and after the last fact
module _ (text : List ℕ) (facts x : ℕ) where
  parts : (rest : List ℕ) → text ≡ digits facts x ++ rest → (take facts text ≡ digits facts x) × (drop facts text ≡ rest)
  parts rest is =
      (ap (take facts) is ∙ take_at (digits facts x) rest facts (length_digits facts x), ap (drop facts) is ∙ drop_at (digits facts x) rest facts (length_digits facts x))

  pub front_of : Gives facts x text → take facts text ≡ digits facts x
  front_of gives = ⊎_elim (λ is. (parts [] (is ∙ sym (append-nil (digits facts x)))).0) (λ is. (parts (10 ∷ []) is).0) gives.line

  pub rest_of : Gives facts x text → Ends (drop facts text)
  rest_of gives = ⊎_elim (λ is. inl (parts [] (is ∙ sym (append-nil (digits facts x)))).1) (λ is. inr (parts (10 ∷ []) is).1) gives.line

  pub long_enough : Gives facts x text → facts ≤ length text
  long_enough gives = omega (arith, ap length (front_of gives), length_digits facts x, length-take facts text)

  pub gives_from : Assigns facts x → take facts text ≡ digits facts x → Ends (drop facts text) → Gives facts x text
  gives_from within front rest =
      let whole = sym (take-append-drop facts text) in
      record {
        assigns = within;
        line = ⊎_elim
            (λ none. inl (whole ∙ ap₂ (λ l r. l ++ r) front none ∙ append-nil (digits facts x)))
            (λ one. inr (whole ∙ ap₂ (λ l r. l ++ r) front one))
            rest;
      }

-- the digits of the line decide
module _ (text line : List ℕ) (facts : ℕ) (front : line ≡ take facts text) (long : length line ≡ facts) (rest : Ends (drop facts text)) where
  pub read_line : (r : Option ℕ)
      → MatchOption r ((x : ℕ) → x < 2 ^ 64 → line ≡ digits (length line) x → ⊥) (λ x. Assigns (length line) x × (line ≡ digits (length line) x)) → ReadsAssignment facts text r
  read_line None none = λ x small gives. none x small (front ∙ front_of text facts x gives ∙ ap (λ n. digits n x) (sym long))
  read_line (Some x) read =
      let A : ℕ → Type 0 = λ n. Assigns n x in
      gives_from text facts x (subst A long read.0) (sym front ∙ read.1 ∙ ap (λ n. digits n x) long) rest

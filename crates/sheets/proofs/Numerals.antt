-- Reading a decimal number digit by digit.
use Rattle.std.proofs.Common.{◌≡◌, ℕ, ◌+◌, ◌-◌, ◌*◌, ◌^◌, ◌<◌, ◌≤◌, true, ◌&&◌, List, [], ◌∷◌, length, get_or, drop, decimal, sym, refl, ap, ◌∙◌, subst, ⊎_elim, arith, rules}
use Rattle.std.proofs.lemmas.Fmt.{decimal-digits_value, digits_decimal, digits_value-decimal, decimal_nonempty, first_decimal, decimal_digit}
use Rattle.std.proofs.lemmas.List.{at_drop_more, at_drop_all}
use Rattle.std.proofs.lemmas.Str.Parse.{IsNumeralModel, IsDigitsTest, FoldsDigits, numerals_by_fold}
use Rattle.std.proofs.lemmas.Bool.{and_parts, cases_lt}
use Rattle.model.specs.Names.{every, is_digit}

-- the number that digits make after the number so far
abbrev pub read_on : ℕ → List ℕ → ℕ
read_on n [] = n
read_on n (b ∷ bs) = read_on (n * 10 + (b - 48)) bs

abbrev pub AllDigits : List ℕ → Type 0
AllDigits bs = every is_digit bs ≡ true

tells_digits : IsDigitsTest AllDigits
tells_digits = search rules

folds : FoldsDigits read_on
folds = search rules

own : IsNumeralModel AllDigits (read_on 0)
own = numerals_by_fold AllDigits tells_digits read_on folds

pub number_digits : (v : ℕ) → v < 2 ^ 32 → AllDigits (decimal v)
number_digits v small = digits_decimal own v (omega arith)

-- more digits make no smaller number
read_on_ge : (n : ℕ) (bs : List ℕ) → n ≤ read_on n bs
read_on_ge n [] = omega arith
read_on_ge n (b ∷ bs) = omega (arith, read_on_ge (n * 10 + (b - 48)) bs)

-- the digits that are left of a word, after those that make n, decide
pub record Reading (word : List ℕ) (i n : ℕ) : Type 0 where
  pub digits : every is_digit (drop i word) ≡ every is_digit word
  pub number : read_on n (drop i word) ≡ read_on 0 word
  pub fits : n < 2 ^ 32

pub start : (word : List ℕ) → Reading word 0 0
start word = record { digits = refl; number = refl; fits = omega arith }

module _ (word : List ℕ) (i n : ℕ) (so : Reading word i n) where
  pub step : i < length word → is_digit (get_or word i 0) ≡ true → n * 10 + (get_or word i 0 - 48) < 2 ^ 32 → Reading word (i + 1) (n * 10 + (get_or word i 0 - 48))
  step lt digit room = record {
    digits = ap (λ t. t && every is_digit (drop (i + 1) word)) (sym digit) ∙ sym (at_drop_more (every is_digit) word i 0 lt) ∙ so.digits;
    number = sym (at_drop_more (read_on n) word i 0 lt) ∙ so.number;
    fits = room;
  }

  -- a number of 32 bits has a digit here, and room for it
  pub digit_fits : i < length word → (v : ℕ) → v < 2 ^ 32 → word ≡ decimal v → (is_digit (get_or word i 0) ≡ true) × (n * 10 + (get_or word i 0 - 48) < 2 ^ 32)
  digit_fits lt v small e =
      let wide : v < 2 ^ 64 = omega arith in
      let all : AllDigits word = subst AllDigits (sym e) (digits_decimal own v wide) in
      let here = and_parts (is_digit (get_or word i 0)) (every is_digit (drop (i + 1) word)) (sym (at_drop_more (every is_digit) word i 0 lt) ∙ so.digits ∙ all) in
      let whole : read_on (n * 10 + (get_or word i 0 - 48)) (drop (i + 1) word) ≡ v = sym (at_drop_more (read_on n) word i 0 lt) ∙ so.number ∙ ap (read_on 0) e ∙ digits_value-decimal own v wide in
      (here.0, omega (arith, read_on_ge (n * 10 + (get_or word i 0 - 48)) (drop (i + 1) word)))

  pub finish : length word ≤ i → 0 < length word → (get_or word 0 0 ≡ 48 → length word ≡ 1) → word ≡ decimal n
  finish le some lean =
      let all : AllDigits word = sym so.digits ∙ at_drop_all (every is_digit) word i le in
      let value : read_on 0 word ≡ n = sym so.number ∙ at_drop_all (read_on n) word i le in
      sym (decimal-digits_value own word all some lean (omega (arith, so.fits))) ∙ ap decimal value

pub no_number_empty : (word : List ℕ) → length word ≡ 0 → (v : ℕ) → v < 2 ^ 32 → word ≡ decimal v → ⊥
no_number_empty word none v small e = omega (arith, decimal_nonempty v (omega arith), ap length e)

pub no_number_zero : (word : List ℕ) → get_or word 0 0 ≡ 48 → 1 < length word → (v : ℕ) → v < 2 ^ 32 → word ≡ decimal v → ⊥
no_number_zero word zero long v small e =
    ⊎_elim
    (λ more. omega (arith, first_decimal v more (omega arith), ap (λ w. get_or w 0 0) e))
    (λ none.
    let z : v ≡ 0 = omega arith in
    let digit : decimal v ≡ (48 + v) ∷ [] = decimal_digit v (omega arith) in
    omega (arith, ap length (e ∙ digit)))
    (cases_lt 0 v)

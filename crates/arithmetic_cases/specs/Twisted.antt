-- An arithmetic whose product is not associative, and whose zero and one are neither 0 nor 1.
use Rattle.std.specs.Prelude.{ℕ, ◌+◌, ◌*◌, ◌/◌, ◌%◌, ◌==◌, bit_and, bit_xor}
use Rattle.model.specs.Rings.{Ring}

-- The value 8 + c + 2 a + 4 b stands for c + a x + b y, where c, a and b are 0 or 1 and counted modulo 2.
-- x times y is one, and x and y times themselves are zero.
abbrev pub twisted_product : ℕ → ℕ → ℕ
twisted_product p q =
    8
    + bit_xor (bit_xor (bit_and p q) (bit_and (p / 2) (q / 4))) (bit_and (p / 4) (q / 2)) % 2
    + 2 * (bit_xor (bit_and p (q / 2)) (bit_and (p / 2) q) % 2)
    + 4 * (bit_xor (bit_and p (q / 4)) (bit_and (p / 4) q) % 2)

abbrev pub twisted : Ring
twisted = record { value = λ n. (n / 8 == 1); zero = 8; one = 9; sum = λ a b. bit_xor (bit_xor a b) 8; product = twisted_product; minus = λ a. a }

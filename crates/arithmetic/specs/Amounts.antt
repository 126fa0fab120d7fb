-- Amounts: every 32-bit number, modulo 2 to the 32nd.
use Rattle.std.specs.Prelude.{ℕ, ◌+◌, ◌-◌, ◌*◌, ◌%◌, ◌^◌, nat_lt}
use Rattle.model.specs.Rings.{Ring}

-- the numbers below m, counted modulo m
abbrev pub modulo : ℕ → Ring
modulo m = record {
  value = λ n. nat_lt n m;
  zero = 0;
  one = 1;
  sum = λ a b. (a + b) % m;
  product = λ a b. (a * b) % m;
  minus = λ a. (m - a) % m;
}

abbrev pub amounts : Ring
amounts = modulo (2 ^ 32)

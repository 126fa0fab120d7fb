-- Yes and no: 0 and 1, with exclusive or and `and`.
use Rattle.std.specs.Int.Bits.{bit_and, bit_xor}
use Rattle.std.specs.Prelude.{nat_lt}
use Rattle.model.specs.Rings.{Ring}

abbrev pub yes_no : Ring
yes_no = record { value = λ n. nat_lt n 2; zero = 0; one = 1; sum = bit_xor; product = bit_and; minus = λ a. a }

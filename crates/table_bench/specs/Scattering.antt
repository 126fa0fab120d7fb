-- How the keys of the benchmark are compared and hashed.
use Rattle.std.specs.Prelude.{ℕ, ◌/◌, ◌^◌, Bool, ◌==◌}
use Rattle.table_bench.specs.declared.keys.Scattered.{Scattered}
use Rattle.table.specs.Keys.{KeyLaws}
use Rattle.table.specs.KeysBy.{laws_by}

abbrev pub same_number : Scattered → Scattered → Bool
same_number x y = x.0 == y.0

-- the upper half of the number
abbrev pub upper_half : Scattered → ℕ
upper_half x = x.0 / 2 ^ 32

pub scattered_laws : KeyLaws same_number upper_half
scattered_laws = laws_by (λ x. x.0) (λ n. n / 2 ^ 32)

-- A name and a number that are written say which they are.
use Rattle.std.proofs.Common.{◌≡◌, ℕ, ◌^◌, ◌<◌, length, decimal, arith}
use mathlib.Core.HLevel.{is_prop→PathP}
use native.Mathlib.Bridge.{le_prop}
use Rattle.std.proofs.lemmas.Fmt.{decimal_injective}
use Rattle.model.proofs.Spelling.{same_name}
use Rattle.model.specs.Spelling.{spelling}
use Rattle.model.specs.declared.name.Name.{Name}
use Rattle.sheets.specs.Sides.{Numeral, Word, written}

worded_alike : (m n : Name) (some : 0 < length (spelling m)) (some' : 0 < length (spelling n)) → m ≡ n → ◌≡◌ {A = Word} (record { name = m; some = some }) (record { name = n; some = some' })
worded_alike m n some some' e i = record { name = e i; some = is_prop→PathP (λ i. 0 < length (spelling (e i))) (λ i. le_prop) some some' i }

pub one_word : (v w : Word) → written v ≡ written w → v ≡ w
one_word v w e = worded_alike v.name w.name v.some w.some (same_name v.name w.name e)

valued_alike : (m n : ℕ) (small : m < 2 ^ 32) (small' : n < 2 ^ 32) → m ≡ n → ◌≡◌ {A = Numeral} (record { value = m; small = small }) (record { value = n; small = small' })
valued_alike m n small small' e i = record { value = e i; small = is_prop→PathP (λ i. e i < 2 ^ 32) (λ i. le_prop) small small' i }

pub one_numeral : (m n : Numeral) → decimal m.value ≡ decimal n.value → m ≡ n
one_numeral m n e = valued_alike m.value n.value m.small n.small (decimal_injective m.value n.value (omega (arith, m.small)) (omega (arith, n.small)) e)

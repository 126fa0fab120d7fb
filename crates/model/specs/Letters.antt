-- The letter that a sheet writes for each decomposition type.
use Rattle.std.specs.Prelude.{ℕ, Ok, Err, Result, ◌≡◌, ◌≢◌}
use Rattle.model.specs.declared.decomposition.Decomposition.{Decomposition}
use Rattle.model.specs.declared.decomposition.UnknownLetter.{UnknownLetter}
use Rattle.model.specs.declared.decomposition.Decomposition.TheVariants.{Shannon, PositiveDavio, NegativeDavio}

-- the codes of S, P and N
abbrev pub letter_of : Decomposition → ℕ
letter_of Shannon = 83
letter_of PositiveDavio = 80
letter_of NegativeDavio = 78

-- the type whose letter a character is
abbrev pub Lettered : ℕ → Result Decomposition UnknownLetter → Type 0
Lettered c (Ok t) = c ≡ letter_of t
Lettered c (Err _) = (t : Decomposition) → c ≢ letter_of t

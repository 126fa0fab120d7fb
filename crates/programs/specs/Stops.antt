-- Why programs end, and what they tell then.
use Rattle.std.specs.Prelude.{◌≡◌, ℕ, List, [], ◌∷◌, ◌++◌, Ok, Err, Option, Result, OnOk}
use Rattle.std.specs.Io.KnownBytes.{Appends, Keeps}
use Rattle.std.specs.declared.io.Error.{Error}
use Rattle.model.specs.declared.fault.Fault.{Fault}
use Rattle.programs.specs.Refused.{refused_text}
use Rattle.programs.specs.declared.stop.Stop.{Stop}
use Rattle.programs.specs.declared.stop.Stop.TheVariants.{Io, Refused}

-- a file of this name was refused for such a fault, or there was such an error
abbrev pub StopsBy : List ℕ → (Fault → Type 0) → (Error → Type 0) → Stop → Type 0
StopsBy file P Q (Refused refused) = (refused.file.now ≡ file) × P refused.fault
StopsBy file P Q (Io e) = Q e

-- what a program that came to this outcome still writes, and how it ends: a refusal is a line, and an error is handed on
abbrev pub Ends : Option (List ℕ) → Option (List ℕ) → Result (Unit {0}) Stop → Result (Unit {0}) Error → Type 0
Ends old new (Ok x) r = (r ≡ Ok tt) × Keeps old new
Ends old new (Err (Refused refused)) r = OnOk r (Appends old new (refused_text refused ++ (10 ∷ [])))
Ends old new (Err (Io e)) r = (r ≡ Err e) × Keeps old new

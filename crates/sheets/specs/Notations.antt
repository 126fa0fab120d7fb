-- What may follow the `=` of a definition: how it is written, which names it uses, and which gates it makes.
use Rattle.std.specs.Prelude.{ℕ, cond, List, [], ◌∷◌, take, codes}
use Rattle.std.specs.Str.{bytes_eq}
use Rattle.sheets.specs.Formulas.{Formula, formula_made, formula_names, spell}
use Rattle.sheets.specs.Sides.{Emitted, emitted, gate_made, gate_names, GateSide, gate_tokens, Word, written}
use Rattle.sheets.specs.declared.notation.Notation.{Notation}
use Rattle.sheets.specs.declared.notation.Notation.TheVariants.{Gates, Formulas}

abbrev pub mark_of : Notation → List ℕ
mark_of Gates = codes "GAT"
mark_of Formulas = codes "FRM"

-- the notation that the mark of a text tells: formulas if it is theirs, else gates
abbrev pub marked_as : List ℕ → Notation
marked_as text = cond (bytes_eq (take 3 text) (codes "FRM")) Formulas Gates

abbrev pub Side : Notation → Type 0
Side Gates = GateSide
Side Formulas = Formula

abbrev pub side_tokens : (n : Notation) → Side n → List (List ℕ)
side_tokens Gates side = gate_tokens side
side_tokens Formulas f = spell f

abbrev pub side_names : (n : Notation) → Side n → List Word
side_names Gates side = gate_names side
side_names Formulas f = formula_names f

-- signal: what each name stands for; next: the first number that is no signal yet
abbrev pub emit : (n : Notation) → (List ℕ → ℕ) → ℕ → Side n → Emitted
emit Gates signal next side = emitted (gate_made (λ w. signal (written w)) side ∷ []) next
emit Formulas signal next f = formula_made signal f next

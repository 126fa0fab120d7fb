-- The notation of order sheets.
use Rattle.std.specs.Prelude.{◌≡◌, ℕ, ◌<◌, ◌≤◌, List, [], ◌∷◌, length, Ok, Err, codes, Result}
use Rattle.model.specs.Letters.{letter_of}
use Rattle.model.specs.Orders.{Adds}
use Rattle.model.specs.Refusals.{fault}
use Rattle.model.specs.Spelling.{spelling}
use Rattle.model.specs.declared.fact.Fact.{Fact}
use Rattle.model.specs.declared.fault.Fault.{Fault}
use Rattle.model.specs.declared.fault.Refusal.{Refusal}
use Rattle.model.specs.declared.fault.Refusal.TheVariants.{TooManyBrackets, NoForm}
use Rattle.sheets.specs.Lines.{Line}
use Rattle.sheets.specs.Sheets.{Sheet}
use Rattle.sheets.specs.Tokens.{brackets, tokens}

-- a line of an order sheet: the letter of a type, and a name
pub record FactLine (ts : List (List ℕ)) (f : Fact) : Type 0 where
  pub written : ts ≡ (letter_of f.decomposition ∷ []) ∷ (spelling f.name ∷ [])
  pub named : 0 < length (spelling f.name)

-- the checks of a line below the facts fs, in their order: brackets, form, and what adding the fact says
pub data FactStep (fs : List Fact) (ts : List (List ℕ)) : Result (List Fact) Refusal → Type 0 where
  crowded : 32 < brackets ts → FactStep fs ts (Err TooManyBrackets)
  formless : brackets ts ≤ 32 → ((f : Fact) → FactLine ts f → ⊥) → FactStep fs ts (Err NoForm)
  turned_down : brackets ts ≤ 32 → (f : Fact) (refusal : Refusal) → FactLine ts f → Adds fs f (Err refusal) fs → FactStep fs ts (Err refusal)
  taken : brackets ts ≤ 32 → (f : Fact) (fs' : List Fact) → FactLine ts f → Adds fs f (Ok tt) fs' → FactStep fs ts (Ok fs')

-- the verdict on the text of an order sheet
abbrev pub OrderSheet : List ℕ → Result (List Fact) Fault → Type 0
OrderSheet text r = Sheet FactStep (codes "ORD") [] text r

-- the line is refused with this fault
abbrev pub StepRefused : List Fact → Line → Fault → Type 0
StepRefused fs l f = (refusal : Refusal) × (f ≡ fault refusal l.first) × FactStep fs (tokens l.bytes) (Err refusal)

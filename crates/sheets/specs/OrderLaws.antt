-- Laws of order sheets.
use Rattle.std.specs.Prelude.{◌≡◌, ℕ, List, [], ◌∷◌, ◌++◌, map, Ok, Err, codes, Result}
use Rattle.model.specs.Letters.{letter_of}
use Rattle.model.specs.Refusals.{number_of}
use Rattle.model.specs.Spelling.{spelling}
use Rattle.model.specs.declared.fact.Fact.{Fact}
use Rattle.model.specs.declared.fault.Fault.{Fault}
use Rattle.std.specs.List.{flat_map}
use Rattle.sheets.specs.Lines.{heading, later, lines_from, speaking}
use Rattle.sheets.specs.OrderSheets.{OrderSheet}
use Rattle.sheets.specs.Sheets.{Plain}
use Rattle.sheets.specs.Tokens.{tokens}

-- a fact written as a line
abbrev pub fact_text : Fact → List ℕ
fact_text f = letter_of f.decomposition ∷ 32 ∷ (spelling f.name ++ (10 ∷ []))

-- facts written as an order sheet
abbrev pub order_text : List Fact → List ℕ
order_text fs = codes "ORD 1" ++ (10 ∷ flat_map fact_text fs)

-- the tokens of the lines after the first, blank lines and comments left out
abbrev pub token_lines : List ℕ → List (List (List ℕ))
token_lines text = map (λ l. tokens l.bytes) (speaking (later (lines_from 0 text)))

-- the same facts, or refusals with the same number
abbrev pub Alike : Result (List Fact) Fault → Result (List Fact) Fault → Type 0
Alike (Ok fs) (Ok gs) = fs ≡ gs
Alike (Ok fs) (Err g) = ⊥
Alike (Err f) (Ok gs) = ⊥
Alike (Err f) (Err g) = number_of f.refusal ≡ number_of g.refusal

pub record OrderLaws : Type 0 where
  -- a text has one verdict
  pub one_verdict : (text : List ℕ) (r s : Result (List Fact) Fault) → OrderSheet text r → OrderSheet text s → r ≡ s
  -- spaces, blank lines and comments say nothing
  pub by_tokens : (a b : List ℕ) → Plain a → Plain b → heading (lines_from 0 a) ≡ heading (lines_from 0 b) → token_lines a ≡ token_lines b
      → (r s : Result (List Fact) Fault) → OrderSheet a r → OrderSheet b s → Alike r s

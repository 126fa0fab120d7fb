-- What a rule sheet says of its outputs, by its lines alone: a name is worth what its right-hand side says of the names above it.
use Rattle.std.specs.Prelude.{◌≡◌, ℕ, suc, Bool, cond, List, [], ◌∷◌, map, length, take, Some, Ok, Result}
use Rattle.std.specs.Str.{bytes_eq}
use Rattle.model.specs.Nets.{fact_value, operation, output_value}
use Rattle.model.specs.Rings.{Ring}
use Rattle.model.specs.Spelling.{spelling}
use Rattle.model.specs.declared.fact.Fact.{Fact}
use Rattle.model.specs.declared.fault.Fault.{Fault}
use Rattle.model.specs.declared.gate.Gate.{Gate}
use Rattle.model.specs.declared.output.Output.{Output}
use Rattle.sheets.specs.Formulas.{formula_value}
use Rattle.sheets.specs.Notations.{Side}
use Rattle.sheets.specs.OrderLaws.{token_lines}
use Rattle.sheets.specs.RuleSheets.{definition, line_tokens, output, RuleLine}
use Rattle.sheets.specs.Sides.{binary, constant, GateSide, unary, written}
use Rattle.sheets.specs.declared.counts.Counts.{Counts}
use Rattle.sheets.specs.declared.notation.Notation.{Notation}
use Rattle.sheets.specs.declared.notation.Notation.TheVariants.{Gates, Formulas}

-- what each name is worth
abbrev pub Worths : Type 0
Worths = List ℕ → ℕ

-- the same, but for one name
abbrev pub with_name : List ℕ → ℕ → Worths → Worths
with_name word value worths name = cond (bytes_eq word name) value (worths name)

-- in an arithmetic, where it is known which facts hold
module _ (R : Ring) (x : ℕ → Bool) where
  -- a fact is one where it holds, else zero
  abbrev pub fact_worths : ℕ → List Fact → Worths
  fact_worths place [] name = R.zero
  fact_worths place (f ∷ fs) name = with_name (spelling f.name) (fact_value R (x place)) (fact_worths (suc place) fs) name

  abbrev pub gate_worth : Worths → GateSide → ℕ
  gate_worth worths (constant n) = n.value
  gate_worth worths (unary k one a) = operation R (Some k) 0 (worths (written a)) 0
  gate_worth worths (binary k two a b) = operation R (Some k) 0 (worths (written a)) (worths (written b))

  abbrev pub side_worth : (n : Notation) → Worths → Side n → ℕ
  side_worth Gates worths side = gate_worth worths side
  side_worth Formulas worths f = formula_value R worths f

  -- what the outputs are worth, in the order of the lines that list them
  abbrev pub listed_worths : {n : Notation} → Worths → List (RuleLine n) → List ℕ
  listed_worths worths [] = []
  listed_worths worths (output w ∷ ls) = worths (written w) ∷ listed_worths worths ls
  listed_worths {n} worths (definition w side ∷ ls) = listed_worths (with_name (written w) (side_worth n worths side) worths) ls

-- the names of the outputs, in the same order
abbrev pub listed_names : {n : Notation} → List (RuleLine n) → List (List ℕ)
listed_names [] = []
listed_names (output w ∷ ls) = written w ∷ listed_names ls
listed_names (definition w side ∷ ls) = listed_names ls

-- gates and outputs that mean what the lines of a text say, in every arithmetic and whichever facts hold
pub record Means (notation : Notation) (facts : List Fact) (text : List ℕ) (gates : List Gate) (outputs : List Output) : Type 0 where
  pub lines : List (RuleLine notation)
  pub tokens : token_lines text ≡ map (λ l. line_tokens l) lines
  pub names : map (λ o. spelling o.name) outputs ≡ listed_names lines
  pub values : (R : Ring) (x : ℕ → Bool) → map (λ o. output_value R (length facts) x gates o) outputs ≡ listed_worths R x (fact_worths R x 0 facts) lines

-- what was read into lent lists does so
abbrev pub ReadMeaning : Notation → List Fact → List ℕ → Result Counts Fault → List Gate → List Output → Type 0
ReadMeaning notation facts text r gates outputs = (counts : Counts) → r ≡ Ok counts → Means notation facts text (take counts.gates gates) (take counts.outputs outputs)

-- Laws of formulas, and of the lines that define a name by one.
use Rattle.std.specs.Prelude.{◌≡◌, ℕ, ◌+◌, ◌*◌, ◌<◌, ◌≤◌, Bool, true, false, ◌↔◌, List, [], ◌∷◌, ◌++◌, length, Ok, codes, All, Result, ◌≢◌}
use Rattle.model.specs.Nets.{gate_values, signal_value}
use Rattle.model.specs.Rings.{Ring}
use Rattle.model.specs.declared.fault.Refusal.{Refusal}
use Rattle.model.specs.declared.gate.Gate.{Gate}
use Rattle.sheets.specs.Formulas.{Formula, formula_made, formula_names, formula_value, spell}
use Rattle.sheets.specs.RuleSheets.{all_known, definition, Form, Room, RuleLine, Rules, RuleStep}
use Rattle.sheets.specs.Sides.{Emitted, Word, written}
use Rattle.sheets.specs.Symbols.{known, signal_or_zero, symbol}
use Rattle.sheets.specs.Tokens.{brackets}
use Rattle.sheets.specs.declared.notation.Notation.TheVariants.{Formulas}

-- a name, `=` and a formula
abbrev pub formula_line : Word → Formula → List (List ℕ)
formula_line w f = written w ∷ (61 ∷ []) ∷ spell f

-- what the formula makes of the rules so far
abbrev pub formula_emitted : ℕ → Rules → Formula → Emitted
formula_emitted facts rules f = formula_made (signal_or_zero rules.symbols) f (facts + length rules.gates)

-- the rules with the line: exactly the formula's gates more, and the name stands for its signal
abbrev pub with_formula : ℕ → Rules → Word → Formula → Rules
with_formula facts rules w f = record {
  symbols = rules.symbols ++ (symbol w.name (formula_emitted facts rules f).signal ∷ []);
  gates = rules.gates ++ (formula_emitted facts rules f).gates;
  outputs = rules.outputs;
}

-- few brackets, names that are known, a name that is new, and room
pub record Passes (facts : ℕ) (room : Room) (rules : Rules) (w : Word) (f : Formula) : Type 0 where
  pub few : brackets (spell f) ≤ 32
  pub known_names : all_known rules.symbols (formula_names f) ≡ true
  pub new_name : known rules.symbols (written w) ≡ false
  pub gates : length rules.gates + length (formula_emitted facts rules f).gates ≤ room.gates
  pub limit : length rules.gates + length (formula_emitted facts rules f).gates ≤ 65536
  pub names : length rules.symbols < room.names

pub record FormulaLaws : Type 0 where
  -- a spelling has one formula
  pub one_formula : (f g : Formula) → spell f ≡ spell g → f ≡ g
  -- a line that writes a formula has the form of that formula and no other
  pub one_form : (w : Word) (f : Formula) → (written w ≢ codes "out") → (line : RuleLine Formulas) → Form (formula_line w f) line ↔ (line ≡ definition w f)
  -- if it passes the checks, it is taken, with exactly the gates of the formula
  pub taken : (facts : ℕ) (room : Room) (rules : Rules) (w : Word) (f : Formula) → (written w ≢ codes "out") → Passes facts room rules w f
      → (r : Result Rules Refusal) → RuleStep Formulas facts room rules (formula_line w f) r ↔ (r ≡ Ok (with_formula facts rules w f))
  -- behind any gates, its signal is worth the formula's value, where each name is worth what its signal is
  pub worth : (R : Ring) (facts : ℕ) (x : ℕ → Bool) (signal : List ℕ → ℕ) (gates : List Gate) (f : Formula) → All (λ w. signal (written w) < facts + length gates) (formula_names f)
      → signal_value R facts x (gate_values R facts x (gates ++ (formula_made signal f (facts + length gates)).gates)) (formula_made signal f (facts + length gates)).signal
      ≡ formula_value R (λ name. signal_value R facts x (gate_values R facts x gates) (signal name)) f
  -- each token makes at most two gates
  pub few_gates : (signal : List ℕ → ℕ) (next : ℕ) (f : Formula) → length (formula_made signal f next).gates ≤ 2 * length (spell f)

-- The laws of formulas.
use Rattle.std.proofs.Common.{◌≡◌, ℕ, ◌+◌, ◌<◌, Bool, true, false, ◌↔◌, List, [], ◌∷◌, ◌++◌, length, Ok, codes, All, Result, sym, refl, ap, ◌∙◌, subst, arith}
use Rattle.std.proofs.lemmas.List.Elements.{All-weaker}
use Rattle.std.proofs.lemmas.Bool.{and_parts, cond-false}
use Rattle.std.proofs.lemmas.Bool.Decides.{nat_tests}
use Rattle.model.specs.Names.{is_letter, is_name}
use Rattle.model.specs.Nets.{gate_values, signal_value}
use Rattle.model.specs.Rings.{Ring}
use Rattle.model.specs.declared.fault.Refusal.{Refusal}
use Rattle.model.specs.declared.gate.Gate.{Gate}
use Rattle.model.proofs.Spelling.{spelling_is_name}
use Rattle.sheets.specs.FormulaLaws.{formula_line, FormulaLaws, Passes, with_formula}
use Rattle.sheets.specs.Formulas.{Formula, formula_made, formula_names, formula_value, spell}
use Rattle.sheets.specs.RuleSheets.{definition, Form, Room, RuleLine, Rules, RuleStep}
use Rattle.sheets.specs.Sides.{Word, written}
use Rattle.sheets.specs.Tokens.{brackets, is_bracket}
use Rattle.sheets.specs.declared.notation.Notation.TheVariants.{Formulas}
use Rattle.sheets.proofs.FormulaSpelling.{one_formula}
use Rattle.sheets.proofs.FormulaSteps.{few_formula}
use Rattle.sheets.proofs.FormulaWorth.{formula_worth, Stands, Worth}
use Rattle.sheets.proofs.GrownNets.{after_append, after_length}
use Rattle.sheets.proofs.LineForms.{one_form}
use Rattle.sheets.proofs.RuleVerdicts.{one_step}
use Rattle.sheets.proofs.SignalNames.{other_bytes}

-- ---- the form of a line

letter_no_bracket : (b : ℕ) (bs : List ℕ) → is_letter b ≡ true → is_bracket (b ∷ bs) ≡ false
letter_no_bracket b [] h = grind (arith, nat_tests)
letter_no_bracket b (c ∷ bs) h = refl

name_no_bracket : (word : List ℕ) → is_name word ≡ true → is_bracket word ≡ false
name_no_bracket [] h = refl
name_no_bracket (b ∷ bs) h = letter_no_bracket b bs (and_parts _ _ (and_parts _ _ h).0).0

module _ (w : Word) (f : Formula) (other : written w ≡ codes "out" → ⊥) where
  written_form : Form {notation = Formulas} (formula_line w f) (definition w f)
  written_form = record { kind = other_bytes (written w) (codes "out") other; tokens = refl }

  that_form : (line : RuleLine Formulas) → Form (formula_line w f) line ↔ (line ≡ definition w f)
  that_form line = (λ form. one_form Formulas (formula_line w f) line (definition w f) form written_form, λ e. subst (λ l. Form {notation = Formulas} (formula_line w f) l) (sym e) written_form)

  line_brackets : brackets (formula_line w f) ≡ brackets (spell f)
  line_brackets = cond-false (is_bracket (written w)) (1 + brackets ((61 ∷ []) ∷ spell f)) (brackets ((61 ∷ []) ∷ spell f)) (name_no_bracket (written w) (spelling_is_name w.name w.some))

  module _ (facts : ℕ) (room : Room) (rules : Rules) (passes : Passes facts room rules w f) where
    takes : RuleStep Formulas facts room rules (formula_line w f) (Ok (with_formula facts rules w f))
    takes = RuleStep.taken (omega (arith, line_brackets, passes.few)) (definition w f) written_form passes.known_names passes.new_name (passes.gates, passes.limit, passes.names)

    that_step : (r : Result Rules Refusal) → RuleStep Formulas facts room rules (formula_line w f) r ↔ (r ≡ Ok (with_formula facts rules w f))
    that_step r = (λ step. one_step Formulas facts room rules (formula_line w f) r _ step takes, λ e. subst (λ q. RuleStep Formulas facts room rules (formula_line w f) q) (sym e) takes)

-- ---- what its signal is worth

module _ (R : Ring) (facts : ℕ) (x : ℕ → Bool) (signal : List ℕ → ℕ) (gates : List Gate) (f : Formula) (there : All (λ w. signal (written w) < facts + length gates) (formula_names f)) where
  abbrev vs : List ℕ
  vs = gate_values R facts x gates

  abbrev worths : List ℕ → ℕ
  worths name = signal_value R facts x vs (signal name)

  long : length vs ≡ length gates
  long = after_length R facts x [] gates ∙ (omega arith)

  behind_gates : signal_value R facts x (gate_values R facts x (gates ++ (formula_made signal f (facts + length gates)).gates)) (formula_made signal f (facts + length gates)).signal ≡ formula_value R worths f
  behind_gates =
      let stand : (w : Word) → signal (written w) < facts + length gates → Stands R facts x vs signal worths w = λ w h. (omega (arith, h, long), refl) in
      let W : ℕ → Type 0 = λ n. Worth R facts x vs (formula_made signal f (facts + n)) (formula_value R worths f) in
      let worth = subst W long (formula_worth R facts x vs signal worths f (All-weaker _ (Stands R facts x vs signal worths) stand (formula_names f) there)) in
      let e = formula_made signal f (facts + length gates) in
      ap (λ us. signal_value R facts x us e.signal) (after_append R facts x [] gates e.gates) ∙ worth.worth

pub formula_laws : FormulaLaws
formula_laws = record {
  one_formula = one_formula;
  one_form = that_form;
  taken = λ facts room rules w f other passes. that_step w f other facts room rules passes;
  worth = behind_gates;
  few_gates = λ signal next f. few_formula signal f next;
}

use Rattle.std.proofs.Common.{rules, ◌≡◌, ℕ, List, replicate, sym, ◌∙◌}
use Rattle.sheets.proofs.FormulaLaws.{formula_laws}
use Rattle.sheets.proofs.RuleLines.{left_empty, left_filled}
use Rattle.sheets.proofs.RuleVerdicts.{rule_laws}
use Rattle.sheets.proofs.SheetWorth.{read_meaning}
use Rattle.sheets.proofs.WrittenRules.{rules_back}
use Rattle.sheets.proofs.rule_sheet.read_rules.Goals as goal

-- a list that was filled, by the length and the value that it has
filled : {X : Type 0} {xs : List X} {m n : ℕ} {x e : X} → xs ≡ replicate m x → m ≡ n → x ≡ e → xs ≡ replicate n e
filled h p q = h ∙ (λ i. replicate (p i) (q i))

pub returns-then-is_err : goal.returns-then-is_err
returns-then-is_err c =
    let kept = c.read_lists-outcome.auto in
    let said =
    left_empty _ _ _ _ _ _ _ (sym c.if-is_err.ensures.value) _ _
    (filled (c.fill-then-is_err.ensures.after (λ y e. search rules)) kept.gates c.empty-then-is_err.ensures)
    (filled (c.fill-then-is_err-2.ensures.after (λ y e. search rules)) kept.outputs c.empty-then-is_err-2.ensures.whole) c.read_lists-outcome.ensures
    in
    record {
      read = said;
      names = filled (c.fill.ensures.after (λ y e. search rules)) kept.names c.empty.ensures;
      written = rules_back _ _ _ _ _ _ _ c.args.order.now.named said;
      meaning = read_meaning _ _ _ _ _ _ _ said;
      laws = rule_laws;
      formulas = formula_laws;
    }

pub returns-else-is_err : goal.returns-else-is_err
returns-else-is_err c =
    let said = left_filled _ _ _ _ _ _ _ (sym c.if-is_err.ensures.value) c.read_lists-outcome.ensures in
    record {
      read = said;
      names = filled (c.fill.ensures.after (λ y e. search rules)) c.read_lists-outcome.auto.names c.empty.ensures;
      written = rules_back _ _ _ _ _ _ _ c.args.order.now.named said;
      meaning = read_meaning _ _ _ _ _ _ _ said;
      laws = rule_laws;
      formulas = formula_laws;
    }

use Rattle.std.proofs.Common.{List, Result, sym, ◌∙◌, subst}
use Rattle.std.proofs.lemmas.Bool.{true≢false}
use Rattle.model.specs.declared.fact.Fact.{Fact}
use Rattle.model.specs.declared.fault.Fault.{Fault}
use Rattle.sheets.specs.OrderSheets.{OrderSheet}
use Rattle.sheets.proofs.OrderVerdicts.{order_laws}
use Rattle.sheets.proofs.WrittenBack.{read_back, same_refusal}
use Rattle.sheets.proofs.order_sheet.read_order.Goals as goal

pub returns-then-is_err : goal.returns-then-is_err
returns-then-is_err c =
    let V : Result (List Fact) Fault → Type 0 = λ v. OrderSheet c.args.text.now v in
    let said = subst V (same_refusal _ _ _ (sym c.if-is_err.ensures.value)) c.read_facts-outcome.ensures in
    record { verdict = said; refused = λ h. c.clear-then-is_err.ensures; written = read_back _ _ _ said; laws = order_laws }

pub returns-else-is_err : goal.returns-else-is_err
returns-else-is_err c =
    let said = c.read_facts-outcome.ensures in
    record { verdict = said; refused = λ h. absurd (true≢false (sym h ∙ sym c.if-is_err.ensures.value)); written = read_back _ _ _ said; laws = order_laws }

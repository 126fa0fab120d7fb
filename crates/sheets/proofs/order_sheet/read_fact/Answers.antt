use Rattle.std.proofs.lemmas.Result.{err_from_is_err_and}
use Rattle.model.specs.declared.fault.Refusal.TheVariants.{TooManyBrackets, NoForm}
use Rattle.sheets.specs.Cursors.{current}
use Rattle.sheets.specs.OrderSheets.{crowded, formless}
use Rattle.sheets.proofs.FactLines.{fact_answered}
use Rattle.sheets.proofs.order_sheet.read_fact.Goals as goal

pub returns-in_err-check_brackets : goal.returns-in_err-check_brackets
returns-in_err-check_brackets c =
    let p = err_from_is_err_and c.from_residual.result c.from_residual.ensures.1 in
    let said = c.in_err-check_brackets.ensures in
    rw (p.1, p.2) (TooManyBrackets, said.0, crowded said.1)

pub returns-in_err-fact : goal.returns-in_err-fact
returns-in_err-fact c =
    let p = err_from_is_err_and c.from_residual-in_err-fact.result c.from_residual-in_err-fact.ensures.1 in
    let said = c.in_err-fact.ensures.form in
    rw (p.1, p.2) (NoForm, said.0, formless c.in_ok-check_brackets.ensures said.1)

pub returns : goal.returns
returns c =
    let said = c.in_ok-fact.ensures in
    fact_answered _ _ c.in_ok-fact.fact (current c.args.line) _ said.stays c.in_ok-check_brackets.ensures said.form c.add.result c.placed.result c.add.ensures c.placed.ensures

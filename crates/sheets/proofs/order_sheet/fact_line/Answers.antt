use Rattle.std.proofs.Common.{ap, ◌∙◌}
use Rattle.std.proofs.lemmas.Result.{err_from_is_err_and}
use Rattle.model.specs.Refusals.{fault}
use Rattle.model.specs.declared.fault.Refusal.TheVariants.{NoForm}
use Rattle.sheets.proofs.FactLines.{no_end}
use Rattle.sheets.proofs.order_sheet.fact_line.Goals as goal

pub returns-in_err-take-clause-form : goal.returns-in_err-take-clause-form
returns-in_err-take-clause-form c =
    let first = c.in_ok-decomposition.ensures in
    let second = c.in_ok-name.ensures in
    let said = c.in_err-take.ensures in
    let p = err_from_is_err_and c.from_residual-in_err-take.result c.from_residual-in_err-take.ensures.1 in
    rw (p.1, p.2) (said.next.0 ∙ ap (fault NoForm) (second.stays ∙ first.stays), no_end _ _ _ first.next c.in_ok-name.name _ second.next (λ rest h. said.next.1 (record {}) rest h))

use Rattle.std.proofs.Common.{refl, ap, ◌∙◌}
use Rattle.std.proofs.lemmas.Result.{err_from_is_err_and}
use Rattle.model.specs.Refusals.{fault}
use Rattle.model.specs.declared.fault.Refusal.TheVariants.{NoForm}
use Rattle.sheets.proofs.NextToken.{only_left}
use Rattle.sheets.proofs.cursor.Cursor.take_last.Goals as goal

pub returns-in_err-take-clause-next : goal.returns-in_err-take-clause-next
returns-in_err-take-clause-next g c =
    let first = c.in_ok-value.ensures in
    let said = c.in_err-take.ensures in
    let p = err_from_is_err_and c.from_residual-in_err-take.result c.from_residual-in_err-take.ensures.1 in
    rw (p.1, p.2) (said.next.0 ∙ ap (fault NoForm) first.stays, λ v h. said.next.1 (record {}) _ (only_left _ _ (g.T.Held.token_of c.in_ok-value.value) (g.T.Held.token_of v) first.next h, refl))

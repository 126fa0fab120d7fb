use Rattle.std.proofs.lemmas.Result.{err_from_is_err_and}
use Rattle.sheets.specs.Sides.{Numeral}
use Rattle.sheets.proofs.cursor.Cursor.constant.Goals as goal

pub returns-in_err-number : goal.returns-in_err-number
returns-in_err-number c =
    let said = c.in_err-number.ensures in
    let p = err_from_is_err_and c.from_residual.result c.from_residual.ensures.1 in
    record { stays = said.stays; gate = rw (p.1, p.2) (said.next.0, λ n e. said.next.1 n.value (e, n.small)) }

pub returns : goal.returns
returns c =
    let said = c.in_ok-number.ensures in
    let n : Numeral = record { value = c.in_ok-number.number; small = said.next.1 } in
    record { stays = said.stays; gate = (n, said.next.0, c.constant.ensures) }

use Rattle.std.proofs.lemmas.Result.{err_from_is_err_and}
use Rattle.sheets.proofs.GateSides.{kind_name, named, word_next}
use Rattle.model.specs.Gates.{word_of}
use Rattle.sheets.proofs.cursor.Cursor.gate_kind.Goals as goal

pub returns-in_err-word : goal.returns-in_err-word
returns-in_err-word c =
    let said = c.in_err-word.ensures in
    let p = err_from_is_err_and c.from_residual.result c.from_residual.ensures.1 in
    record { stays = said.stays; word = rw (p.1, p.2) (said.next.0, λ k rest e. said.next.1 (named (word_of k) (kind_name k)).0 rest (word_next _ rest k e)) }

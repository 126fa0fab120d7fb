use Rattle.std.proofs.lemmas.Result.{err_from_is_err_and}
use Rattle.model.specs.declared.fault.Refusal.TheVariants.{NoForm}
use Rattle.table.specs.Tables.{keys_of}
use Rattle.sheets.specs.Cursors.{ahead}
use Rattle.sheets.specs.Drafts.{ReadOutput}
use Rattle.sheets.specs.Sides.{Word}
use Rattle.sheets.proofs.Placed.{read_placed}
use Rattle.sheets.proofs.rule_sheet.read_output.Goals as goal
use Rattle.sheets.proofs.Drafts.{same_lists}
use Rattle.sheets.proofs.rule_sheet.read_output.Goals.{In_ok-name}

abbrev word : (c : In_ok-name) → Word
word c = record { name = c.in_ok-name.name; some = c.in_ok-name.ensures.next.1 }

pub returns-in_err-name : goal.returns-in_err-name
returns-in_err-name c =
    let said = c.in_err-name.ensures in
    let p = err_from_is_err_and c.from_residual.result c.from_residual.ensures.1 in
    record { stays = said.stays; lent = same_lists _; output = rw (p.1, p.2) (NoForm, said.next.0, ReadOutput.formless (λ w e. said.next.1 w.name (e, w.some))) }

pub returns-clause-output : goal.returns-clause-output
returns-clause-output c =
    let said = c.in_ok-name.ensures in
    read_placed (ReadOutput (keys_of c.args.draft.now.names.now) c.args.draft.now (ahead c.args.cursor.now) c.list_output.new.self) c.list_output.result c.placed.result _ _ said.stays
    (ReadOutput.judged (word (goal.at.returns-clause-output c).In_ok-name) said.next.0 c.list_output.ensures.judged) c.placed.ensures

use Rattle.std.proofs.Common.{sym, ◌∙◌}
use Rattle.model.specs.Spelling.{spelling}
use Rattle.table.specs.Tables.{keys_of}
use Rattle.sheets.proofs.Lookups.{absent_signal, alike_bytes, found_signal}
use Rattle.sheets.proofs.draft.Draft.look_up.Goals as goal

pub returns-in_err-number : goal.returns-in_err-number
returns-in_err-number c =
    c.from_residual.ensures ∙ sym (absent_signal (keys_of c.args.self.now.names.now) (spelling c.args.name) (λ i x at. sym (alike_bytes x.name c.args.name) ∙ c.in_err-number.ensures i x at))

pub returns : goal.returns
returns c =
    sym (found_signal (keys_of c.args.self.now.names.now) c.args.self.now.names.now.apart c.args.name c.in_ok-number.number c.in_ok-symbol.symbol c.in_ok-number.ensures (sym c.in_ok-symbol.ensures))

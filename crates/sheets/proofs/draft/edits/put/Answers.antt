use Rattle.std.proofs.Common.{sym, arith}
use Rattle.std.proofs.lemmas.List.{set_past}
use Rattle.sheets.proofs.draft.edits.put.Goals as goal

pub returns-else-place-list : goal.returns-else-place-list
returns-else-place-list g c = sym (set_past c.args.list.now c.args.place c.args.value (omega arith))

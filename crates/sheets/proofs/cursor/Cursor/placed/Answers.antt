use Rattle.std.proofs.Common.{of_calls, rules}
use Rattle.sheets.proofs.Placed.{placed_from}
use Rattle.sheets.proofs.cursor.Cursor.placed.Goals as goal

pub returns : goal.returns
returns c = placed_from c.args.answer c.map_err.result c.args.self.now.line _ c.map_err.ensures.cases (λ e f k. search (of_calls, rules))

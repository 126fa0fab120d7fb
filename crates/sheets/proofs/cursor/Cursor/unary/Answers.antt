use Rattle.std.proofs.Common.{ap, ◌∙◌}
use Rattle.model.specs.Gates.{one_argument}
use Rattle.model.specs.Spelling.{spelling}
use Rattle.table.specs.Tables.{keys_of}
use Rattle.sheets.specs.Sides.{Word}
use Rattle.sheets.specs.Symbols.{known}
use Rattle.sheets.proofs.GateSides.{noted_one}
use Rattle.sheets.proofs.cursor.Cursor.unary.Goals as goal

pub returns : goal.returns
returns c =
    let said = c.in_ok-argument.ensures in
    let n = c.in_ok-argument.argument in
    let a : Word = record { name = n; some = said.next.1 } in
    let looked = c.signal_of-signal.ensures in
    let d = c.args.draft.now in
    record {
      stays = said.stays;
      lent = looked.lent;
      gate = record {
        argument = a;
        tokens = said.next.0;
        made = c.unary.ensures ∙ ap (one_argument c.args.kind) looked.signal;
        noted = record { unknown = looked.unknown ∙ noted_one d.unknown (known (keys_of c.args.draft.now.names.now) (spelling n)); gates = looked.gates; count = looked.count; others = looked.others };
      };
    }

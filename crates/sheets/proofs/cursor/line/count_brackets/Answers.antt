use Rattle.std.proofs.Common.{rules, ◌≡◌, ◌∙◌, arith}
use Rattle.std.specs.Prelude.{fold}
use Rattle.sheets.proofs.Bracketing.{count_step, counts_up}
use Rattle.sheets.proofs.cursor.line.count_brackets.Goals as goal

pub returns : goal.returns
returns c =
    let folded : c.fold.result ≡ fold count_step 0 c.args.line.now = search rules in
    folded ∙ counts_up c.args.line.now 0 (omega arith) ∙ omega arith

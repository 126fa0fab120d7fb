use Rattle.std.proofs.Common.{arith}
use Rattle.sheets.proofs.Bracketing.{brackets_bytes}
use Rattle.sheets.proofs.cursor.Cursor.check_brackets.Goals as goal

pub returns-then-count_brackets-gt-MAX_BRACKETS : goal.returns-then-count_brackets-gt-MAX_BRACKETS
returns-then-count_brackets-gt-MAX_BRACKETS c = (c.refuse.ensures, omega (arith, brackets_bytes c.args.self.now.rest.now))

pub returns : goal.returns
returns c = omega (arith, brackets_bytes c.args.self.now.rest.now)

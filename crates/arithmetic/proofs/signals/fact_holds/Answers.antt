use Rattle.std.proofs.Common.{sym, ◌∙◌, arith}
use Rattle.std.proofs.lemmas.Bool.{le-ltb}
use Rattle.arithmetic.proofs.Assignments.{assigns_all, fails_beyond}
use Rattle.arithmetic.proofs.signals.fact_holds.Goals as goal

pub returns-else-fact-lt64 : goal.returns-else-fact-lt64
returns-else-fact-lt64 c =
    le-ltb c.args.fact 64 c.if-fact-lt64.false
    ∙ sym (fails_beyond c.args.assignment c.args.fact (assigns_all c.args.assignment c.args.fact (omega arith) c.if-fact-lt64.false))

use Rattle.std.proofs.Common.{arith}
use Rattle.arithmetic.proofs.Assignments.{assigns_all, assigns_shifted}
use Rattle.arithmetic.proofs.net.Net.check_assignment.Goals as goal
use Rattle.arithmetic.proofs.net.Net.check_assignment.Goals.{else-self-lt64-via-then-self-lt64+else-assignment-self-ne0, else-self-lt64-via-else-self-lt64}

pub returns : goal.returns
returns c =
    elim c.else-self-lt64.branch [
      | else-self-lt64-via-then-self-lt64+else-assignment-self-ne0 w ↦ assigns_shifted c.args.assignment c.args.self.now.facts w.if-assignment-self-ne0.false
      | else-self-lt64-via-else-self-lt64 w ↦ assigns_all c.args.assignment c.args.self.now.facts (omega arith) w.if-self-lt64.false
    ]

use Rattle.std.proofs.Common.{inl}
use Rattle.std.proofs.lemmas.Result.{err_from_is_err_and}
use Rattle.arithmetic.proofs.Verdicts.{one_net_verdict, outputs_decide}
use Rattle.arithmetic.proofs.net.Net.check.Goals as goal

pub returns-in_err-check_gates : goal.returns-in_err-check_gates
returns-in_err-check_gates g c =
    let p = err_from_is_err_and c.from_residual.result c.from_residual.ensures.1 in
    record { verdict = rw (p.1, p.2) (inl c.in_err-check_gates.ensures); unique = one_net_verdict g.A.Arithmetic.ring }

pub returns : goal.returns
returns g c = record { verdict = outputs_decide g.A.Arithmetic.ring c.args.self.now.facts c.args.self.now.gates.now c.args.self.now.outputs.now c.check_outputs.result c.in_ok-check_gates.ensures c.check_outputs.ensures; unique = one_net_verdict g.A.Arithmetic.ring }

use Rattle.std.proofs.Common.{Err, sym, subst, ⊎_elim, arith}
use Rattle.std.proofs.lemmas.Result.{err_from_is_err_and}
use Rattle.model.specs.declared.fault.Fault.{Fault}
use Rattle.arithmetic.specs.Evaluation.{Evaluates, too_large, refused, unassigned, evaluated, Roomy}
use Rattle.arithmetic.proofs.NetLaws.{net_laws}
use Rattle.arithmetic.proofs.RingLaws.{derived_laws}
use Rattle.arithmetic.proofs.net.Net.evaluate.Goals as goal

pub returns-then-gates-gt-MAX_GATES : goal.returns-then-gates-gt-MAX_GATES
returns-then-gates-gt-MAX_GATES g c =
    let R = g.A.Arithmetic.ring in
    let met = g.met.A.Arithmetic in
    let before = c.args.values.now in
    let E : Fault → Type 0 = λ f. Evaluates R c.args.self.now.facts c.args.self.now.gates.now c.args.self.now.outputs.now c.args.assignment before (Err f) before in
    record {
      values = subst E (sym c.at.ensures) (too_large (λ roomy. ⊎_elim (λ many. omega (arith, roomy.few)) (λ short. omega (arith, roomy.fit, short)) c.then-gates-gt-MAX_GATES.either));
      laws = net_laws R met.closed;
      derived = derived_laws R met.closed met.laws;
    }

pub returns-in_err-check : goal.returns-in_err-check
returns-in_err-check g c =
    let R = g.A.Arithmetic.ring in
    let met = g.met.A.Arithmetic in
    let p = err_from_is_err_and c.from_residual.result c.from_residual.ensures.1 in
    let room : Roomy _ _ = record { few = c.if-gates-gt-MAX_GATES.false; fit = c.if-gates-values.false } in
    record {
      values = rw (p.1, p.2) (refused room c.in_err-check.field-0.0 c.in_err-check.ensures.verdict);
      laws = net_laws R met.closed;
      derived = derived_laws R met.closed met.laws;
    }

pub returns-in_err-check_assignment : goal.returns-in_err-check_assignment
returns-in_err-check_assignment g c =
    let R = g.A.Arithmetic.ring in
    let met = g.met.A.Arithmetic in
    let p = err_from_is_err_and c.from_residual-in_err-check_assignment.result c.from_residual-in_err-check_assignment.ensures.1 in
    let room : Roomy _ _ = record { few = c.if-gates-gt-MAX_GATES.false; fit = c.if-gates-values.false } in
    let why = c.in_err-check_assignment.ensures in
    record {
      values = rw (p.1, p.2, why.0) (unassigned room c.in_ok-check.ensures.verdict why.1);
      laws = net_laws R met.closed;
      derived = derived_laws R met.closed met.laws;
    }

pub returns : goal.returns
returns g c =
    let R = g.A.Arithmetic.ring in
    let met = g.met.A.Arithmetic in
    let room : Roomy _ _ = record { few = c.if-gates-gt-MAX_GATES.false; fit = c.if-gates-values.false } in
    record {
      values = rw c.write_values.ensures (evaluated room c.in_ok-check.ensures.verdict c.in_ok-check_assignment.ensures);
      laws = net_laws R met.closed;
      derived = derived_laws R met.closed met.laws;
    }

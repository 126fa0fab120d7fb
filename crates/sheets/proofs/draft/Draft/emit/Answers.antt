use Rattle.model.specs.Gates.{empty_gate}
use Rattle.sheets.proofs.Rests.{put_rest}
use Rattle.sheets.proofs.draft.Draft.emit.Goals as goal

pub invariant_of-self-clause-gates_rest : goal.invariant_of-self-clause-gates_rest
invariant_of-self-clause-gates_rest c =
    let d = c.args.self.now in
    rw c.put.ensures (put_rest empty_gate d.gates.now d.gate_count c.args.gate d.gates_rest)

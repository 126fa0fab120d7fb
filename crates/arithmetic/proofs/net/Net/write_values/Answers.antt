use Rattle.std.proofs.Common.{◌≡◌, length, arith}
use Rattle.std.proofs.lemmas.List.{take_all}
use Rattle.model.specs.Assignments.{holds}
use Rattle.arithmetic.proofs.NetValues.{written_more}
use Rattle.arithmetic.proofs.net.Net.write_values.Goals as goal

pub loop-place-preserved : goal.loop-place-preserved
loop-place-preserved g c =
    written_more g.A.Arithmetic.ring c.args.self.now.facts (holds c.args.assignment) c.args.self.now.gates.now
    c.args.values.now c.loop-place.values c.loop-place.place c.gate_value.result
    c.requires.checked c.loop-place-test.true c.requires.room c.loop-place.invariant c.gate_value.ensures

pub returns : goal.returns
returns g c =
    let gates = c.args.self.now.gates.now in
    let end : c.loop-place.place ≡ length gates = omega (arith, c.loop-place.auto.place-end) in
    rw (end, take_all (length gates) gates (omega arith)) at c.loop-place.invariant

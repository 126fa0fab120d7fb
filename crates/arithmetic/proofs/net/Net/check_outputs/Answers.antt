use Rattle.std.proofs.Common.{◌+◌, length, below_more}
use Rattle.arithmetic.proofs.Verdicts.{output_passes}
use Rattle.arithmetic.proofs.net.Net.check_outputs.Goals as goal

pub loop-place-preserved : goal.loop-place-preserved
loop-place-preserved c =
    let signals = c.args.self.now.facts + length c.args.self.now.gates.now in
    let read = c.output-item in
    below_more _ _ c.loop-place.invariant
    (output_passes signals c.args.self.now.outputs.now c.loop-place.place read.result c.loop-place-test.true read.is c.if-not-is_signal.ensures)

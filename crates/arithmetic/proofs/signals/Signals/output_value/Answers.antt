use Rattle.std.proofs.Common.{◌∙◌}
use Rattle.model.specs.Assignments.{holds}
use Rattle.arithmetic.proofs.NetValues.{signal_of_list}
use Rattle.arithmetic.proofs.signals.Signals.output_value.Goals as goal

pub returns : goal.returns
returns g c = record {
  answer = c.value.ensures;
  meaning = λ gates is lt.
      c.value.ensures ∙ signal_of_list g.A.Arithmetic.ring c.args.self.now.facts (holds c.args.self.now.assignment) gates c.args.self.now.values.now c.args.output.now.signal is lt;
}

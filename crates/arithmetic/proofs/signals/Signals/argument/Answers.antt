use Rattle.std.proofs.Common.{unwrap_or, ap, ◌∙◌}
use Rattle.model.specs.Assignments.{holds}
use Rattle.arithmetic.proofs.NetValues.{value_or_nothing}
use Rattle.arithmetic.proofs.signals.Signals.argument.Goals as goal

pub returns : goal.returns
returns g c = c.unwrap_or.ensures ∙ ap (λ o. unwrap_or o 0) c.value.ensures ∙ value_or_nothing g.A.Arithmetic.ring c.args.self.now.facts (holds c.args.self.now.assignment) c.args.self.now.values.now c.args.signal

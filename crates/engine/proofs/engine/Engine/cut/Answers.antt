use Rattle.engine.specs.Runs.{cuts}
use Rattle.engine.proofs.engine.Engine.cut.Goals as goal

pub returns-clause-does : goal.returns-clause-does
returns-clause-does g c = rw c.cut.ensures.nodes (cuts c.args.count)

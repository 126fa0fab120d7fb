use Rattle.engine.specs.Questions.{types_of}
use Rattle.engine.proofs.Running.{alike}
use Rattle.engine.proofs.engine.Engine.open.Goals as goal

pub returns-clause-alike : goal.returns-clause-alike
returns-clause-alike g c = let laws = g.met.A.Arithmetic in alike g.A.Arithmetic.ring laws.closed laws.laws (types_of c.args.order) _

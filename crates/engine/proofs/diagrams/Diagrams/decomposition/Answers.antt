use Rattle.std.proofs.Common.{rules}
use Rattle.model.specs.Orders.{facts_of}
use Rattle.model.specs.declared.decomposition.Decomposition.TheVariants.{Shannon}
use Rattle.engine.proofs.Reading.{read_map}
use Rattle.engine.proofs.diagrams.Diagrams.decomposition.Goals as goal

pub returns : goal.returns
returns g c = read_map (λ f. f.decomposition) Shannon (facts_of c.args.self.now.order.now) c.args.fact c.fact.result c.map_or.result c.fact.ensures (search rules)

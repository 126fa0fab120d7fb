use Rattle.std.proofs.Common.{◌≡◌, ◌<◌, length, get_or, sym, ap, ◌∙◌, subst, arith}
use Rattle.model.specs.declared.decomposition.Decomposition.TheVariants.{Shannon}
use Rattle.model.specs.declared.order.Order.{Order}
use Rattle.model.specs.declared.root.Root.{Root}
use Rattle.kfdd.specs.Joining.{fact_parts, fact_root}
use Rattle.kfdd.specs.RecipeLaws.{Joinable}
use Rattle.engine.specs.Outcomes.{Joins}
use Rattle.engine.specs.Questions.{types_of}
use Rattle.engine.specs.Runs.{joins}
use Rattle.engine.proofs.Reading.{types_long}
use Rattle.engine.proofs.Running.{comes_grown, comes_held, fact_comes, fact_grown, fact_joinable}
use Rattle.engine.proofs.engine.Engine.fact.Goals as goal

pub join-requires : goal.join-requires
join-requires g c =
    let laws = g.met.A.Arithmetic in
    let self = c.args.self.now in
    let known : c.args.fact < length (types_of self.order) = omega (arith, c.requires.known, types_long self.order) in
    subst (λ (p : Root × Root). Joinable g.A.Arithmetic.ring (types_of self.order) (g.S.Store.nodes self.store) c.args.fact p.0 p.1) (sym c.fact_parts-low.ensures)
    (fact_joinable g.A.Arithmetic.ring laws.closed laws.laws (types_of self.order) (g.S.Store.nodes self.store) self.reduced c.args.fact known _)

pub returns : goal.returns
returns g c =
    let laws = g.met.A.Arithmetic in
    let R = g.A.Arithmetic.ring in
    let self = c.args.self.now in
    let types = types_of self.order in
    let capacity = g.S.Store.capacity self.store in
    let ns = g.S.Store.nodes self.store in
    let f = c.args.fact in
    let known : f < length types = omega (arith, c.requires.known, types_long self.order) in
    let r = c.join.result in
    let after = g.S.Store.nodes c.join.new.self.store in
    let said = c.join.ensures in
    let parts : c.fact_parts-low.result ≡ fact_parts R (get_or types f Shannon) = c.fact_parts-low.ensures ∙ ap (λ (o : Order). fact_parts R (get_or (types_of o) f Shannon)) c.diagrams.ensures.order in
    let joined = subst (λ (p : Root × Root). Joins R types capacity ns f p.0 p.1 r after) parts said.joins in
    let came = fact_comes R laws.closed laws.laws types ns self.reduced f known capacity r after joined in
    let grows = fact_grown R laws.closed laws.laws types ns self.reduced f known in
    record {
      comes = came;
      does = joins known came;
      held = comes_held (λ n. fact_root R types n ns f) capacity ns R grows r after came;
      grown = comes_grown (λ n. fact_root R types n ns f) capacity ns R grows r after came;
      stays = said.stays;
    }

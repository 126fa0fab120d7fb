use Rattle.std.proofs.Common.{true, false, arith}
use Rattle.std.proofs.lemmas.Result.{err_from_is_err_and}
use Rattle.storage.proofs.Stored.{placed_small}
use Rattle.engine.specs.Questions.{types_of}
use Rattle.engine.proofs.Asked.{remembered_after}
use Rattle.engine.proofs.Stored.{drops_told, joins_dropped, joins_placed, joins_refused, placed_keeps}
use Rattle.engine.proofs.engine.Engine.join.Goals as goal

pub returns-then-drops-clause-joins : goal.returns-then-drops-clause-joins
returns-then-drops-clause-joins g c =
    let R = g.A.Arithmetic.ring in
    let self = c.args.self.now in
    let tested = drops_told R c.args.fact c.args.low c.args.high self.order _ c.diagrams.ensures.order true _ c.drops.ensures c.if-drops.true in
    joins_dropped R (types_of self.order) (g.S.Store.capacity self.store) (g.S.Store.nodes self.store) c.args.fact c.args.low c.args.high tested

pub invariant_of-self : goal.invariant_of-self
invariant_of-self g c =
    let R = g.A.Arithmetic.ring in
    let laws = g.met.A.Arithmetic in
    let self = c.args.self.now in
    let types = types_of self.order in
    let ns = g.S.Store.nodes self.store in
    let after = g.S.Store.nodes c.find_or_add.new.self in
    let tested = drops_told R c.args.fact c.args.low c.args.high self.order _ c.diagrams.ensures.order false _ c.drops.ensures c.if-drops.false in
    let kept = placed_keeps R laws.closed laws.laws types (g.S.Store.capacity self.store) ns self.reduced (g.met.S.Store.stored self.store) c.args.fact c.args.low c.args.high c.requires tested
    c.find_or_add.result after c.find_or_add.ensures.nodes in
    record {
      reduced = kept.1;
      remembers = λ e member. remembered_after R laws.closed laws.laws types ns self.reduced after kept.0 e (self.remembers e member);
    }

pub returns-in_err-place-clause-joins : goal.returns-in_err-place-clause-joins
returns-in_err-place-clause-joins g c =
    let R = g.A.Arithmetic.ring in
    let self = c.args.self.now in
    let tested = drops_told R c.args.fact c.args.low c.args.high self.order _ c.diagrams.ensures.order false _ c.drops.ensures c.if-drops.false in
    let p = err_from_is_err_and c.from_residual.result c.from_residual.ensures.1 in
    rw (p.1, p.2) (joins_refused R (types_of self.order) (g.S.Store.capacity self.store) (g.S.Store.nodes self.store) c.args.fact c.args.low c.args.high tested c.in_err-place.field-0.0 (g.S.Store.nodes c.find_or_add.new.self) c.in_err-place.ensures.nodes)

pub overflow_cast-result : goal.overflow_cast-result
overflow_cast-result g c =
    let store = c.args.self.now.store in
    omega (arith, placed_small (g.S.Store.capacity store) (g.S.Store.nodes store) _ c.in_ok-place.place (g.S.Store.nodes c.find_or_add.new.self) (g.met.S.Store.stored store) c.in_ok-place.ensures.nodes)

pub returns-clause-joins : goal.returns-clause-joins
returns-clause-joins g c =
    let R = g.A.Arithmetic.ring in
    let self = c.args.self.now in
    let tested = drops_told R c.args.fact c.args.low c.args.high self.order _ c.diagrams.ensures.order false _ c.drops.ensures c.if-drops.false in
    joins_placed R (types_of self.order) (g.S.Store.capacity self.store) (g.S.Store.nodes self.store) c.args.fact c.args.low c.args.high tested (g.met.S.Store.stored self.store) c.in_ok-place.place (g.S.Store.nodes c.find_or_add.new.self) c.in_ok-place.ensures.nodes

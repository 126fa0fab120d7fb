use Rattle.std.proofs.Common.{List, sym, subst, subst₂, arith, rules}
use Rattle.std.proofs.lemmas.List.{length-reverse}
use Rattle.engine.specs.Frames.{open_frames}
use Rattle.engine.specs.Questions.{types_of}
use Rattle.engine.specs.Stages.{Divides}
use Rattle.engine.specs.Underway.{TurnsTo}
use Rattle.model.specs.declared.order.Order.{Order}
use Rattle.engine.specs.declared.frame.Frame.{Frame}
use Rattle.engine.specs.declared.turn.Turn.TheVariants.{Ask}
use Rattle.engine.proofs.Asked.{outcome_known}
use Rattle.engine.proofs.Newest.{newest}
use Rattle.engine.proofs.Reading.{types_few}
use Rattle.engine.proofs.Turning.{answered_turn, few, split_turn}
use Rattle.engine.proofs.engine.Engine.begin.Goals as goal

pub returns-in-Some-clause-turns : goal.returns-in-Some-clause-turns
returns-in-Some-clause-turns g c =
    let laws = g.met.A.Arithmetic in
    let R = g.A.Arithmetic.ring in
    let self = c.args.self.now in
    let types = types_of self.order in
    let ns = g.S.Store.nodes self.store in
    let q = c.args.question in
    let r = c.in-Some.root in
    answered_turn R laws.closed laws.laws types (g.S.Store.capacity self.store) ns self.reduced (open_frames self.frames) q c.requires.fits r
    (outcome_known R types ns (g.M.Memo.answers self.memo) self.remembers q r c.at_once.result c.or_else.result c.at_once.ensures c.in-Some.is (search rules))

pub push-requires : goal.push-requires
push-requires g c =
    let laws = g.met.A.Arithmetic in
    let R = g.A.Arithmetic.ring in
    let self = c.args.self.now in
    let q = c.args.question in
    let first = c.divide-first.result in
    let divides = subst₂ (λ (o : Order) s. Divides R (types_of o) (g.S.Store.nodes s) q first.0 first.1) c.diagrams.ensures.order c.diagrams.ensures.store c.divide-first.ensures in
    let room = few R laws.closed laws.laws (types_of self.order) (g.S.Store.capacity self.store) (g.S.Store.nodes self.store) self.reduced (open_frames self.frames) q c.requires.fits first.0 first.1 divides in
    (omega arith, omega (arith, room, types_few self.order, length-reverse self.frames.items))

pub returns-clause-turns : goal.returns-clause-turns
returns-clause-turns g c =
    let laws = g.met.A.Arithmetic in
    let R = g.A.Arithmetic.ring in
    let self = c.args.self.now in
    let types = types_of self.order in
    let capacity = g.S.Store.capacity self.store in
    let ns = g.S.Store.nodes self.store in
    let fs = open_frames self.frames in
    let q = c.args.question in
    let first = c.divide-first.result in
    let divides = subst₂ (λ (o : Order) s. Divides R (types_of o) (g.S.Store.nodes s) q first.0 first.1) c.diagrams.ensures.order c.diagrams.ensures.store c.divide-first.ensures in
    subst (λ (fs' : List Frame). TurnsTo R types capacity ns fs (Ask q) ns fs' (Ask first.1)) (sym (newest c.push.new.self.items self.frames.items first.0 c.push.ensures.items))
    (split_turn R laws.closed laws.laws types capacity ns self.reduced fs q c.requires.fits first.0 first.1 divides)

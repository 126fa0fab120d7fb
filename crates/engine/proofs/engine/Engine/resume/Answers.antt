use Rattle.std.proofs.Common.{List, sym, subst, subst₂}
use Rattle.std.proofs.lemmas.Result.{err_from_is_err_and}
use Rattle.model.specs.declared.order.Order.{Order}
use Rattle.engine.specs.Frames.{open_frames}
use Rattle.engine.specs.Questions.{types_of}
use Rattle.engine.specs.Soundness.{Remembers}
use Rattle.engine.specs.Underway.{Fits, Stops, TurnsTo, Underway}
use Rattle.engine.specs.declared.frame.Frame.{Frame}
use Rattle.engine.specs.declared.turn.Turn.TheVariants.{Ask, Answer}
use Rattle.engine.proofs.Newest.{changed, lent, taken_off}
use Rattle.engine.proofs.Turning.{asks_turn, full_stop, joinable, joined_remembers, joined_turn, joins_done, joins_full}
use Rattle.engine.proofs.engine.Engine.resume.Goals as goal

pub returns-in-Ask-clause-turns : goal.returns-in-Ask-clause-turns
returns-in-Ask-clause-turns g c =
    let laws = g.met.A.Arithmetic in
    let R = g.A.Arithmetic.ring in
    let self = c.args.self.now in
    let types = types_of self.order in
    let capacity = g.S.Store.capacity self.store in
    let ns = g.S.Store.nodes self.store in
    let answer = c.args.answer in
    let q = c.in-Ask.question in
    let after = c.advance.new.self in
    let was = lent self.frames.items c.deref_mut.result.now c.len-newest.result c.deref_mut.ensures.value c.len-newest.ensures.value c.requires.waits _ in
    let is = changed self.frames.items c.deref_mut.result.now c.len-newest.result c.deref_mut.ensures.value c.len-newest.ensures.value c.requires.waits after in
    let fits = subst (λ (fs : List Frame). Fits R types ns fs (Answer answer)) was c.requires.fits in
    subst₂ (λ (fs fs' : List Frame). TurnsTo R types capacity ns fs (Answer answer) ns fs' (Ask q)) (sym was) (sym is)
    (asks_turn R laws.closed laws.laws types capacity ns self.reduced _ _ answer fits after q c.in-Ask.ensures)

pub join-requires : goal.join-requires
join-requires g c =
    let laws = g.met.A.Arithmetic in
    let R = g.A.Arithmetic.ring in
    let self = c.args.self.now in
    let types = types_of self.order in
    let capacity = g.S.Store.capacity self.store in
    let ns = g.S.Store.nodes self.store in
    let answer = c.args.answer in
    let p = c.unwrap-frame.result in
    let low = c.in-Join.low in
    let high = c.in-Join.high in
    let rest = open_frames c.pop.new.self in
    let off = taken_off self.frames.items c.deref_mut.result.now c.len-newest.result c.deref_mut.ensures.value c.len-newest.ensures.value c.requires.waits
    _ c.advance.new.self p answer low high c.in-Join.ensures c.pop.new.self.items c.pop.result c.unwrap-frame.ensures c.pop.ensures.items in
    let fits = subst (λ (fs : List Frame). Fits R types ns fs (Answer answer)) off.0 c.requires.fits in
    joinable R laws.closed laws.laws types capacity ns self.reduced p rest answer fits p low high off.1

pub invariant_of-self-in-Join-2 : goal.invariant_of-self-in-Join-2
invariant_of-self-in-Join-2 g c =
    let laws = g.met.A.Arithmetic in
    let R = g.A.Arithmetic.ring in
    let self = c.args.self.now in
    let types = types_of self.order in
    let capacity = g.S.Store.capacity self.store in
    let ns = g.S.Store.nodes self.store in
    let answer = c.args.answer in
    let p = c.unwrap-frame.result in
    let low = c.in-Join.low in
    let high = c.in-Join.high in
    let rest = open_frames c.pop.new.self in
    let off = taken_off self.frames.items c.deref_mut.result.now c.len-newest.result c.deref_mut.ensures.value c.len-newest.ensures.value c.requires.waits
    _ c.advance.new.self p answer low high c.in-Join.ensures c.pop.new.self.items c.pop.result c.unwrap-frame.ensures c.pop.ensures.items in
    let fits = subst (λ (fs : List Frame). Fits R types ns fs (Answer answer)) off.0 c.requires.fits in
    let joined = c.join.new.self in
    let ms = g.S.Store.nodes joined.store in
    let r = c.in_ok-root-in-Join.root in
    let said = c.in_ok-root-in-Join.ensures in
    let came = joins_done R laws.closed laws.laws types capacity ns self.reduced p.fact low high r ms said.joins in
    let u = c.requires.underway in
    let underway = subst (λ (fs : List Frame). Underway R types capacity u.0 u.1 ns fs (Answer answer)) off.0 u.2 in
    let remembers = subst (λ (o : Order). Remembers R (types_of o) ms (g.M.Memo.answers joined.memo)) said.stays.order joined.remembers in
    record {
      reduced = joined.reduced;
      remembers = subst (λ (o : Order). Remembers R (types_of o) ms (g.M.Memo.answers c.keep.new.self)) (sym said.stays.order)
          (joined_remembers R laws.closed laws.laws types capacity ns self.reduced p rest answer fits p low high off.1
          ms r came u.0 u.1 underway (g.M.Memo.answers joined.memo) _ remembers c.keep.ensures.answers);
    }

pub returns-in_ok-root-in-Join-clause-turns : goal.returns-in_ok-root-in-Join-clause-turns
returns-in_ok-root-in-Join-clause-turns g c =
    let laws = g.met.A.Arithmetic in
    let R = g.A.Arithmetic.ring in
    let self = c.args.self.now in
    let types = types_of self.order in
    let capacity = g.S.Store.capacity self.store in
    let ns = g.S.Store.nodes self.store in
    let answer = c.args.answer in
    let p = c.unwrap-frame.result in
    let low = c.in-Join.low in
    let high = c.in-Join.high in
    let rest = open_frames c.pop.new.self in
    let off = taken_off self.frames.items c.deref_mut.result.now c.len-newest.result c.deref_mut.ensures.value c.len-newest.ensures.value c.requires.waits
    _ c.advance.new.self p answer low high c.in-Join.ensures c.pop.new.self.items c.pop.result c.unwrap-frame.ensures c.pop.ensures.items in
    let fits = subst (λ (fs : List Frame). Fits R types ns fs (Answer answer)) off.0 c.requires.fits in
    let ms = g.S.Store.nodes c.join.new.self.store in
    let r = c.in_ok-root-in-Join.root in
    let said = c.in_ok-root-in-Join.ensures in
    let came = joins_done R laws.closed laws.laws types capacity ns self.reduced p.fact low high r ms said.joins in
    rw said.frames (
    subst (λ (fs : List Frame). TurnsTo R types capacity ns fs (Answer answer) ms rest (Answer r)) (sym off.0)
    (joined_turn R laws.closed laws.laws types capacity ns self.reduced p rest answer fits p low high off.1 ms r came)
    )

pub returns-in_err-root-in-Join-clause-turns : goal.returns-in_err-root-in-Join-clause-turns
returns-in_err-root-in-Join-clause-turns g c =
    let laws = g.met.A.Arithmetic in
    let R = g.A.Arithmetic.ring in
    let self = c.args.self.now in
    let types = types_of self.order in
    let capacity = g.S.Store.capacity self.store in
    let ns = g.S.Store.nodes self.store in
    let answer = c.args.answer in
    let p = c.unwrap-frame.result in
    let low = c.in-Join.low in
    let high = c.in-Join.high in
    let rest = open_frames c.pop.new.self in
    let off = taken_off self.frames.items c.deref_mut.result.now c.len-newest.result c.deref_mut.ensures.value c.len-newest.ensures.value c.requires.waits
    _ c.advance.new.self p answer low high c.in-Join.ensures c.pop.new.self.items c.pop.result c.unwrap-frame.ensures c.pop.ensures.items in
    let fits = subst (λ (fs : List Frame). Fits R types ns fs (Answer answer)) off.0 c.requires.fits in
    let e = c.in_err-root-in-Join.field-0.0 in
    let came = joins_full R laws.closed laws.laws types capacity ns self.reduced p.fact low high e (g.S.Store.nodes c.join.new.self.store) c.in_err-root-in-Join.ensures.joins in
    let out = err_from_is_err_and c.from_residual.result c.from_residual.ensures.1 in
    rw (out.1, out.2) (
      came.0,
      subst₂ (λ (fs : List Frame) after. Stops R types capacity ns fs (Answer answer) after) (sym off.0) (sym came.1)
          (full_stop R laws.closed laws.laws types capacity ns self.reduced p rest answer fits p low high off.1 came.2 came.3),
    )

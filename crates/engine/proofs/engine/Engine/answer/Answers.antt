use Rattle.std.proofs.Common.{sym, ap, ◌∙◌, subst₂}
use Rattle.std.proofs.lemmas.Result.{err_from_is_err_and}
use Rattle.engine.specs.Frames.{open_frames}
use Rattle.engine.specs.Questions.{outcome, types_of}
use Rattle.engine.specs.Runs.{asks}
use Rattle.engine.proofs.Newest.{none_left}
use Rattle.engine.proofs.Running.{comes_grown, outcome_grown}
use Rattle.engine.proofs.Working.{Working, began, ended, resumed, stopped}
use Rattle.engine.proofs.engine.Engine.answer.Goals as goal

pub loop-turn-preserved-in-Ask : goal.loop-turn-preserved-in-Ask
loop-turn-preserved-in-Ask g c =
    let R = g.A.Arithmetic.ring in
    let start = g.S.Store.nodes c.args.self.now.store in
    let q = c.args.question in
    let self = c.loop-turn.self in
    let self' = c.begin-turn.new.self in
    let inv = c.loop-turn.invariant in
    let said = c.begin-turn.ensures in
    let fs' = open_frames self'.frames in
    let turn' = c.begin-turn.result in
    let w = began R start q (types_of self.order) (g.S.Store.capacity self.store) (g.S.Store.nodes self.store) (open_frames self.frames) c.loop-turn.turn inv.0 c.in-Ask.part c.in-Ask.is fs' turn' said.turns in (
      subst₂ (λ o s. Working R (types_of o) (g.S.Store.capacity s) (g.S.Store.nodes s) fs' turn' start q) (sym said.order) (sym said.store) w,
      record {
        order = said.order ∙ inv.1.order;
        store = rw said.store inv.1.store;
        memo = ap g.M.Memo.lent said.memo ∙ inv.1.memo;
      },
    )

pub loop-turn-preserved : goal.loop-turn-preserved
loop-turn-preserved g c =
    let R = g.A.Arithmetic.ring in
    let start = g.S.Store.nodes c.args.self.now.store in
    let q = c.args.question in
    let self = c.loop-turn.self in
    let self' = c.resume.new.self in
    let inv = c.loop-turn.invariant in
    let said = c.in_ok-turn-in-Answer.ensures in
    let w = resumed R start q (types_of self.order) (g.S.Store.capacity self.store) (g.S.Store.nodes self.store) (open_frames self.frames) c.loop-turn.turn inv.0 c.in-Answer.root c.in-Answer.is
    (types_of self'.order) (ap types_of said.stays.order) (g.S.Store.capacity self'.store) said.stays.store.capacity (g.S.Store.nodes self'.store) (open_frames self'.frames) _ said.turns in
    (w, record { order = said.stays.order ∙ inv.1.order; store = record { capacity = said.stays.store.capacity ∙ inv.1.store.capacity; lent = said.stays.store.lent ∙ inv.1.store.lent }; memo = said.stays.memo ∙ inv.1.memo })

pub returns-then-is_empty-clause-comes : goal.returns-then-is_empty-clause-comes
returns-then-is_empty-clause-comes g c =
    let entry = c.args.self.now in
    let self = c.loop-turn.self in
    let inv = c.loop-turn.invariant in
    ended g.A.Arithmetic.ring (g.S.Store.nodes entry.store) c.args.question (types_of self.order) (g.S.Store.capacity self.store) (g.S.Store.nodes self.store) (open_frames self.frames) c.loop-turn.turn inv.0 c.in-Answer.root c.in-Answer.is
    (types_of entry.order) (ap types_of inv.1.order) (g.S.Store.capacity entry.store) inv.1.store.capacity (none_left self.frames.items c.if-is_empty.ensures)

pub returns-then-is_empty-clause-does : goal.returns-then-is_empty-clause-does
returns-then-is_empty-clause-does g c = asks c.requires.held (returns-then-is_empty-clause-comes g c)

pub returns-in_err-turn-in-Answer-clause-comes : goal.returns-in_err-turn-in-Answer-clause-comes
returns-in_err-turn-in-Answer-clause-comes g c =
    let laws = g.met.A.Arithmetic in
    let entry = c.args.self.now in
    let self = c.loop-turn.self in
    let inv = c.loop-turn.invariant in
    let said = c.in_err-turn-in-Answer.ensures in
    let out = err_from_is_err_and c.from_residual.result c.from_residual.ensures.1 in
    rw (out.1, out.2, said.turns.0) (
    stopped g.A.Arithmetic.ring (g.S.Store.nodes entry.store) c.args.question (types_of self.order) (g.S.Store.capacity self.store) (g.S.Store.nodes self.store) (open_frames self.frames) c.loop-turn.turn inv.0 c.in-Answer.root c.in-Answer.is
    (types_of entry.order) (ap types_of inv.1.order) (g.S.Store.capacity entry.store) inv.1.store.capacity
    laws.closed laws.laws entry.reduced c.requires.held (g.S.Store.nodes c.resume.new.self.store) said.turns.1
    )

pub returns-in_err-turn-in-Answer-clause-does : goal.returns-in_err-turn-in-Answer-clause-does
returns-in_err-turn-in-Answer-clause-does g c = asks c.requires.held (returns-in_err-turn-in-Answer-clause-comes g c)

pub returns-in_err-turn-in-Answer-clause-grown : goal.returns-in_err-turn-in-Answer-clause-grown
returns-in_err-turn-in-Answer-clause-grown g c =
    let laws = g.met.A.Arithmetic in
    let R = g.A.Arithmetic.ring in
    let entry = c.args.self.now in
    let start = g.S.Store.nodes entry.store in
    let grows = outcome_grown R laws.closed laws.laws (types_of entry.order) start entry.reduced c.args.question c.requires.held in
    comes_grown (λ n. outcome R (types_of entry.order) n start c.args.question) (g.S.Store.capacity entry.store) start R grows c.from_residual.result (g.S.Store.nodes c.resume.new.self.store) (returns-in_err-turn-in-Answer-clause-comes g c)

use Rattle.std.proofs.Common.{◌≡◌, cond, [], length, set, Some, sym, ap, ◌∙◌}
use Rattle.storage.specs.Memos.{answered}
use Rattle.storage.specs.Slots.{answers_in, home}
use Rattle.storage.proofs.SlotAnswers.{keeps_as, keeps_slot, replaces_as, replaces_none, replaces_slot}
use Rattle.storage.proofs.slots.ops.SlotMemoMemo.keep.Goals as goal
use Rattle.storage.proofs.slots.ops.SlotMemoMemo.keep.Goals.{After-prepare}

pub returns-in_default-clause-slot : goal.returns-in_default-clause-slot
returns-in_default-clause-slot c = replaces_none _ _ _ _ _ (sym c.in_default.ensures)

here : (c : After-prepare) → home (length c.prepare.new.self.slots.now) c.args.question ≡ Some c.in-Some.home
here c = ap (λ n. home n c.args.question) c.prepare.ensures.len ∙ sym c.in-Some.ensures

-- the memo is used, so its slots say what it answers
held : (c : After-prepare) → let after = set c.prepare.new.self.slots.now c.in-Some.home (Some (answered c.args.question c.args.answer)) in answers_in after ≡ cond c.prepare.new.self.used (answers_in after) []
held c =
    let after = set c.prepare.new.self.slots.now c.in-Some.home (Some (answered c.args.question c.args.answer)) in
    sym (ap (λ b. cond b (answers_in after) []) c.prepare.ensures.used)

pub returns-clause-answers : goal.returns-clause-answers
returns-clause-answers c =
    let way = (goal.at.returns-clause-answers c).After-prepare in
    let m = c.prepare.new.self in
    keeps_as c.args.question c.args.answer c.prepare.ensures.answers (held way) (keeps_slot m.slots.now (m.home c.prepare.ensures.used) c.args.question c.in-Some.home (here way) c.args.answer)

pub returns-clause-slot : goal.returns-clause-slot
returns-clause-slot c =
    let way = (goal.at.returns-clause-slot c).After-prepare in
    let m = c.prepare.new.self in
    replaces_as c.args.question c.args.answer c.prepare.ensures.answers (held way) c.prepare.ensures.len (replaces_slot m.slots.now (m.home c.prepare.ensures.used) c.args.question c.in-Some.home (here way) c.args.answer)

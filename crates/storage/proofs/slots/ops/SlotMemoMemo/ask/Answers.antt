use Rattle.std.proofs.Common.{◌≡◌, cond, get_or, [], ◌∷◌, None, Option, sym, ap, ◌∙◌, subst}
use Rattle.model.specs.declared.root.Root.{Root}
use Rattle.storage.specs.Memos.{Recalls}
use Rattle.storage.specs.SlotMemos.{answers_of}
use Rattle.storage.specs.Slots.{answers_in}
use Rattle.storage.specs.declared.question.Answered.{Answered}
use Rattle.storage.proofs.SlotAnswers.{recalls_held, recalls_slot}
use Rattle.storage.proofs.slots.ops.SlotMemoMemo.ask.Goals as goal
use Rattle.storage.proofs.slots.ops.SlotMemoMemo.ask.Goals.{In_ok-home}

-- what the memo answers by is what lies in the question's slot
in_slot : (c : In_ok-home) (r : Option Root) → Recalls (answers_in (get_or c.args.self.now.slots.now c.in_ok-home.home None ∷ [])) c.args.question r → Recalls (answers_of c.args.self.now) c.args.question r
in_slot c r so =
    let m = c.args.self.now in
    let held : answers_of m ≡ answers_in m.slots.now = ap (λ b. cond b (answers_in m.slots.now) []) c.if-not-self.false in
    subst (λ es. Recalls es c.args.question r) (sym held) (recalls_slot m.slots.now (m.home c.if-not-self.false) c.args.question c.in_ok-home.home (sym c.home.ensures ∙ c.in_ok-home.was) r so)

pub returns-in_err-held : goal.returns-in_err-held
returns-in_err-held c =
    let S : Option Answered → Type 0 = λ s. Recalls (answers_in (s ∷ [])) c.args.question c.from_residual-in_err-held.result in
    in_slot (goal.at.returns-in_err-held c).In_ok-home _ (subst S (sym c.in_err-held.was) (subst (Recalls [] c.args.question) (sym c.from_residual-in_err-held.ensures) (λ a m. m)))

pub returns : goal.returns
returns c =
    let S : Option Answered → Type 0 = λ s. Recalls (answers_in (s ∷ [])) c.args.question c.then_some.result in
    in_slot (goal.at.returns c).In_ok-home _ (subst S (sym c.in_ok-held.was) (recalls_held c.args.question c.in_ok-held.held c.eq.result c.eq.ensures c.then_some.result c.then_some.ensures))

use Rattle.std.proofs.Common.{[], cond, length, sym, ap, ◌∙◌, arith}
use Rattle.std.proofs.lemmas.Grind.{common_steps}
use Rattle.storage.specs.Slots.{answers_in}
use Rattle.storage.proofs.SlotAnswers.{nothing_in}
use Rattle.storage.proofs.slots.SlotMemo.prepare.Goals as goal

pub returns-clause-answers : goal.returns-clause-answers
returns-clause-answers c =
    let slots = c.args.self.now.slots.now in
    ap answers_in (c.fill.ensures.after (λ s clone. grind (arith, common_steps))) ∙ nothing_in (length slots) ∙ sym (ap (λ b. cond b (answers_in slots) []) c.if-self.false)

-- What the slots of a memo mean.
use Rattle.std.specs.Prelude.{cond, List, []}
use Rattle.storage.specs.Slots.{answers_in}
use Rattle.storage.specs.declared.question.Answered.{Answered}
use Rattle.storage.specs.declared.slots.SlotMemo.{SlotMemo}

-- until an answer is kept the slots say nothing
abbrev pub answers_of : SlotMemo → List Answered
answers_of m = cond m.used (answers_in m.slots.now) []

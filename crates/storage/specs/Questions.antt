-- Operations and questions.
use Rattle.std.specs.Prelude.{ℕ}
use Rattle.storage.specs.declared.question.Operation.{Operation}
use Rattle.storage.specs.declared.question.Operation.TheVariants as op
use Rattle.storage.specs.declared.question.Question.{Question}
use Rattle.storage.specs.declared.question.Question.TheVariants as question

-- the number of each operation
abbrev pub operation_number : Operation → ℕ
operation_number op.Sum = 0
operation_number op.Minus = 1
operation_number op.Times = 2

abbrev pub operation_of : Question → Operation
operation_of (question.Sum a b) = op.Sum
operation_of (question.Minus a) = op.Minus
operation_of (question.Times a b) = op.Times

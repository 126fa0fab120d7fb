-- The hash of nodes and of questions.
use Rattle.std.specs.Prelude.{ℕ, ◌+◌, ◌*◌, ◌/◌, ◌%◌, ◌^◌, bit_xor}
use Rattle.model.specs.declared.node.Node.{Node}
use Rattle.model.specs.declared.root.Root.{Root}
use Rattle.model.specs.declared.root.Root.TheVariants.{Inner, Leaf}
use Rattle.storage.specs.Questions.{operation_number}
use Rattle.storage.specs.declared.question.Operation.TheVariants as op
use Rattle.storage.specs.declared.question.Question.{Question}
use Rattle.storage.specs.declared.question.Question.TheVariants as question

-- twice its number, and one more for a leaf
abbrev pub root_code : Root → ℕ
root_code (Inner k) = k * 2
root_code (Leaf v) = v * 2 + 1

-- the upper half of a product, of which the factor has its halves added without carry
abbrev pub folded : ℕ → ℕ
folded n = ((bit_xor n (n / 2 ^ 32) * 0xd6e8_feb8_6659_fd93) % 2 ^ 64) / 2 ^ 32

-- a number of 32 bits that depends on a small number and two roots
abbrev pub spread : ℕ → Root → Root → ℕ
spread kind a b = folded ((((kind * 2 ^ 33 + root_code a) * 0x9e37_79b9_7f4a_7c15) % 2 ^ 64 + (root_code b * 0xc2b2_ae3d_27d4_eb4f) % 2 ^ 64) % 2 ^ 64)

abbrev pub node_hash : Node → ℕ
node_hash n = spread n.fact n.low n.high

-- a minus has one root; a second one stands in for it
abbrev pub question_hash : Question → ℕ
question_hash (question.Sum a b) = spread (operation_number op.Sum) a b
question_hash (question.Minus a) = spread (operation_number op.Minus) a (Leaf 0)
question_hash (question.Times a b) = spread (operation_number op.Times) a b

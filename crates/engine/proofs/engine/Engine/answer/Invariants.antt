use Rattle.std.proofs.Common.{length}
use Rattle.engine.specs.Frames.{open_frames}
use Rattle.engine.specs.Questions.{types_of}
use Rattle.engine.specs.Staying.{Stays}
use Rattle.engine.specs.Underway.{turns_left}
use Rattle.engine.proofs.Working.{first_of, Working}
use Rattle.engine.proofs.engine.Engine.answer.Given as goal

abbrev pub invariant-loop-turn : goal.invariant-loop-turn
invariant-loop-turn g l =
    Working g.A.Arithmetic.ring (types_of l.self.order) (g.S.Store.capacity l.self.store) (g.S.Store.nodes l.self.store) (open_frames l.self.frames) l.turn
    (g.S.Store.nodes l.initial.self.store) (first_of l.initial.turn)
    × Stays g.S.Store.capacity g.S.Store.lent g.M.Memo.lent l.initial.self l.self

abbrev pub decreases-loop-turn : goal.decreases-loop-turn
decreases-loop-turn g l = turns_left (length (types_of l.self.order)) (open_frames l.self.frames) l.turn

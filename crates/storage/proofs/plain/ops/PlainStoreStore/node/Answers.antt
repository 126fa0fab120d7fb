use Rattle.std.proofs.Common.{take, Some, sym, ap, ◌∙◌, arith}
use Rattle.std.proofs.lemmas.Option.{slice_get_past}
use Rattle.storage.proofs.Places.{place_at}
use Rattle.storage.proofs.plain.ops.PlainStoreStore.node.Goals as goal

pub returns-then-place-self : goal.returns-then-place-self
returns-then-place-self c =
    let s = c.args.self.now in
    ap Some c.read.ensures ∙ sym (place_at s.cells.now s.len s.count c.args.place c.if-place-self.true)

pub returns-else-place-self : goal.returns-else-place-self
returns-else-place-self c =
    let s = c.args.self.now in
    sym (slice_get_past (take s.len s.cells.now) c.args.place (omega (arith, s.count)))

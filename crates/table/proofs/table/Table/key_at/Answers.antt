use Rattle.std.proofs.Common.{ap, ◌∙◌, arith}
use Rattle.table.proofs.Soundness.{filled_cell}
use Rattle.table.proofs.table.Table.key_at.Goals as goal

pub returns : goal.returns
returns g c =
    let t = c.args.self.now in
    let got = c.in_ok-get.ensures.lookup in
    ap (λ x. x.key) (got.1 ∙ filled_cell g.K.Key.code t.cells.now t.filled c.args.number _ (omega arith))

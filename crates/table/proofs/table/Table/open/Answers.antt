use Rattle.std.proofs.Common.{length, replicate, sym, refl, ap, ◌∙◌}
use Rattle.table.specs.Cells.{empty_cell}
use Rattle.table.specs.KeysBy.{key_laws}
use Rattle.table.proofs.RunLaws.{table_laws}
use Rattle.table.proofs.Soundness.{holds_none, none_apart}
use Rattle.table.proofs.table.Table.open.Goals as goal

pub invariant_of-result : goal.invariant_of-result
invariant_of-result g c =
    let now = holds_none g.K.Key.code _ _ c.empty_all.ensures in
    record { count = ap length now.held; filled = now.filled; apart = none_apart g.K.PartialEq.eq _ now.held }

pub returns : goal.returns
returns g c =
    let now = holds_none g.K.Key.code _ _ c.empty_all.ensures in
    record {
      keys = now.held;
      cells = c.empty_all.ensures ∙ ap (λ n. replicate n empty_cell) (sym now.long);
      capacity = now.long;
      lent = refl;
      laws = table_laws _ _ _ (key_laws g.met.K.Eq.laws g.met.K.Key.same_code);
    }

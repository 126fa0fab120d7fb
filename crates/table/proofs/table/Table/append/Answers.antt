use Rattle.std.proofs.Common.{◌+◌, ◌≤◌, [], ◌∷◌, ◌++◌, length, get_or, Some, sym, refl, ap, ◌∙◌, subst, arith}
use Rattle.std.proofs.lemmas.List.{length_push}
use Rattle.table.specs.Keys.{Apart}
use Rattle.table.specs.Tables.{capacity_of, keys_of}
use Rattle.table.proofs.Growing.{cell, chained}
use Rattle.table.proofs.Soundness.{apart_more, holds, one_more, Holds}
use Rattle.table.proofs.table.Table.append.Given as given
use Rattle.table.proofs.table.Table.append.Goals as goal
use Rattle.table.proofs.table.Table.append.Goals.{After-index-cells-home-2}

-- the cells that are written are those of one key more
more : (g : given.Over) (c : After-index-cells-home-2 g)
    → let t = c.args.self.now in
    Holds g.K.Key.code
    (chained t.cells.now t.len c.home-home.result (cell (Some c.args.key) (get_or t.cells.now t.len c.index-cells-number.result).first (get_or t.cells.now c.home-home.result c.index-cells-home.result).first) c.index-cells-home-2.result)
    (capacity_of t) (keys_of t ++ (c.args.key ∷ []))
more g c =
    let t = c.args.self.now in
    let home = c.home-home.ensures in
    let keys = keys_of t ++ (c.args.key ∷ []) in
    let few : length keys ≤ capacity_of t = omega (arith, length_push (keys_of t) c.args.key, t.count, c.requires.room) in
    holds g.K.Key.code _ _ keys (one_more g.K.Key.code t.cells.now _ (keys_of t) c.args.key t.len c.home-home.result _ _ _ t.filled.all (sym t.count) home.value c.requires.room home.within) few

pub invariant_of-self : goal.invariant_of-self
invariant_of-self g c =
    let t = c.args.self.now in
    let now = more g c in
    record {
      count = ap length now.held ∙ length_push (keys_of t) c.args.key ∙ ap (λ n. n + 1) t.count;
      filled = now.filled;
      apart = subst (Apart g.K.PartialEq.eq) (sym now.held) (apart_more g.K.PartialEq.eq (keys_of t) c.args.key t.apart c.requires.absent);
    }

pub returns : goal.returns
returns g c =
    let now = more g (goal.at.returns g c).After-index-cells-home-2 in
    record { keys = now.held; memory = record { capacity = now.long; lent = refl } }

use Rattle.std.proofs.Common.{◌≡◌, ◌-◌, ◌<◌, [], ◌∷◌, ◌++◌, length, get_or, take, Some, sym, refl, ap, ◌∙◌, subst, arith}
use Rattle.std.proofs.lemmas.List.{length-take-le}
use Rattle.std.specs.Option.{IsSome}
use Rattle.std.specs.List.{slice_get}
use Rattle.table.specs.Cells.{keys_in}
use Rattle.table.specs.Filled.{filled}
use Rattle.table.specs.Keys.{Apart}
use Rattle.table.specs.Tables.{capacity_of, keys_of}
use Rattle.table.proofs.Growing.{cell, unchained}
use Rattle.table.proofs.Numbered.{nth_some, split_last}
use Rattle.table.proofs.Soundness.{apart_less, filled_cell, holds, one_less, Holds}
use Rattle.table.proofs.table.Table.drop_last.Given as given
use Rattle.table.proofs.table.Table.drop_last.Goals as goal
use Rattle.table.proofs.table.Table.drop_last.Goals.{After-index-cells-number, After-unwrap}

-- the last cell holds a key
pub unwrap-requires : goal.unwrap-requires
unwrap-requires g c =
    let t = c.args.self.now in
    let n = t.len - 1 in
    let last = filled_cell g.K.Key.code t.cells.now t.filled n c.index-self-number.result (omega (arith, t.count, t.filled.few, c.requires.some)) in
    let key = nth_some (keys_in t.cells.now) n (omega (arith, t.count, c.requires.some)) in
    subst IsSome (sym (ap (λ x. x.key) last ∙ key.1)) refl

-- it is the last of the keys
split : (g : given.Over) (c : After-unwrap g) → keys_in c.args.self.now.cells.now ≡ take (c.args.self.now.len - 1) (keys_in c.args.self.now.cells.now) ++ (c.unwrap.result ∷ [])
split g c =
    let t = c.args.self.now in
    let n = t.len - 1 in
    let last : slice_get (keys_in t.cells.now) n ≡ Some c.unwrap.result = sym (ap (λ x. x.key) (filled_cell g.K.Key.code t.cells.now t.filled n c.index-self-number.result (omega (arith, t.count, t.filled.few, c.requires.some)))) ∙ c.unwrap.ensures in
    split_last (keys_in t.cells.now) n c.unwrap.result (omega (arith, t.count, c.requires.some)) last

-- the cells that are written are those of the other keys
less : (g : given.Over) (c : After-index-cells-number g)
    → let t = c.args.self.now in
    let head = get_or t.cells.now c.home-home.result c.index-cells-home.result in
    Holds g.K.Key.code
    (unchained t.cells.now (t.len - 1) c.home-home.result (cell head.key (get_or t.cells.now (t.len - 1) c.index-self-number.result).next head.next) c.index-cells-number.result)
    (capacity_of t) (take (t.len - 1) (keys_of t))
less g c =
    let t = c.args.self.now in
    let n = t.len - 1 in
    let home = c.home-home.ensures in
    let inside : n < capacity_of t = omega (arith, t.count, t.filled.few, c.requires.some) in
    let keys = take n (keys_of t) in
    let long : length keys ≡ n = length-take-le n (keys_of t) (omega (arith, t.count)) in
    let all = t.filled.all ∙ ap (filled g.K.Key.code (capacity_of t)) (split g (goal.at.invariant_of-self g c).After-unwrap) in
    holds g.K.Key.code _ _ keys (one_less g.K.Key.code t.cells.now _ keys c.unwrap.result n c.home-home.result _ _ _ all (sym long) home.value inside home.within) (omega arith)

pub invariant_of-self : goal.invariant_of-self
invariant_of-self g c =
    let same = g.K.PartialEq.eq in
    let t = c.args.self.now in
    let keys = take (t.len - 1) (keys_of t) in
    let now = less g c in
    record {
      count = ap length now.held ∙ length-take-le (t.len - 1) (keys_of t) (omega (arith, t.count));
      filled = now.filled;
      apart = subst (Apart same) (sym now.held) (apart_less same keys c.unwrap.result (subst (Apart same) (split g (goal.at.invariant_of-self g c).After-unwrap) t.apart));
    }

pub returns : goal.returns
returns g c =
    let now = less g (goal.at.returns g c).After-index-cells-number in
    record { len = refl; keys = now.held; memory = record { capacity = now.long; lent = refl } }

use Rattle.std.proofs.Common.{◌≡◌, ℕ, ◌<◌, length, get_or, Some, Option, sym, ap, ◌∙◌, subst, arith}
use Rattle.table.specs.Filled.{cell_of, latest}
use Rattle.table.specs.Keys.{has_same}
use Rattle.table.specs.Tables.{capacity_of, keys_of}
use Rattle.table.specs.declared.cell.Cell.{Cell}
use Rattle.table.proofs.Searching.{reach, Searching, start, number_inside, found_here, step, falls, finish}
use Rattle.table.proofs.Soundness.{filled_cell}
use Rattle.table.proofs.table.Table.find.Given as given
use Rattle.table.proofs.table.Table.find.Goals as goal
use Rattle.table.proofs.table.Table.find.Goals.{In-Some}

-- the search stands at a number
at_number : (g : given.Over) (c : In-Some g) → Searching g.K.PartialEq.eq g.K.Key.code (capacity_of c.args.self.now) (keys_of c.args.self.now) c.args.key.now c.loop-at.invariant.0 (Some c.in-Some.number)
at_number g c =
    let S : Option ℕ → Type 0 = Searching g.K.PartialEq.eq g.K.Key.code (capacity_of c.args.self.now) (keys_of c.args.self.now) c.args.key.now c.loop-at.invariant.0 in
    subst S c.in-Some.is c.loop-at.invariant.1

inside : (g : given.Over) (c : In-Some g) → c.in-Some.number < length c.args.self.now.cells.now
inside g c =
    let lt = number_inside _ _ _ _ _ g.met.K.Key.same_code _ _ (at_number g c) in
    omega (arith, c.args.self.now.filled.few)

-- the cell with that number
the_cell : (g : given.Over) (c : In-Some g) (x : Cell g.row.K.Denot) → x ≡ get_or c.args.self.now.cells.now c.in-Some.number x → x ≡ cell_of g.K.Key.code (capacity_of c.args.self.now) (keys_of c.args.self.now) c.in-Some.number
the_cell g c x is = is ∙ filled_cell g.K.Key.code c.args.self.now.cells.now c.args.self.now.filled c.in-Some.number x (inside g c)

pub loop-at-init : goal.loop-at-init
loop-at-init g c =
    let t = c.args.self.now in
    let code = g.K.Key.code in
    let keys = keys_of t in
    let S : Option ℕ → Type 0 = Searching g.K.PartialEq.eq code (capacity_of t) keys c.args.key.now (length keys) in
    let first = ap (λ x. x.first) (filled_cell code t.cells.now t.filled c.home.result c.index-cells-home.result c.home.ensures.within) ∙ ap (λ b. latest code (capacity_of t) keys b (length keys)) c.home.ensures.value in
    (length keys, subst S (sym first) (start _ _ _ _ _))

pub bounds-cells-number : goal.bounds-cells-number
bounds-cells-number g c = inside g (goal.at.bounds-cells-number g c).In-Some

pub offset_bounds-cells-number : goal.offset_bounds-cells-number
offset_bounds-cells-number g c = let lt = inside g (goal.at.offset_bounds-cells-number g c).In-Some in omega arith

pub returns-then-holds : goal.returns-then-holds
returns-then-holds g c =
    let way = (goal.at.returns-then-holds g c).In-Some in
    found_here _ _ _ _ _ g.met.K.Key.same_code _ _ (at_number g way)
    (ap (λ x. has_same g.K.PartialEq.eq c.args.key.now x.key) (sym (the_cell g way _ c.index-cells-number.is)) ∙ sym c.if-holds.ensures)

pub loop-at-smaller : goal.loop-at-smaller
loop-at-smaller g c =
    let way = (goal.at.loop-at-smaller g c).In-Some in
    let R : Option ℕ → Type 0 = λ at. reach c.index-cells-number.result.next < reach at in
    subst R (sym c.in-Some.is) (falls _ _ _ _ _ g.met.K.Key.same_code _ _ (at_number g way) _ (ap (λ x. x.next) (the_cell g way _ c.index-cells-number.is)))

pub loop-at-preserved : goal.loop-at-preserved
loop-at-preserved g c =
    let way = (goal.at.loop-at-preserved g c).In-Some in
    let is = the_cell g way _ c.index-cells-number.is in
    let other = ap (λ x. has_same g.K.PartialEq.eq c.args.key.now x.key) (sym is) ∙ sym c.if-holds.ensures in
    (c.in-Some.number, step _ _ _ _ _ g.met.K.Key.same_code _ _ (at_number g way) other _ (ap (λ x. x.next) is))

pub returns : goal.returns
returns g c =
    let S : Option ℕ → Type 0 = Searching g.K.PartialEq.eq g.K.Key.code (capacity_of c.args.self.now) (keys_of c.args.self.now) c.args.key.now c.loop-at.invariant.0 in
    finish _ _ _ _ _ g.met.K.Key.same_code _ (subst S c.in_default.is c.loop-at.invariant.1)

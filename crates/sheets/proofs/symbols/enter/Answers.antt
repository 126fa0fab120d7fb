use Rattle.std.proofs.Common.{◌≡◌, [], ◌∷◌, ◌++◌, length, Some, List, subst, ap, ◌∙◌, arith}
use Rattle.std.specs.List.{slice_get}
use Rattle.model.specs.Orders.{facts_of}
use Rattle.model.specs.Spelling.{spelling}
use Rattle.model.specs.declared.fact.Fact.{Fact}
use Rattle.sheets.specs.Symbols.{symbol, signal_of}
use Rattle.sheets.proofs.Lookups.{next_fresh, next_long, next_entered, nth_at, nth_below}
use Rattle.sheets.proofs.symbols.enter.Goals as goal
use Rattle.sheets.proofs.symbols.enter.Goals.{After-fact-item}

-- the fact of this place
here : (c : After-fact-item) → slice_get (facts_of c.args.order.now) c.loop-place.place ≡ Some c.fact-item.result
here c =
    let f = c.fact-item.result in
    let N : List Fact → Type 0 = λ fs. slice_get fs c.loop-place.place ≡ Some f in
    subst N c.facts-fact-items.ensures (nth_at c.facts-fact-items.result.now c.loop-place.place f c.loop-place-test.true c.fact-item.is)

pub add-requires-clause-fresh : goal.add-requires-clause-fresh
add-requires-clause-fresh c =
    let at = here (goal.at.add-requires-clause-fresh c).After-fact-item in
    ap (λ ss. signal_of ss (spelling c.fact-item.result.name)) c.loop-place.invariant.0 ∙ next_fresh (facts_of c.args.order.now) c.loop-place.place c.fact-item.result at c.args.order.now.different

pub add-requires-clause-room : goal.add-requires-clause-room
add-requires-clause-room c =
    let fs = facts_of c.args.order.now in
    let i = c.loop-place.place in
    let at = here (goal.at.add-requires-clause-room c).After-fact-item in
    let held = c.loop-place.invariant in
    omega (arith, ap length held.0, next_long fs i c.fact-item.result at, nth_below fs i c.fact-item.result at, held.1, c.requires.room)

pub loop-place-preserved : goal.loop-place-preserved
loop-place-preserved c =
    let f = c.fact-item.result in
    let i = c.loop-place.place in
    let at = here (goal.at.loop-place-preserved c).After-fact-item in
    let held = c.loop-place.invariant in
    let said = c.add.ensures in
    (said.keys ∙ ap (λ ss. ss ++ (symbol f.name i ∷ [])) held.0 ∙ next_entered (facts_of c.args.order.now) i f at, said.capacity ∙ held.1)

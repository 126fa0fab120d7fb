use Rattle.std.proofs.Common.{◌≡◌, ℕ, ◌<◌, List, [], ◌∷◌, length, Ok, sym, refl, ◌∙◌, subst, arith}
use Rattle.std.proofs.lemmas.List.{length-set, nil_from_length}
use Rattle.std.proofs.lemmas.Bool.{eqb-true, eqb-false}
use Rattle.model.specs.Facts.{Named, AllNamed, Different}
use Rattle.model.specs.Orders.{facts_of, Adds, nameless, known, full, added}
use Rattle.model.specs.Spelling.{spelling}
use Rattle.model.specs.declared.fact.Fact.{Fact}
use Rattle.model.proofs.Orders.{length_facts, facts_more, all_named_more, different_more, when_found, when_missing}
use Rattle.model.proofs.order.Order.add.Goals as goal
use Rattle.model.proofs.order.Order.add.Goals.{Else-is_some}

some_name : (n : List ℕ) → (length n ≡ 0 → ⊥) → 0 < length n
some_name [] no_bytes = absurd (no_bytes refl)
some_name (b ∷ bs) no_bytes = omega arith

-- the name is not empty, and no fact has it
name_given : (c : Else-is_some) → 0 < length (spelling c.args.fact.name)
name_given c = some_name _ (eqb-false _ 0 (sym c.if-is_empty.ensures))

name_new : (c : Else-is_some) → Named (facts_of c.args.self.now) (spelling c.args.fact.name) → ⊥
name_new c = when_missing _ _ c.find.result c.find.ensures (sym c.if-is_some.ensures)

pub returns-then-is_empty : goal.returns-then-is_empty
returns-then-is_empty c = nameless (nil_from_length _ (eqb-true _ 0 (sym c.if-is_empty.ensures)))

pub returns-then-is_some : goal.returns-then-is_some
returns-then-is_some c =
    known (some_name _ (eqb-false _ 0 (sym c.if-is_empty.ensures)))
    (when_found _ _ c.find.result c.find.ensures (sym c.if-is_some.ensures))

pub returns-then-self-eq-MAX_FACTS : goal.returns-then-self-eq-MAX_FACTS
returns-then-self-eq-MAX_FACTS c =
    let way = (goal.at.returns-then-self-eq-MAX_FACTS c).Else-is_some in
    full (name_given way) (name_new way) (length_facts c.args.self.now ∙ c.if-self-eq-MAX_FACTS.true)

pub invariant_of-self : goal.invariant_of-self
invariant_of-self c =
    let way = (goal.at.invariant_of-self c).Else-is_some in
    let order = c.args.self.now in
    let fact = c.args.fact in
    let more = sym (facts_more order fact (omega arith)) in
    record {
      whole = length-set order.facts order.len fact ∙ order.whole;
      short = omega arith;
      named = subst AllNamed more (all_named_more (facts_of order) fact order.named (name_given way));
      different = subst Different more (different_more (facts_of order) fact order.different (name_new way));
    }

pub returns : goal.returns
returns c =
    let way = (goal.at.returns c).Else-is_some in
    let order = c.args.self.now in
    let fact = c.args.fact in
    let long = length_facts order in
    let A : List Fact → Type 0 = λ fs. Adds (facts_of order) fact (Ok tt) fs in
    subst A (sym (facts_more order fact (omega arith))) (added (name_given way) (name_new way) (omega arith))

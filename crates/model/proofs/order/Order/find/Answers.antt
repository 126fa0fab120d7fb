use Rattle.std.proofs.Common.{Bool, sym, ap, ◌∙◌}
use Rattle.std.specs.Prelude.{position}
use Rattle.model.specs.declared.fact.Fact.{Fact}
use Rattle.model.proofs.Orders.{finds_first}
use Rattle.model.proofs.Spelling.{alike, alike_decides}
use Rattle.model.proofs.order.Order.find.Goals as goal

pub returns : goal.returns
returns c =
    let name = c.args.name.now in
    let passes : Fact → Bool = λ f. alike f.name name in
    finds_first passes _ (λ f. alike_decides f.name name) _ _ (sym (c.place_of.ensures ∙ ap (position passes) c.facts.ensures))

use Rattle.std.proofs.Common.{◌≡◌, ℕ, true, false, get_or, rules}
use Rattle.std.proofs.lemmas.Iterator.{first_from_Range}
use Rattle.model.specs.Roots.{blank_node}
use Rattle.storage.specs.NodeKeys.{same_node}
use Rattle.storage.proofs.Places.{sought}
use Rattle.storage.proofs.plain.PlainStore.find.Goals as goal

pub returns : goal.returns
returns c =
    let s = c.args.self.now in
    let held : ℕ → _ = λ i. same_node (get_or s.cells.now i blank_node) c.args.node in
    sought s.cells.now s.len s.count c.args.node c.find.result
    (first_from_Range _ _ _ c.find.result (λ i. held i ≡ true) (λ i. held i ≡ false) c.find.ensures.ran (λ x q k. search rules) (λ x q k. search rules))

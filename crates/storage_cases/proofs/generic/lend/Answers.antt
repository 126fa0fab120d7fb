use Rattle.std.proofs.Common.{arith, rules}
use Rattle.storage_cases.proofs.Lent.{first_added, first_there}
use Rattle.storage_cases.proofs.generic.lend.Goals as goal

pub returns : goal.returns
returns c some =
    let made = c.new-store.ensures in
    let store = c.perform.new.store in
    first_there _ store.cells.now store.len c.args.node (search rules)
    (first_added _ _ c.args.node made.nodes (omega (arith, made.capacity)) _ _ c.perform.ensures.does)

use Rattle.std.proofs.Common.{sym, ap, ◌∙◌}
use Rattle.std.proofs.lemmas.List.{take-map}
use Rattle.storage.specs.NodeKeys.{nodes_in}
use Rattle.storage.specs.Stores.{capacity_for}
use Rattle.table.specs.Tables as table
use Rattle.storage.proofs.hashed.ops.HashedStoreStore.cut.Goals as goal

pub returns : goal.returns
returns c =
    let said = c.cut.ensures in
    record {
      nodes = ap nodes_in said.keys ∙ sym (take-map (λ k. k.node) c.args.count (table.keys_of c.args.self.now.table));
      memory = record { capacity = ap capacity_for said.memory.capacity; lent = said.memory.lent };
    }

use Rattle.std.proofs.Common.{◌≡◌, sym, ap, subst, rules}
use Rattle.std.specs.Result.{result_map_both}
use Rattle.model.specs.Refusals.{fault}
use Rattle.model.specs.declared.fault.Refusal.TheVariants.{StoreFull}
use Rattle.storage.specs.NodeKeys.{nodes_in}
use Rattle.storage.specs.Stores.{FindsOrAdds, capacity_for}
use Rattle.storage.proofs.Keyed.{node_sought}
use Rattle.table.specs.Tables.{capacity_of, keys_of}
use Rattle.storage.proofs.hashed.ops.HashedStoreStore.find_or_add.Goals as goal

pub returns : goal.returns
returns c =
    let s = c.args.self.now in
    let said = c.find_or_add.ensures in
    let mapped : c.map_err.result ≡ result_map_both (λ place. place) (λ _. fault StoreFull 0) c.find_or_add.result = search rules in
    record {
      nodes = subst (λ r. FindsOrAdds (capacity_for (capacity_of s.table)) (nodes_in (keys_of s.table)) c.args.node r (nodes_in (keys_of c.find_or_add.new.self))) (sym mapped) (node_sought _ _ c.args.node s.limited _ _ said.keys);
      memory = record { capacity = ap capacity_for said.memory.capacity; lent = said.memory.lent };
    }

use Rattle.std.proofs.Common.{sym, ◌∙◌}
use Rattle.std.proofs.lemmas.List.{length-map}
use Rattle.storage.proofs.hashed.ops.HashedStoreStore.len.Goals as goal

pub returns : goal.returns
returns c = c.len.ensures ∙ sym (length-map _ (λ k. k.node))

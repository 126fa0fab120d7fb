use Rattle.std.proofs.Common.{◌≡◌, sym, ap, ◌∙◌, rules}
use Rattle.std.specs.Option.{option_map}
use Rattle.std.proofs.lemmas.Option.{slice_get-map}
use Rattle.table.specs.Tables.{keys_of}
use Rattle.storage.proofs.hashed.ops.HashedStoreStore.node.Goals as goal

pub returns : goal.returns
returns c =
    let mapped : c.map.result ≡ option_map (λ k. k.node) c.key_at.result = search rules in
    mapped ∙ ap (option_map (λ k. k.node)) c.key_at.ensures ∙ sym (slice_get-map (λ k. k.node) (keys_of c.args.self.now.table) c.args.place)

-- What a table of nodes says of the nodes.
use Rattle.std.proofs.Common.{◌≡◌, ℕ, ◌≤◌, List, [], ◌∷◌, ◌++◌, length, Some, Ok, Result, sym, refl, ap, ◌∙◌, subst, arith}
use Rattle.std.proofs.lemmas.List.{length-map, map_push}
use Rattle.std.proofs.lemmas.Bool.{true≢false}
use Rattle.std.proofs.lemmas.Option.{slice_get-map}
use Rattle.std.specs.List.{slice_get}
use Rattle.std.specs.Option.{option_map}
use Rattle.std.specs.Result.{result_map_both}
use Rattle.model.specs.Refusals.{fault}
use Rattle.model.specs.declared.fault.Refusal.TheVariants.{StoreFull}
use Rattle.model.specs.declared.node.Node.{Node}
use Rattle.storage.specs.NodeKeys.{key, key_of_node, nodes_in, same_key, same_key_decides}
use Rattle.storage.specs.Stores.{Absent, FindsOrAdds, found, appended, refused, capacity_for}
use Rattle.storage.specs.declared.node_key.NodeKey.{NodeKey}
use Rattle.table.specs.Keys as keys
use Rattle.table.specs.Tables as table
use Rattle.table.specs.declared.table.Full.{Full}

module _ (ks : List NodeKey) where
  pub node_held : (n : Node) (place : ℕ) → keys.Held same_key ks (key n) place → slice_get (nodes_in ks) place ≡ Some n
  node_held n place (x, is, same) = slice_get-map (λ k. k.node) ks place ∙ ap (option_map (λ k. k.node)) is ∙ ap (λ k. Some k.node) ((same_key_decides x (key n)).0 same)

  pub node_absent : (n : Node) → keys.Absent same_key ks (key n) → Absent (nodes_in ks) n
  node_absent n none i is = true≢false (sym ((same_key_decides (key n) (key n)).1 refl) ∙ none i (key n) (key_of_node ks i n is))

  -- ---- what the table's find_or_add says of a store with no more cells than it may use

  module _ (cells : ℕ) (n : Node) (limited : cells ≤ 1048576) where
    long : length (nodes_in ks) ≡ length ks
    long = length-map ks (λ k. k.node)

    pub node_sought : (r : Result ℕ Full) (after : List NodeKey) → table.FindsOrAdds same_key cells ks (key n) r after → FindsOrAdds (capacity_for cells) (nodes_in ks) n (result_map_both (λ place. place) (λ _. fault StoreFull 0) r) (nodes_in after)
    node_sought _ _ (table.found place held) = found place (node_held n place held)
    node_sought _ _ (table.appended none few) =
        let F : ℕ → List Node → Type 0 = λ i ns. FindsOrAdds (capacity_for cells) (nodes_in ks) n (Ok i) ns in
        subst (λ i. F i (nodes_in (ks ++ (key n ∷ [])))) long (subst (F (length (nodes_in ks))) (sym (map_push (λ k. k.node) ks (key n))) (appended (node_absent n none) (omega (arith, long))))
    node_sought _ _ (table.refused full none all) = refused (node_absent n none) (omega (arith, long))

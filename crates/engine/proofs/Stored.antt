-- A store that finds or adds a node does what joining says.
use Rattle.std.proofs.Common.{◌≡◌, ℕ, Bool, true, false, List, get_or, Some, None, Ok, Err, Result, sym, ap, ◌∙◌, subst, arith}
use Rattle.std.proofs.lemmas.Option.{get_or_from_slice_get, slice_get-get_or, slice_get_within}
use Rattle.std.specs.List.{slice_get}
use Rattle.model.specs.Rings.{Ring, Closed, Laws}
use Rattle.model.specs.Roots.{blank_node}
use Rattle.model.specs.declared.decomposition.Decomposition.{Decomposition}
use Rattle.model.specs.declared.decomposition.Decomposition.TheVariants.{Shannon}
use Rattle.model.specs.declared.fault.Fault.{Fault}
use Rattle.model.specs.declared.node.Node.{Node}
use Rattle.model.specs.declared.order.Order.{Order}
use Rattle.model.specs.declared.root.Root.{Root}
use Rattle.model.specs.declared.root.Root.TheVariants.{Inner}
use Rattle.storage.specs.Stores.{Absent, Distinct, FindsOrAdds, found, appended, refused, Stored}
use Rattle.kfdd.specs.Appending.{Extends}
use Rattle.kfdd.specs.Joining.{drops, place_of}
use Rattle.kfdd.specs.RecipeLaws.{Joinable}
use Rattle.kfdd.specs.Reduced.{Reduced}
use Rattle.kfdd.proofs.Appending.{extends_self}
use Rattle.kfdd.proofs.Joined.{join_drops, join_finds, join_adds, join_full}
use Rattle.kfdd.proofs.RecipeLaws.{join_kept}
use Rattle.kfdd.proofs.Places.{place_found, place_absent}
use Rattle.engine.specs.Questions.{types_of}
use Rattle.engine.specs.Outcomes.{Joins, joined, overfull}

module _ (ns : List Node) (n : Node) where
  found_place : Distinct ns → (place : ℕ) → slice_get ns place ≡ Some n → place_of ns n ≡ Some place
  found_place distinct place is =
      place_found ns n place
      (λ i j hi hj e. distinct i j (get_or ns i blank_node) (slice_get-get_or ns i blank_node hi) (slice_get-get_or ns j blank_node hj ∙ ap Some (sym e)))
      (record { within = slice_get_within ns place n is; there = get_or_from_slice_get ns place n blank_node is })

  absent_place : Absent ns n → place_of ns n ≡ None
  absent_place absent = place_absent ns n (λ k h e. absent k (slice_get-get_or ns k blank_node h ∙ ap Some e))

module _ (R : Ring) (types : List Decomposition) (capacity : ℕ) (ns : List Node) (f : ℕ) (low high : Root) where
  abbrev node : Node
  node = record { fact = f; low = low; high = high }

  pub joins_dropped : drops R (get_or types f Shannon) low high ≡ true → Joins R types capacity ns f low high (Ok low) ns
  joins_dropped e = joined (join_drops R types capacity ns f low high e)

  module _ (kept : drops R (get_or types f Shannon) low high ≡ false) where
    pub joins_placed : Stored capacity ns → (place : ℕ) (after : List Node) → FindsOrAdds capacity ns node (Ok place) after → Joins R types capacity ns f low high (Ok (Inner place)) after
    joins_placed so _ _ (found place is) = joined (join_finds R types capacity ns f low high kept place (found_place ns node so.distinct place is))
    joins_placed so _ _ (appended absent room) = joined (join_adds R types capacity ns f low high kept (absent_place ns node absent) room)

    pub joins_refused : (e : Fault) (after : List Node) → FindsOrAdds capacity ns node (Err e) after → Joins R types capacity ns f low high (Err e) after
    joins_refused _ _ (refused absent long) =
        overfull (join_full R types capacity ns f low high kept (absent_place ns node absent) (omega arith)) long

-- what a fact drops, under the names that the code has for the order and the test
pub drops_told : (R : Ring) (f : ℕ) (low high : Root) (order read : Order) → read ≡ order → (v told : Bool) → told ≡ drops R (get_or (types_of read) f Shannon) low high → told ≡ v
    → drops R (get_or (types_of order) f Shannon) low high ≡ v
drops_told R f low high order read same v told is was = subst (λ (o : Order). drops R (get_or (types_of o) f Shannon) low high ≡ v) same (sym is ∙ was)

-- what is found or added leaves a list reduced, and only appends to it
module _ (R : Ring) (closed : Closed R) (laws : Laws R) (types : List Decomposition) (capacity : ℕ) (ns : List Node) (red : Reduced R types ns) (so : Stored capacity ns) (f : ℕ) (low high : Root)
    (joinable : Joinable R types ns f low high) (kept : drops R (get_or types f Shannon) low high ≡ false) where
  pub placed_keeps : (r : Result ℕ Fault) (after : List Node) → FindsOrAdds capacity ns (node R types capacity ns f low high) r after → Extends ns after × Reduced R types after
  placed_keeps _ _ (found place is) = (extends_self ns, red)
  placed_keeps _ _ (appended absent room) =
      let k = join_kept R closed laws types ns red capacity f low high joinable _ _ (join_adds R types capacity ns f low high kept (absent_place ns (node R types capacity ns f low high) absent) room) in
      (k.appended, k.reduced)
  placed_keeps _ _ (refused absent long) = (extends_self ns, red)

-- In a reduced list two held roots are equal exactly if they have equal values under every number below 2 ^ facts.
use Rattle.std.proofs.Common.{◌≡◌, ℕ, ◌^◌, ◌<◌, Bool, ◌↔◌, List, length, sym, ap, ◌∙◌, arith}
use Rattle.model.specs.Rings.{Ring, Closed, Laws}
use Rattle.model.specs.Assignments.{holds}
use Rattle.model.specs.declared.root.Root.{Root}
use Rattle.model.specs.declared.decomposition.Decomposition.{Decomposition}
use Rattle.model.specs.declared.node.Node.{Node}
use Rattle.kfdd.specs.Values.{value}
use Rattle.kfdd.specs.Reduced.{Held, Reduced}
use Rattle.kfdd.specs.Ordered.{Ordered}
use Rattle.kfdd.specs.Assignments.{number, worth}
use Rattle.kfdd.proofs.Assignments.{number_below, holds_number}
use Rattle.kfdd.proofs.Ordered.{reduced_ordered, agrees}
use Rattle.kfdd.proofs.Canonical.{unique}

-- under x a root is worth what it is worth under the number of x
pub worth_number : (R : Ring) (types : List Decomposition) (ns : List Node) → Ordered R types ns → (r : Root) → Held R (length ns) r → (x : ℕ → Bool)
    → value R types x ns r ≡ worth R types ns r (number (length types) x)
worth_number R types ns ordered r h x =
    agrees R types ns ordered x (holds (number (length types) x)) r h (λ i l m. sym (holds_number (length types) x i m))

-- roots of two lists that agree under every number agree under every assignment
pub everywhere : (R : Ring) (types : List Decomposition) (ns ms : List Node) → Ordered R types ns → Ordered R types ms → (a b : Root) → Held R (length ns) a → Held R (length ms) b
    → ((x : ℕ) → x < 2 ^ length types → worth R types ns a x ≡ worth R types ms b x) → (x : ℕ → Bool) → value R types x ns a ≡ value R types x ms b
everywhere R types ns ms p q a b ha hb same x =
    worth_number R types ns p a ha x ∙ same (number (length types) x) (number_below (length types) x) ∙ sym (worth_number R types ms q b hb x)

module _ (R : Ring) (closed : Closed R) (laws : Laws R) (types : List Decomposition) (ns : List Node) (red : Reduced R types ns) where
  pub same_values_equal : (a b : Root) → Held R (length ns) a → Held R (length ns) b → ((x : ℕ → Bool) → value R types x ns a ≡ value R types x ns b) → a ≡ b
  same_values_equal a b ha hb same = unique R closed laws types ns red (length types) a b ha hb (omega arith) (omega arith) same

  pub canonical : (a b : Root) → Held R (length ns) a → Held R (length ns) b
      → (a ≡ b) ↔ ((x : ℕ) → x < 2 ^ length types → worth R types ns a x ≡ worth R types ns b x)
  canonical a b ha hb =
      let ordered = reduced_ordered R types ns red in
      ((λ e x h. ap (λ (r : Root). worth R types ns r x) e), (λ same. same_values_equal a b ha hb (everywhere R types ns ns ordered ordered a b ha hb same)))

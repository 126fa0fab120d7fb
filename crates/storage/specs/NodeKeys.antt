-- Nodes as keys of a table: equal ones are identical.
use Rattle.std.specs.Prelude.{◌≡◌, ℕ, zero, suc, ◌<◌, ◌≤◌, Bool, true, List, [], ◌∷◌, map, length, Some, Decides, refl}
use Rattle.std.proofs.Common.{sym, ap, ◌∙◌, ⊎_elim, arith}
use Rattle.std.proofs.lemmas.Bool.Decides.{Decides-and, Decides-eqb, Decides-like}
use Rattle.std.proofs.lemmas.Bool.{cases_order, true≢false}
use Rattle.std.proofs.lemmas.List.{length-map}
use Rattle.std.specs.List.{slice_get}
use Rattle.model.specs.contracts.node.NodePartialEq.TheImpl as node_equality
use Rattle.model.specs.contracts.root.RootPartialEq.TheImpl as root_equality
use Rattle.model.specs.declared.node.Node.{Node}
use Rattle.model.specs.declared.root.Root.{Root}
use Rattle.model.specs.declared.root.Root.TheVariants.{Inner, Leaf}
use Rattle.storage.specs.Hashes.{node_hash}
use Rattle.storage.specs.Stores.{capacity_for, Stored}
use Rattle.storage.specs.declared.node_key.NodeKey.{NodeKey}
use Rattle.table.specs.Keys.{Apart, KeyLaws}

abbrev pub key_hash : NodeKey → ℕ
key_hash x = node_hash x.node

abbrev pub nodes_in : List NodeKey → List Node
nodes_in keys = map (λ k. k.node) keys

-- ---- `==` tells whether two roots, nodes or keys are identical

abbrev pub same_root : Root → Root → Bool
same_root = (root_equality.ghosts).eq

abbrev pub same_node : Node → Node → Bool
same_node = (node_equality.ghosts).eq

abbrev pub same_key : NodeKey → NodeKey → Bool
same_key x y = same_node x.node y.node

-- the laws of keys whose equality is identity
identity_laws : {K : Type 0} (same : K → K → Bool) (code : K → ℕ) → ((x y : K) → Decides (same x y) (x ≡ y)) → KeyLaws same code
identity_laws same code decides = record {
  reflexive = λ x. (decides x x).1 refl;
  symmetric = λ x y h. (decides y x).1 (sym ((decides x y).0 h));
  transitive = λ x y z h k. (decides x z).1 ((decides x y).0 h ∙ (decides y z).0 k);
  same_code = λ x y h. ap code ((decides x y).0 h);
}

pub same_root_decides : (x y : Root) → Decides (same_root x y) (x ≡ y)
same_root_decides (Inner a) (Inner b) = Decides-like (same_root (Inner a) (Inner b)) (ap Inner) (λ e. cc) (Decides-eqb a b)
same_root_decides (Inner a) (Leaf b) = (λ t. absurd (true≢false (sym t)), λ e. cc)
same_root_decides (Leaf a) (Inner b) = (λ t. absurd (true≢false (sym t)), λ e. cc)
same_root_decides (Leaf a) (Leaf b) = Decides-like (same_root (Leaf a) (Leaf b)) (ap Leaf) (λ e. cc) (Decides-eqb a b)

pub same_node_decides : (x y : Node) → Decides (same_node x y) (x ≡ y)
same_node_decides x y =
    Decides-like (same_node x y)
    (λ p i. record { fact = p.0 i; low = p.1.0 i; high = p.1.1 i })
    (λ e. (ap (λ n. n.fact) e, (ap (λ n. n.low) e, ap (λ n. n.high) e)))
    (Decides-and _ _ (Decides-eqb x.fact y.fact) (Decides-and _ _ (same_root_decides x.low y.low) (same_root_decides x.high y.high)))

pub same_key_decides : (x y : NodeKey) → Decides (same_key x y) (x ≡ y)
same_key_decides x y = Decides-like (same_key x y) (λ p i. record { node = p i }) (ap (λ k. k.node)) (same_node_decides x.node y.node)

-- so nodes are keys
pub node_laws : KeyLaws same_key key_hash
node_laws = identity_laws same_key key_hash same_key_decides

pub same_hash : (x y : NodeKey) → same_key x y ≡ true → key_hash x ≡ key_hash y
same_hash = node_laws.same_code

-- ---- what keys that lie in a table say of their nodes

abbrev pub key : Node → NodeKey
key n = record { node = n }

pub key_of_node : (ks : List NodeKey) (i : ℕ) (n : Node) → slice_get (nodes_in ks) i ≡ Some n → slice_get ks i ≡ Some (key n)
key_of_node [] i n is = cc
key_of_node (x ∷ ks) zero n is = let same : x.node ≡ n = cc in ap (λ m. Some (key m)) same
key_of_node (x ∷ ks) (suc i) n is = key_of_node ks i n is

-- nodes of a table with no more cells than a store may use
pub stored_keys : (ks : List NodeKey) {cells : ℕ} → Apart same_key ks → length ks ≤ cells → cells ≤ 1048576 → Stored (capacity_for cells) (nodes_in ks)
stored_keys ks apart few limited =
    let twice : (i j : ℕ) (n : Node) → slice_get (nodes_in ks) i ≡ Some n → slice_get (nodes_in ks) j ≡ Some n → i < j → ⊥ = λ i j n at_i at_j lt.
    true≢false (sym ((same_key_decides (key n) (key n)).1 refl) ∙ apart i j (key n) (key n) lt (key_of_node ks i n at_i) (key_of_node ks j n at_j)) in
    record {
      distinct = λ i j n at_i at_j. ⊎_elim (λ e. e) (⊎_elim (λ lt. absurd (twice i j n at_i at_j lt)) (λ gt. absurd (twice j i n at_j at_i gt))) (cases_order i j);
      within = omega (arith, length-map ks (λ k. k.node));
      limited = omega arith;
    }

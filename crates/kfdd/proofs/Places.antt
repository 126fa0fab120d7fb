-- The test on nodes tells equality, and where a search for a node ends.
use Rattle.std.proofs.Common.{◌≡◌, ℕ, zero, suc, ◌<◌, Bool, true, false, cond, ◌&&◌, eqb, List, [], ◌∷◌, ◌++◌, length, get_or, Some, None, Option, sym, refl, ap, ◌∙◌, subst, arith}
use Rattle.std.proofs.lemmas.Bool.{eqb-true, eq-eqb, and_parts, and_from, both_ways}
use Rattle.model.specs.Roots.{blank_node}
use Rattle.kfdd.specs.Joining.{same_root, same_node, one_further, place_of}
use Rattle.model.specs.declared.root.Root.{Root}
use Rattle.model.specs.declared.root.Root.TheVariants.{Leaf, Inner}
use Rattle.model.specs.declared.node.Node.{Node}

pub same_root_true : (a b : Root) → same_root a b ≡ true → a ≡ b
same_root_true (Leaf v) (Leaf w) e = ap Leaf (eqb-true v w e)
same_root_true (Leaf v) (Inner j) e = cc
same_root_true (Inner k) (Leaf w) e = cc
same_root_true (Inner k) (Inner j) e = ap Inner (eqb-true k j e)

pub same_root_self : (a : Root) → same_root a a ≡ true
same_root_self (Leaf v) = eq-eqb v v refl
same_root_self (Inner k) = eq-eqb k k refl

pub same_root_false : (a b : Root) → same_root a b ≡ false → a ≡ b → ⊥
same_root_false a b e p = both_ways (same_root a b) e (subst (λ c. same_root a c ≡ true) p (same_root_self a))

pub same_node_true : (m n : Node) → same_node m n ≡ true → m ≡ n
same_node_true m n e =
    let first = and_parts (eqb m.fact n.fact && same_root m.low n.low) (same_root m.high n.high) e in
    let second = and_parts (eqb m.fact n.fact) (same_root m.low n.low) first.0 in
    let facts = eqb-true m.fact n.fact second.0 in
    let lows = same_root_true m.low n.low second.1 in
    let highs = same_root_true m.high n.high first.1 in
    λ i. record { fact = facts i; low = lows i; high = highs i }

pub same_node_self : (n : Node) → same_node n n ≡ true
same_node_self n =
    and_from (eqb n.fact n.fact && same_root n.low n.low) (same_root n.high n.high)
    (and_from (eqb n.fact n.fact) (same_root n.low n.low) (eq-eqb n.fact n.fact refl) (same_root_self n.low)) (same_root_self n.high)

pub same_node_false : (m n : Node) → same_node m n ≡ false → m ≡ n → ⊥
same_node_false m n e p = both_ways (same_node m n) e (subst (λ (c : Node). same_node m c ≡ true) p (same_node_self m))

-- a search that ends at k
pub record Found (ns : List Node) (n : Node) (k : ℕ) : Type 0 where
  pub within : k < length ns
  pub there : get_or ns k blank_node ≡ n

abbrev Searched : Option ℕ → List Node → Node → Type 0
Searched None ns n = (k : ℕ) → k < length ns → get_or ns k blank_node ≡ n → ⊥
Searched (Some k) ns n = Found ns n k

-- what a search answers, by its first step
step : (m n : Node) (ns : List Node) (b : Bool) (o : Option ℕ) → same_node m n ≡ b → Searched o ns n → Searched (cond b (Some 0) (one_further o)) (m ∷ ns) n
step m n ns true o e s = record { within = omega arith; there = same_node_true m n e }
step m n ns false (Some k) e s = record { within = omega (arith, s.within); there = s.there }
step m n ns false None e s = λ k h p. none k h p
  where
    none : (k : ℕ) → k < length (m ∷ ns) → get_or (m ∷ ns) k blank_node ≡ n → ⊥
    none zero h p = same_node_false m n e p
    none (suc k) h p = s k (omega arith) p

searched : (ns : List Node) (n : Node) → Searched (place_of ns n) ns n
searched [] n = λ k h p. absurd (omega arith)
searched (m ∷ ns) n = step m n ns (same_node m n) (place_of ns n) refl (searched ns n)

pub place_some : (ns : List Node) (n : Node) (k : ℕ) → place_of ns n ≡ Some k → Found ns n k
place_some ns n k e = subst (λ (o : Option ℕ). Searched o ns n) e (searched ns n)

pub place_none : (ns : List Node) (n : Node) → place_of ns n ≡ None → (k : ℕ) → k < length ns → get_or ns k blank_node ≡ n → ⊥
place_none ns n e = subst (λ (o : Option ℕ). Searched o ns n) e (searched ns n)

-- what was found stays found where it was
later_found : (m n : Node) (b : Bool) (o o' : Option ℕ) (k : ℕ) → ((j : ℕ) → o ≡ Some j → o' ≡ Some j) → cond b (Some 0) (one_further o) ≡ Some k → cond b (Some 0) (one_further o') ≡ Some k
later_found m n true o o' k same e = e
later_found m n false None o' k same e = cc
later_found m n false (Some j) o' k same e = ap one_further (same j refl) ∙ e

pub place_append : (ns more : List Node) (n : Node) (k : ℕ) → place_of ns n ≡ Some k → place_of (ns ++ more) n ≡ Some k
place_append [] more n k e = cc
place_append (m ∷ ns) more n k e = later_found m n (same_node m n) (place_of ns n) (place_of (ns ++ more) n) k (λ j. place_append ns more n j) e

-- a node that was not there is found where it was appended
push_found : (b : Bool) (o : Option ℕ) (o' : Option ℕ) (k : ℕ) → (o ≡ None → o' ≡ Some k) → cond b (Some 0) (one_further o) ≡ None → cond b (Some 0) (one_further o') ≡ Some (suc k)
push_found true o o' k same e = cc
push_found false None o' k same e = ap one_further (same refl)
push_found false (Some j) o' k same e = cc

pub place_push : (ns more : List Node) (n : Node) → place_of ns n ≡ None → place_of (ns ++ (n ∷ more)) n ≡ Some (length ns)
place_push [] more n e = rw (same_node_self n)
place_push (m ∷ ns) more n e = push_found (same_node m n) (place_of ns n) (place_of (ns ++ (n ∷ more)) n) (length ns) (place_push ns more n) e

-- a node that stands at one place only is found there
pub place_found : (ns : List Node) (n : Node) (k : ℕ) → ((i j : ℕ) → i < length ns → j < length ns → get_or ns i blank_node ≡ get_or ns j blank_node → i ≡ j) → Found ns n k → place_of ns n ≡ Some k
place_found ns n k distinct f = by_place (place_of ns n) refl
  where
    by_place : (o : Option ℕ) → place_of ns n ≡ o → place_of ns n ≡ Some k
    by_place None e = absurd (place_none ns n e k f.within f.there)
    by_place (Some j) e =
        let g = place_some ns n j e in
        let same = distinct j k g.within f.within (g.there ∙ sym f.there) in
        e ∙ ap Some same

-- a node that stands nowhere is not found
pub place_absent : (ns : List Node) (n : Node) → ((k : ℕ) → k < length ns → get_or ns k blank_node ≡ n → ⊥) → place_of ns n ≡ None
place_absent ns n absent = by_place (place_of ns n) refl
  where
    by_place : (o : Option ℕ) → place_of ns n ≡ o → place_of ns n ≡ None
    by_place None e = e
    by_place (Some j) e = let g = place_some ns n j e in absurd (absent j g.within g.there)

-- The walk down two different roots gives the first assignment under which they differ.
use Rattle.std.proofs.Common.{◌≡◌, ℕ, zero, suc, ◌+◌, ◌<◌, ◌≤◌, Bool, true, false, cond, not, T, eqb, ◌↔◌, List, length, get_or, sym, refl, ap, ◌∙◌, subst, ap₂, inl, inr, arith}
use Rattle.std.proofs.lemmas.Bool.{cases_lt, cond_both, cond-false, eqb-true, eqb-false, ne_eqb}
use Rattle.model.specs.Rings.{Ring, Closed, Laws}
use Rattle.model.specs.Roots.{blank_node}
use Rattle.model.specs.Assignments.{holds}
use Rattle.model.specs.declared.root.Root.{Root}
use Rattle.model.specs.declared.root.Root.TheVariants.{Leaf, Inner}
use Rattle.model.specs.declared.decomposition.Decomposition.{Decomposition}
use Rattle.model.specs.declared.decomposition.Decomposition.TheVariants.{Shannon, PositiveDavio, NegativeDavio}
use Rattle.model.specs.declared.node.Node.{Node}
use Rattle.arithmetic.proofs.RingLaws.{sum_zero_right}
use Rattle.kfdd.specs.Values.{mix, value}
use Rattle.kfdd.specs.Reduced.{level, Held, Reduced}
use Rattle.kfdd.specs.Ordered.{Ordered}
use Rattle.kfdd.specs.Splitting.{split, split_other}
use Rattle.kfdd.specs.Joining.{same_root}
use Rattle.kfdd.specs.Assignments.{worth}
use Rattle.kfdd.specs.FirstDifference.{preferred, First, same_lows, lows, highs, walked, taken, walk, WalkFindsFirst}
use Rattle.kfdd.proofs.Values.{value_leaf}
use Rattle.kfdd.proofs.Ordered.{reduced_ordered, low_in, high_in, node_is, is_value}
use Rattle.kfdd.proofs.Sides.{mix_preferred, mix_other}
use Rattle.kfdd.proofs.Assignments.{number_below, holds_number, same_bits}
use Rattle.kfdd.proofs.AssignmentOrder.{other_side, either_side, topmost_apart, first_unique}
use Rattle.kfdd.proofs.CanonicalNumbers.{same_values_equal}

same_root_true : (a b : Root) → same_root a b ≡ true → a ≡ b
same_root_true (Leaf v) (Leaf w) e = ap Leaf (eqb-true v w e)
same_root_true (Leaf v) (Inner j) e = cc
same_root_true (Inner k) (Leaf w) e = cc
same_root_true (Inner k) (Inner j) e = ap Inner (eqb-true k j e)

same_root_false : (a b : Root) → same_root a b ≡ false → a ≡ b → ⊥
same_root_false (Leaf v) (Leaf w) e p = eqb-false v w e (cc)
same_root_false (Leaf v) (Inner j) e p = let z : ◌≡◌ {A = ℕ} 0 1 = cc in omega arith
same_root_false (Inner k) (Leaf w) e p = let z : ◌≡◌ {A = ℕ} 0 1 = cc in omega arith
same_root_false (Inner k) (Inner j) e p = eqb-false k j e (cc)

other_low : (R : Ring) (t : Decomposition) (r : Root) (P : Root → Type 0) → P r → P (split_other R t r).0
other_low R Shannon r P h = h
other_low R PositiveDavio r P h = h
other_low R NegativeDavio r P h = h

other_high : (R : Ring) (t : Decomposition) (r : Root) (P : Root → Type 0) → P r → P (Leaf R.zero) → P (split_other R t r).1
other_high R Shannon r P h z = h
other_high R PositiveDavio r P h z = z
other_high R NegativeDavio r P h z = z

module _ (R : Ring) (closed : Closed R) (laws : Laws R) where
  module _ (types : List Decomposition) (ns : List Node) (red : Reduced R types ns) where
    abbrev type_at : ℕ → Decomposition
    type_at f = get_or types f Shannon

    abbrev val : (ℕ → Bool) → Root → ℕ
    val x r = value R types x ns r

    ordered : Ordered R types ns
    ordered = reduced_ordered R types ns red

    -- p is the low and the high of r at fact f
    record Parts (f : ℕ) (r : Root) (p : Root × Root) : Type 0 where
      low_held : Held R (length ns) p.0
      high_held : Held R (length ns) p.1
      low_later : f < level types ns p.0
      high_later : f < level types ns p.1
      is : (x : ℕ → Bool) → val x r ≡ mix R (type_at f) (x f) (val x p.0) (val x p.1)

    other_value : (t : Decomposition) (b : Bool) (x : ℕ → Bool) (r : Root) → T (R.value (val x r)) → val x r ≡ mix R t b (val x (split_other R t r).0) (val x (split_other R t r).1)
    other_value Shannon true x r h = refl
    other_value Shannon false x r h = refl
    other_value PositiveDavio true x r h = sym (ap (R.sum (val x r)) (value_leaf R types x ns R.zero) ∙ sum_zero_right R closed laws (val x r) h)
    other_value PositiveDavio false x r h = refl
    other_value NegativeDavio true x r h = refl
    other_value NegativeDavio false x r h = sym (ap (R.sum (val x r)) (value_leaf R types x ns R.zero) ∙ sum_zero_right R closed laws (val x r) h)

    -- a root of a later fact
    other_parts : (f : ℕ) → f < length types → (r : Root) → Held R (length ns) r → f < level types ns r → Parts f r (split_other R (type_at f) r)
    other_parts f known r h later = record {
      low_held = other_low R (type_at f) r (Held R (length ns)) h;
      high_held = other_high R (type_at f) r (Held R (length ns)) h closed.zero_value;
      low_later = other_low R (type_at f) r (λ s. f < level types ns s) later;
      high_later = other_high R (type_at f) r (λ s. f < level types ns s) later known;
      is = λ x. other_value (type_at f) (x f) x r (is_value R types ns ordered closed x r h);
    }

    -- a node of the fact itself
    own_parts : (f k : ℕ) → k < length ns → (get_or ns k blank_node).fact ≡ f → Parts f (Inner k) ((get_or ns k blank_node).low, (get_or ns k blank_node).high)
    own_parts f k h e =
        let n = get_or ns k blank_node in
        let p = ordered k h in
        record {
          low_held = low_in R types ns ordered k h;
          high_held = high_in R types ns ordered k h;
          low_later = omega (arith, p.low_later);
          high_later = omega (arith, p.high_later);
          is = λ x. node_is R types ns ordered x k h ∙ ap (λ g. mix R (type_at g) (x g) (val x n.low) (val x n.high)) e;
        }

    split_parts : (f : ℕ) → f < length types → (r : Root) → Held R (length ns) r → f ≤ level types ns r → Parts f r (split R types ns f r)
    split_parts f known (Leaf v) h later = other_parts f known (Leaf v) h known
    split_parts f known (Inner k) h later =
        let n = get_or ns k blank_node in
        cond_both (eqb n.fact f) (n.low, n.high) (split_other R (type_at f) (Inner k)) (Parts f (Inner k))
        (λ e. own_parts f k h (eqb-true n.fact f e))
        (λ e. other_parts f known (Inner k) h (omega (arith, eqb-false n.fact f e)))

    -- two different roots of facts from f on
    record Pair (f : ℕ) (p : Root × Root) : Type 0 where
      left_held : Held R (length ns) p.0
      right_held : Held R (length ns) p.1
      left_later : f ≤ level types ns p.0
      right_later : f ≤ level types ns p.1
      differ : p.0 ≡ p.1 → ⊥

    abbrev Alike : (ℕ → Bool) → Root × Root → Type 0
    Alike x p = val x p.0 ≡ val x p.1

    module _ (f : ℕ) (known : f < length types) (p : Root × Root) (pair : Pair f p) where
      left : Parts f p.0 (split R types ns f p.0)
      left = split_parts f known p.0 pair.left_held pair.left_later

      right : Parts f p.1 (split R types ns f p.1)
      right = split_parts f known p.1 pair.right_held pair.right_later

      -- what the walk takes, by whether the lows are the same
      abbrev next : Bool → Root × Root
      next same = cond same (highs R types ns f p) (lows R types ns f p)

      abbrev side : Bool → Bool
      side same = cond same (not (preferred (type_at f))) (preferred (type_at f))

      abbrev a₀ : Root
      a₀ = (split R types ns f p.0).0

      abbrev a₁ : Root
      a₁ = (split R types ns f p.0).1

      abbrev b₀ : Root
      b₀ = (split R types ns f p.1).0

      abbrev b₁ : Root
      b₁ = (split R types ns f p.1).1

      abbrev mixed : Bool → ℕ → ℕ → ℕ
      mixed b l h = mix R (type_at f) b l h

      -- on the preferred side the two are worth their lows
      left_low : (x : ℕ → Bool) → x f ≡ preferred (type_at f) → val x p.0 ≡ val x a₀
      left_low x e = left.is x ∙ ap (λ (b : Bool). mixed b (val x a₀) (val x a₁)) e ∙ mix_preferred R (type_at f) (val x a₀) (val x a₁)

      right_low : (x : ℕ → Bool) → x f ≡ preferred (type_at f) → val x p.1 ≡ val x b₀
      right_low x e = right.is x ∙ ap (λ (b : Bool). mixed b (val x b₀) (val x b₁)) e ∙ mix_preferred R (type_at f) (val x b₀) (val x b₁)

      -- where the lows are the same, on the other side the highs tell
      at_highs : (x : ℕ → Bool) → x f ≡ not (preferred (type_at f)) → a₀ ≡ b₀ → Alike x p → val x a₁ ≡ val x b₁
      at_highs x e same alike =
          let there : Bool = not (preferred (type_at f)) in
          let both : mixed there (val x a₀) (val x a₁) ≡ mixed there (val x a₀) (val x b₁) =
          ap (λ (b : Bool). mixed b (val x a₀) (val x a₁)) (sym e) ∙ sym (left.is x) ∙ alike ∙ right.is x
          ∙ ap (λ (b : Bool). mixed b (val x b₀) (val x b₁)) e ∙ ap (λ (r : Root). mixed there (val x r) (val x b₁)) (sym same) in
          mix_other R closed laws (type_at f) (val x a₀) (val x a₁) (val x b₁) (is_value R types ns ordered closed x a₀ left.low_held)
          (is_value R types ns ordered closed x a₁ left.high_held) (is_value R types ns ordered closed x b₁ right.high_held) both

      from_highs : (x : ℕ → Bool) → a₀ ≡ b₀ → val x a₁ ≡ val x b₁ → Alike x p
      from_highs x same alike = left.is x ∙ ap₂ (mixed (x f)) (ap (val x) same) alike ∙ sym (right.is x)

      next_pair : (same : Bool) → same_lows R types ns f p ≡ same → Pair (suc f) (next same)
      next_pair true e = record {
        left_held = left.high_held;
        right_held = right.high_held;
        left_later = left.high_later;
        right_later = right.high_later;
        differ = λ q. pair.differ (same_values_equal R closed laws types ns red p.0 p.1 pair.left_held pair.right_held
            (λ x. from_highs x (same_root_true a₀ b₀ e) (ap (val x) q)));
      }
      next_pair false e = record {
        left_held = left.low_held;
        right_held = right.low_held;
        left_later = left.low_later;
        right_later = right.low_later;
        differ = same_root_false a₀ b₀ e;
      }

      -- on the side that the walk takes, the two differ exactly if the next two do
      goes_on : (same : Bool) → same_lows R types ns f p ≡ same → (x : ℕ → Bool) → x f ≡ side same → Alike x p ↔ Alike x (next same)
      goes_on true e x s = (at_highs x s (same_root_true a₀ b₀ e), from_highs x (same_root_true a₀ b₀ e))
      goes_on false e x s = ((λ alike. sym (left_low x s) ∙ alike ∙ right_low x s), (λ alike. left_low x s ∙ alike ∙ sym (right_low x s)))

      -- on the side that it leaves, if that is the preferred one, they are alike
      left_alike : (same : Bool) → same_lows R types ns f p ≡ same → (x : ℕ → Bool) → (x f ≡ side same → ⊥) → (Alike x p → ⊥) → side same ≡ preferred (type_at f)
      left_alike true e x ne apart =
          let s : x f ≡ preferred (type_at f) = elim (either_side (x f) (preferred (type_at f))) [ inl s ↦ s | inr s ↦ absurd (ne s) ] in
          absurd (apart (left_low x s ∙ ap (val x) (same_root_true a₀ b₀ e) ∙ sym (right_low x s)))
      left_alike false e x ne apart = refl

    module _ (a b : Root) (ha : Held R (length ns) a) (hb : Held R (length ns) b) (ne : a ≡ b → ⊥) where
      abbrev at : ℕ → Root × Root
      at f = walked R types ns a b f

      abbrev chosen : ℕ → Bool
      chosen f = taken R types ns a b f

      pairs : (f : ℕ) → f ≤ length types → Pair f (at f)
      pairs zero h = record { left_held = ha; right_held = hb; left_later = omega arith; right_later = omega arith; differ = ne }
      pairs (suc f) h = next_pair f h (at f) (pairs f (omega arith)) (same_lows R types ns f (at f)) refl

      pub walked_held : (f : ℕ) → f ≤ length types → Held R (length ns) (at f).0 × Held R (length ns) (at f).1
      walked_held f h = ((pairs f h).left_held, (pairs f h).right_held)

      -- past the last fact both are leaves
      leaves_same : (x : ℕ → Bool) (r s : Root) → Held R (length ns) r → Held R (length ns) s → length types ≤ level types ns r → length types ≤ level types ns s
          → val x r ≡ val x s → r ≡ s
      leaves_same x (Leaf v) (Leaf w) p q l m e = ap Leaf (sym (value_leaf R types x ns v) ∙ e ∙ value_leaf R types x ns w)
      leaves_same x (Leaf v) (Inner j) p q l m e = absurd (omega (arith, (ordered j q).known))
      leaves_same x (Inner k) (Leaf w) p q l m e = absurd (omega (arith, (ordered k p).known))
      leaves_same x (Inner k) (Inner j) p q l m e = absurd (omega (arith, (ordered k p).known))

      -- an assignment that goes as the walk goes from fact f on
      walk_differs : (d f : ℕ) → d + f ≡ length types → (x : ℕ → Bool) → ((i : ℕ) → f ≤ i → i < length types → x i ≡ chosen i) → Alike x (at f) → ⊥
      walk_differs zero f e x goes alike =
          let p = pairs f (omega arith) in
          p.differ (leaves_same x (at f).0 (at f).1 p.left_held p.right_held (omega (arith, p.left_later)) (omega (arith, p.right_later)) alike)
      walk_differs (suc d) f e x goes alike =
          let on = goes_on f (omega arith) (at f) (pairs f (omega arith)) (same_lows R types ns f (at f)) refl x (goes f (omega arith) (omega arith)) in
          walk_differs d (suc f) (omega arith) x (λ i l m. goes i (omega arith) m) (on.0 alike)

      -- at the topmost fact where another under which they differ leaves the walk, the walk has the preferred value
      walk_first : (d f : ℕ) → d + f ≡ length types → (y : ℕ → Bool) → (Alike y (at f) → ⊥) → (i : ℕ) → f ≤ i → i < length types
          → ((j : ℕ) → f ≤ j → j < i → y j ≡ chosen j) → (y i ≡ chosen i → ⊥) → chosen i ≡ preferred (type_at i)
      walk_first zero f e y apart i le lt goes leaves = absurd (omega arith)
      walk_first (suc d) f e y apart i le lt goes leaves = elim (cases_lt f i) [
        | inl more ↦
            let on = goes_on f (omega arith) (at f) (pairs f (omega arith)) (same_lows R types ns f (at f)) refl y (goes f (omega arith) more) in
            walk_first d (suc f) (omega arith) y (λ alike. apart (on.1 alike)) i more lt (λ j l m. goes j (omega arith) m) leaves
        | inr here ↦
            let same : f ≡ i = omega arith in
            subst (λ g. chosen g ≡ preferred (type_at g)) same
            (left_alike f (omega arith) (at f) (pairs f (omega arith)) (same_lows R types ns f (at f)) refl y (λ s. leaves (subst (λ g. y g ≡ chosen g) same s)) apart)
      ]

      pub walk_is_first : First types (worth R types ns a) (worth R types ns b) (walk R types ns a b)
      walk_is_first =
          let n = length types in
          let x = walk R types ns a b in
          let goes : (i : ℕ) → i < n → holds x i ≡ chosen i = holds_number n chosen in
          record {
            below = number_below n chosen;
            differs = walk_differs n 0 (omega arith) (holds x) (λ i l m. goes i m);
            first = λ y below differs other. elim (topmost_apart n (holds x) (holds y)) [
              | inl same ↦ absurd (other (sym (same_bits n x y (number_below n chosen) below same)))
              | inr d ↦
                  let f = d.fact in
                  let here : holds x f ≡ preferred (type_at f) = goes f d.known
                  ∙ walk_first n 0 (omega arith) (holds y) differs f (omega arith) d.known (λ j l m. sym (d.above j m) ∙ goes j (omega (arith, d.known))) (λ e. d.differ (goes f d.known ∙ sym e)) in
                  record { fact = f; known = d.known; above = d.above; here = here; there = other_side (holds y f) (preferred (type_at f)) (λ e. d.differ (here ∙ sym e)) }
            ];
          }

      pub only_first : (x : ℕ) → First types (worth R types ns a) (worth R types ns b) x → x ≡ walk R types ns a b
      only_first x p = first_unique types (worth R types ns a) (worth R types ns b) x (walk R types ns a b) p walk_is_first

pub first_difference : (R : Ring) → Closed R → Laws R → WalkFindsFirst R
first_difference R closed laws types ns red a b ha hb ne = (walk_is_first R closed laws types ns red a b ha hb ne, only_first R closed laws types ns red a b ha hb ne)

-- the steps of a loop over the facts, which at fact f has come to the roots left and right and split both
module _ (R : Ring) (types : List Decomposition) (ns : List Node) (a b : Root) (f : ℕ) (left right : Root)
    (is-left : left ≡ (walked R types ns a b f).0) (is_right : right ≡ (walked R types ns a b f).1) where
  abbrev here : Root × Root
  here = walked R types ns a b f

  tested : same_root (split R types ns f left).0 (split R types ns f right).0 ≡ same_lows R types ns f here
  tested = ap₂ (λ (l r : Root). same_root (split R types ns f l).0 (split R types ns f r).0) is-left is_right

  further : (same : Bool) → same_lows R types ns f here ≡ same → walked R types ns a b (f + 1) ≡ cond same (highs R types ns f here) (lows R types ns f here)
  further same e = ap (walked R types ns a b) (let k : f + 1 ≡ suc f = omega arith in k) ∙ ap (λ (c : Bool). cond c (highs R types ns f here) (lows R types ns f here)) e

  -- where the lows differ the walk takes them, on the preferred side
  pub step_lows : same_root (split R types ns f left).0 (split R types ns f right).0 ≡ false
      → ((split R types ns f left).0 ≡ (walked R types ns a b (f + 1)).0) × ((split R types ns f right).0 ≡ (walked R types ns a b (f + 1)).1) × (taken R types ns a b f ≡ preferred (get_or types f Shannon))
  step_lows differ =
      let e : same_lows R types ns f here ≡ false = sym tested ∙ differ in (
        ap (λ (r : Root). (split R types ns f r).0) is-left ∙ sym (ap (λ (p : Root × Root). p.0) (further false e)),
        ap (λ (r : Root). (split R types ns f r).0) is_right ∙ sym (ap (λ (p : Root × Root). p.1) (further false e)),
        ap (λ (c : Bool). cond c (not (preferred (get_or types f Shannon))) (preferred (get_or types f Shannon))) e,
      )

  -- else the highs, on the other side
  pub step_highs : same_root (split R types ns f left).0 (split R types ns f right).0 ≡ true
      → ((split R types ns f left).1 ≡ (walked R types ns a b (f + 1)).0) × ((split R types ns f right).1 ≡ (walked R types ns a b (f + 1)).1) × (taken R types ns a b f ≡ not (preferred (get_or types f Shannon)))
  step_highs same =
      let e : same_lows R types ns f here ≡ true = sym tested ∙ same in (
        ap (λ (r : Root). (split R types ns f r).1) is-left ∙ sym (ap (λ (p : Root × Root). p.0) (further true e)),
        ap (λ (r : Root). (split R types ns f r).1) is_right ∙ sym (ap (λ (p : Root × Root). p.1) (further true e)),
        ap (λ (c : Bool). cond c (not (preferred (get_or types f Shannon))) (preferred (get_or types f Shannon))) e,
      )

-- a root of a later fact is its own low
later_low : (R : Ring) (types : List Decomposition) (ns : List Node) (f : ℕ) (r : Root) → f < level types ns r → (split R types ns f r).0 ≡ r
later_low R types ns f (Leaf v) h = other_low R (get_or types f Shannon) (Leaf v) (λ s. s ≡ Leaf v) refl
later_low R types ns f (Inner k) h =
    let n = get_or ns k blank_node in
    let e : split R types ns f (Inner k) ≡ split_other R (get_or types f Shannon) (Inner k) = cond-false (eqb n.fact f) (n.low, n.high) (split_other R (get_or types f Shannon) (Inner k)) (ne_eqb n.fact f (omega arith)) in
    ap (λ (p : Root × Root). p.0) e ∙ other_low R (get_or types f Shannon) (Inner k) (λ s. s ≡ Inner k) refl

-- a fact above both roots is passed over: its lows are the two themselves
pub passed_over : (R : Ring) (types : List Decomposition) (ns : List Node) (f : ℕ) (p : Root × Root) → f < level types ns p.0 → f < level types ns p.1 → lows R types ns f p ≡ p
passed_over R types ns f p h h' = ap₂ (λ (a b : Root). (a, b)) (later_low R types ns f p.0 h) (later_low R types ns f p.1 h')

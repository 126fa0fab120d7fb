-- Marking from the highest node down marks exactly what the root reaches.
use Rattle.std.proofs.Common.{◌≡◌, ℕ, zero, suc, ◌<◌, ◌≤◌, Bool, true, false, cond, ◌⊎◌, ◌↔◌, List, length, get_or, sym, refl, ap, ◌∙◌, subst, inl, inr, arith}
use Rattle.std.proofs.lemmas.Bool.{cases_lt, cases_eq, ne_eqb, false≢true}
use Rattle.model.specs.Rings.{Ring}
use Rattle.model.specs.Roots.{blank_node}
use Rattle.model.specs.declared.root.Root.{Root}
use Rattle.model.specs.declared.root.Root.TheVariants.{Leaf, Inner}
use Rattle.model.specs.declared.decomposition.Decomposition.{Decomposition}
use Rattle.model.specs.declared.node.Node.{Node}
use Rattle.kfdd.specs.Reduced.{Held}
use Rattle.kfdd.specs.Ordered.{Ordered}
use Rattle.kfdd.specs.Reaching.{Reaches, itself, by_low, by_high, mark, mark_children, mark_down, reached, MarksReached}
use Rattle.kfdd.proofs.Values.{held_more}
use Rattle.kfdd.proofs.Ordered.{reduced_ordered, low_in, high_in}

-- r is a leaf, or its node is marked
abbrev pub Marked : (ℕ → Bool) → Root → Type 0
Marked marks (Leaf v) = Unit {0}
Marked marks (Inner k) = marks k ≡ true

mark_keeps : (r : Root) (marks : ℕ → Bool) (j : ℕ) → marks j ≡ true → mark r marks j ≡ true
mark_keeps (Leaf v) marks j h = h
mark_keeps (Inner k) marks j h = grind arith

mark_marks : (r : Root) (marks : ℕ → Bool) → Marked (mark r marks) r
mark_marks (Leaf v) marks = tt
mark_marks (Inner k) marks = grind arith

marked_keeps : (s r : Root) (marks : ℕ → Bool) → Marked marks r → Marked (mark s marks) r
marked_keeps s (Leaf v) marks h = h
marked_keeps s (Inner k) marks h = mark_keeps s marks k h

-- only the root's own node is marked anew
mark_new : (r : Root) (marks : ℕ → Bool) (j : ℕ) → mark r marks j ≡ true → (marks j ≡ true) ⊎ (r ≡ Inner j)
mark_new (Leaf v) marks j h = inl h
mark_new (Inner k) marks j h = elim (cases_eq j k) [ inl e ↦ inr (ap Inner (sym e)) | inr ne ↦ inl (sym (ap (λ (b : Bool). cond b true (marks j)) (ne_eqb j k ne)) ∙ h) ]

-- a root that comes before place j leaves its mark
mark_other : (R : Ring) (r : Root) (marks : ℕ → Bool) (j : ℕ) → Held R j r → mark r marks j ≡ marks j
mark_other R (Leaf v) marks j h = refl
mark_other R (Inner k) marks j h = ap (λ (b : Bool). cond b true (marks j)) (ne_eqb j k (omega arith))

module _ (ns : List Node) where
  abbrev node : ℕ → Node
  node k = get_or ns k blank_node

  pub then_low : {r : Root} {j k : ℕ} → Reaches ns r j → Reaches ns (node j).low k → Reaches ns r k
  then_low itself h = by_low h
  then_low (by_low p) h = by_low (then_low p h)
  then_low (by_high p) h = by_high (then_low p h)

  pub then_high : {r : Root} {j k : ℕ} → Reaches ns r j → Reaches ns (node j).high k → Reaches ns r k
  then_high itself h = by_high h
  then_high (by_low p) h = by_low (then_high p h)
  then_high (by_high p) h = by_high (then_high p h)

  -- what is marked stays marked
  children_keep : (k : ℕ) (marks : ℕ → Bool) (j : ℕ) → marks j ≡ true → mark_children ns k marks j ≡ true
  children_keep k marks j h = by (marks k)
    where
      by : (b : Bool) → cond b (mark (node k).high (mark (node k).low marks)) marks j ≡ true
      by true = mark_keeps (node k).high (mark (node k).low marks) j (mark_keeps (node k).low marks j h)
      by false = h

  down_keeps : (k : ℕ) (marks : ℕ → Bool) (j : ℕ) → marks j ≡ true → mark_down ns k marks j ≡ true
  down_keeps zero marks j h = h
  down_keeps (suc k) marks j h = down_keeps k (mark_children ns k marks) j (children_keep k marks j h)

  down_keeps_root : (k : ℕ) (marks : ℕ → Bool) (r : Root) → Marked marks r → Marked (mark_down ns k marks) r
  down_keeps_root k marks (Leaf v) h = h
  down_keeps_root k marks (Inner j) h = down_keeps k marks j h

  -- what is marked is reached
  children_reached : (r : Root) (k : ℕ) (marks : ℕ → Bool) → ((j : ℕ) → marks j ≡ true → Reaches ns r j) → (j : ℕ) → mark_children ns k marks j ≡ true → Reaches ns r j
  children_reached r k marks all j = by (marks k) refl
    where
      by : (b : Bool) → marks k ≡ b → cond b (mark (node k).high (mark (node k).low marks)) marks j ≡ true → Reaches ns r j
      by true e h = elim (mark_new (node k).high (mark (node k).low marks) j h) [
        | inr high ↦ then_high (all k e) (subst (λ (s : Root). Reaches ns s j) (sym high) itself)
        | inl h' ↦ elim (mark_new (node k).low marks j h') [
          | inr low ↦ then_low (all k e) (subst (λ (s : Root). Reaches ns s j) (sym low) itself)
          | inl old ↦ all j old
        ]
      ]
      by false e h = all j h

  down_reached : (r : Root) (k : ℕ) (marks : ℕ → Bool) → ((j : ℕ) → marks j ≡ true → Reaches ns r j) → (j : ℕ) → mark_down ns k marks j ≡ true → Reaches ns r j
  down_reached r zero marks all j h = all j h
  down_reached r (suc k) marks all j h = down_reached r k (mark_children ns k marks) (children_reached r k marks all) j h

  root_reached : (r : Root) (j : ℕ) → mark r (λ _. false) j ≡ true → Reaches ns r j
  root_reached r j h = elim (mark_new r (λ _. false) j h) [ inl e ↦ absurd (false≢true e) | inr e ↦ subst (λ (s : Root). Reaches ns s j) (sym e) itself ]

  pub reached_reaches : (r : Root) (j : ℕ) → reached ns r j ≡ true → Reaches ns r j
  unfolding reached
  reached_reaches r j h = down_reached r (length ns) (mark r (λ _. false)) (root_reached r) j h

  module _ (R : Ring) (types : List Decomposition) (ordered : Ordered R types ns) where
    -- children come earlier, so a node's own mark and those of later nodes stay
    pub children_leave : (k : ℕ) → k < length ns → (marks : ℕ → Bool) (j : ℕ) → k ≤ j → mark_children ns k marks j ≡ marks j
    children_leave k h marks j le = by (marks k)
      where
        low : Held R j (node k).low
        low = held_more R k j (node k).low le (ordered k h).low_held

        high : Held R j (node k).high
        high = held_more R k j (node k).high le (ordered k h).high_held

        by : (b : Bool) → cond b (mark (node k).high (mark (node k).low marks)) marks j ≡ marks j
        by true = mark_other R (node k).high (mark (node k).low marks) j high ∙ mark_other R (node k).low marks j low
        by false = refl

    -- once the nodes from k on have marked their children, their own marks are final
    pub settled : (k : ℕ) → k ≤ length ns → (marks : ℕ → Bool) (j : ℕ) → k ≤ j → mark_down ns k marks j ≡ marks j
    settled zero le marks j h = refl
    settled (suc k) le marks j h = settled k (omega arith) (mark_children ns k marks) j (omega arith) ∙ children_leave k le marks j (omega arith)

    -- the children of what is marked are marked
    down_closed : (k : ℕ) → k ≤ length ns → (marks : ℕ → Bool) (j : ℕ) → j < k → mark_down ns k marks j ≡ true
        → Marked (mark_down ns k marks) (node j).low × Marked (mark_down ns k marks) (node j).high
    down_closed zero le marks j lt h = absurd (omega arith)
    down_closed (suc k) le marks j lt h = elim (cases_lt j k) [
      | inl less ↦ down_closed k (omega arith) (mark_children ns k marks) j less h
      | inr more ↦
          let here : j ≡ k = omega arith in
          let own : marks k ≡ true = sym (settled k (omega arith) (mark_children ns k marks) k (omega arith) ∙ children_leave k le marks k (omega arith)) ∙ subst (λ i. mark_down ns (suc k) marks i ≡ true) here h in
          subst (λ i. Marked (mark_down ns (suc k) marks) (node i).low × Marked (mark_down ns (suc k) marks) (node i).high) (sym here) (both own)
    ]
      where
        both : marks k ≡ true → Marked (mark_down ns (suc k) marks) (node k).low × Marked (mark_down ns (suc k) marks) (node k).high
        both own =
            let l = (node k).low in
            let u = (node k).high in
            let m = mark_children ns k marks in
            let e : m ≡ mark u (mark l marks) = ap (λ (b : Bool). cond b (mark u (mark l marks)) marks) own in (
              down_keeps_root k m l (subst (λ (marks' : ℕ → Bool). Marked marks' l) (sym e) (marked_keeps u l (mark l marks) (mark_marks l marks))),
              down_keeps_root k m u (subst (λ (marks' : ℕ → Bool). Marked marks' u) (sym e) (mark_marks u (mark l marks))),
            )

    -- marks that hold the root and the children of what they hold hold all that is reached
    follow : (marks : ℕ → Bool) → ((j : ℕ) → j < length ns → marks j ≡ true → Marked marks (node j).low × Marked marks (node j).high)
        → {r : Root} {k : ℕ} → Held R (length ns) r → Marked marks r → Reaches ns r k → marks k ≡ true
    follow marks closed h m itself = m
    follow marks closed h m (by_low {j} p) = follow marks closed (low_in R types ns ordered j h) (closed j h m).0 p
    follow marks closed h m (by_high {j} p) = follow marks closed (high_in R types ns ordered j h) (closed j h m).1 p

    pub reaches_held : {r : Root} {k : ℕ} → Held R (length ns) r → Reaches ns r k → k < length ns
    reaches_held h itself = h
    reaches_held h (by_low {j} p) = reaches_held (low_in R types ns ordered j h) p
    reaches_held h (by_high {j} p) = reaches_held (high_in R types ns ordered j h) p

    pub reached_closed : (r : Root) (j : ℕ) → j < length ns → reached ns r j ≡ true → Marked (reached ns r) (node j).low × Marked (reached ns r) (node j).high
    unfolding reached
    reached_closed r j = down_closed (length ns) (omega arith) (mark r (λ _. false)) j

    pub reached_root : (r : Root) → Marked (reached ns r) r
    unfolding reached
    reached_root r = down_keeps_root (length ns) (mark r (λ _. false)) r (mark_marks r (λ _. false))

    -- exactly what the root reaches is marked
    pub reached_is : (r : Root) → Held R (length ns) r → (k : ℕ) → (reached ns r k ≡ true) ↔ Reaches ns r k
    reached_is r h k = (reached_reaches r k, follow (reached ns r) (reached_closed r) h (reached_root r))

pub marks_reached : (R : Ring) → MarksReached R
marks_reached R types ns red r h k = reached_is ns R types (reduced_ordered R types ns red) r h k

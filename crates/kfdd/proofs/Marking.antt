-- Marking as a loop does it: marks in a list, the nodes from the highest down.
use Rattle.std.proofs.Common.{◌≡◌, ℕ, zero, suc, ◌<◌, ◌≤◌, Bool, true, false, cond, eqb, List, length, get_or, set, sym, ap, ◌∙◌, inl, inr, arith}
use Rattle.std.proofs.lemmas.List.{get_or-set_same, get_or-set_other}
use Rattle.std.proofs.lemmas.Bool.{cases_eq, eq-eqb, ne_eqb}
use Rattle.model.specs.Rings.{Ring}
use Rattle.model.specs.Roots.{blank_node}
use Rattle.model.specs.declared.root.Root.{Root}
use Rattle.model.specs.declared.root.Root.TheVariants.{Leaf, Inner}
use Rattle.model.specs.declared.decomposition.Decomposition.{Decomposition}
use Rattle.model.specs.declared.node.Node.{Node}
use Rattle.kfdd.specs.Ordered.{Ordered}
use Rattle.kfdd.specs.Reaching.{mark, mark_children, mark_down, reached, marks_of}
use Rattle.kfdd.proofs.Reaching.{settled, children_leave}

-- writing a 1 marks
pub marks_set : (list : List ℕ) (k : ℕ) → k < length list → (j : ℕ) → marks_of (set list k 1) j ≡ mark (Inner k) (marks_of list) j
marks_set list k h j = elim (cases_eq j k) [
  | inl e ↦
      let own : get_or (set list k 1) j 0 ≡ 1 = ap (λ i. get_or (set list k 1) i 0) e ∙ get_or-set_same list k 1 0 h in
      ap (λ v. eqb v 1) own ∙ sym (ap (λ (b : Bool). cond b true (marks_of list j)) (eq-eqb j k e))
  | inr ne ↦ ap (λ v. eqb v 1) (get_or-set_other list k j 1 0 ne) ∙ sym (ap (λ (b : Bool). cond b true (marks_of list j)) (ne_eqb j k ne))
]

-- a mark after marking depends on that mark alone
pub mark_agrees : (r : Root) (m m' : ℕ → Bool) (j : ℕ) → m j ≡ m' j → mark r m j ≡ mark r m' j
mark_agrees (Leaf v) m m' j e = e
mark_agrees (Inner k) m m' j e = ap (λ (b : Bool). cond (eqb j k) true b) e

module _ (ns : List Node) where
  abbrev Agree : (ℕ → Bool) → (ℕ → Bool) → Type 0
  Agree m m' = (j : ℕ) → j < length ns → m j ≡ m' j

  children_agree : (k : ℕ) → k < length ns → (m m' : ℕ → Bool) → Agree m m' → Agree (mark_children ns k m) (mark_children ns k m')
  children_agree k h m m' same j l = ap (λ (b : Bool). chosen b m j) (same k h) ∙ by (m' k)
    where
      chosen : Bool → (ℕ → Bool) → ℕ → Bool
      chosen b marks = cond b (mark (get_or ns k blank_node).high (mark (get_or ns k blank_node).low marks)) marks

      by : (b : Bool) → chosen b m j ≡ chosen b m' j
      by true = mark_agrees (get_or ns k blank_node).high (mark (get_or ns k blank_node).low m) (mark (get_or ns k blank_node).low m') j (mark_agrees (get_or ns k blank_node).low m m' j (same j l))
      by false = same j l

  down_agrees : (k : ℕ) → k ≤ length ns → (m m' : ℕ → Bool) → Agree m m' → Agree (mark_down ns k m) (mark_down ns k m')
  down_agrees zero le m m' same = same
  down_agrees (suc k) le m m' same = down_agrees k (omega arith) (mark_children ns k m) (mark_children ns k m') (children_agree k le m m' same)

  -- the nodes from k on have had their turn, and those below k bring the marks to the final ones
  abbrev pub Marking : (ℕ → Bool) → ℕ → (ℕ → Bool) → Type 0
  Marking final k marks = (j : ℕ) → j < length ns → mark_down ns k marks j ≡ final j

  -- at the start the root's own node is marked
  pub marking_start : (r : Root) (marks : ℕ → Bool) → ((j : ℕ) → j < length ns → marks j ≡ mark r (λ _. false) j) → Marking (reached ns r) (length ns) marks
  unfolding reached
  marking_start r marks same = down_agrees (length ns) (omega arith) marks (mark r (λ _. false)) same

  next : (final : ℕ → Bool) (k : ℕ) → k < length ns → (m m' : ℕ → Bool) → Marking final (suc k) m → Agree m' (mark_children ns k m) → Marking final k m'
  next final k h m m' marking same j l = down_agrees k (omega arith) m' (mark_children ns k m) same j l ∙ marking j l

  -- a marked node has marked its children
  pub marking_yes : (final : ℕ → Bool) (k : ℕ) → k < length ns → (m m' : ℕ → Bool) → Marking final (suc k) m → m k ≡ true
      → ((j : ℕ) → j < length ns → m' j ≡ mark (get_or ns k blank_node).high (mark (get_or ns k blank_node).low m) j) → Marking final k m'
  marking_yes final k h m m' marking own same =
      next final k h m m' marking (λ j l. same j l ∙ sym (ap (λ (b : Bool). cond b (mark (get_or ns k blank_node).high (mark (get_or ns k blank_node).low m)) m j) own))

  -- one that is not has marked nothing
  pub marking_no : (final : ℕ → Bool) (k : ℕ) → k < length ns → (m : ℕ → Bool) → Marking final (suc k) m → m k ≡ false → Marking final k m
  marking_no final k h m marking none =
      next final k h m m marking (λ j l. sym (ap (λ (b : Bool). cond b (mark (get_or ns k blank_node).high (mark (get_or ns k blank_node).low m)) m j) none))

  -- at its turn a node's mark is final
  pub marking_turn : (R : Ring) (types : List Decomposition) → Ordered R types ns → (final : ℕ → Bool) (k : ℕ) → k < length ns → (marks : ℕ → Bool) → Marking final (suc k) marks → marks k ≡ final k
  marking_turn R types ordered final k h marks marking =
      sym (settled ns R types ordered k (omega arith) (mark_children ns k marks) k (omega arith) ∙ children_leave ns R types ordered k h marks k (omega arith)) ∙ marking k h

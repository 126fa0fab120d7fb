-- The order of assignments: of two different ones exactly one precedes the other, and precedence carries over.
use Rattle.std.proofs.Common.{◌≡◌, ℕ, zero, suc, ◌^◌, ◌<◌, Bool, true, false, not, ◌⊎◌, List, length, get_or, sym, refl, ◌∙◌, subst, inl, inr, arith}
use Rattle.std.proofs.lemmas.Bool.{cases_lt, cases_order, cases_eq, both_ways}
use Rattle.model.specs.Assignments.{holds}
use Rattle.model.specs.declared.decomposition.Decomposition.{Decomposition}
use Rattle.model.specs.declared.decomposition.Decomposition.TheVariants.{Shannon}
use Rattle.kfdd.specs.FirstDifference.{preferred, Before, StrictOrder, First}
use Rattle.kfdd.proofs.Assignments.{same_bits}

pub not_own : (b : Bool) → b ≡ not b → ⊥
not_own true e = both_ways true e refl
not_own false e = both_ways false refl e

pub other_side : (a b : Bool) → (a ≡ b → ⊥) → a ≡ not b
other_side true true h = absurd (h refl)
other_side true false h = refl
other_side false true h = refl
other_side false false h = absurd (h refl)

pub either_side : (a b : Bool) → (a ≡ b) ⊎ (a ≡ not b)
either_side true true = inl refl
either_side true false = inr refl
either_side false true = inr refl
either_side false false = inl refl

-- the topmost of the facts below n where x and y differ
pub record TopmostDifference (n : ℕ) (x y : ℕ → Bool) : Type 0 where
  pub fact : ℕ
  pub known : fact < n
  pub above : (i : ℕ) → i < fact → x i ≡ y i
  pub differ : x fact ≡ y fact → ⊥

pub topmost_apart : (n : ℕ) (x y : ℕ → Bool) → ((i : ℕ) → i < n → x i ≡ y i) ⊎ TopmostDifference n x y
topmost_apart zero x y = inl (λ i h. absurd (omega arith))
topmost_apart (suc n) x y = elim (topmost_apart n x y) [
  | inr p ↦ inr (record { fact = p.fact; known = omega (arith, p.known); above = p.above; differ = p.differ })
  | inl same ↦ elim (either_side (x n) (y n)) [
    | inl e ↦ inl (λ i h. elim (cases_lt i n) [ inl lt ↦ same i lt | inr ge ↦ subst (λ j. x j ≡ y j) (let k : n ≡ i = omega arith in k) e ])
    | inr ne ↦ inr (record { fact = n; known = omega arith; above = same; differ = λ e. not_own (y n) (sym e ∙ ne) })
  ]
]

module _ (types : List Decomposition) where
  abbrev side : ℕ → Bool
  side f = preferred (get_or types f Shannon)

  pub before_or_after : (x y : ℕ) → x < 2 ^ length types → y < 2 ^ length types → (x ≡ y → ⊥) → Before types x y ⊎ Before types y x
  before_or_after x y p q ne = elim (topmost_apart (length types) (holds x) (holds y)) [
    | inl same ↦ absurd (ne (same_bits (length types) x y p q same))
    | inr d ↦ elim (either_side (holds x d.fact) (side d.fact)) [
      | inl e ↦ inl (record { fact = d.fact; known = d.known; above = d.above; here = e; there = other_side (holds y d.fact) (side d.fact) (λ e'. d.differ (e ∙ sym e')) })
      | inr e ↦ elim (either_side (holds y d.fact) (side d.fact)) [
        | inl e' ↦ inr (record { fact = d.fact; known = d.known; above = λ i h. sym (d.above i h); here = e'; there = e })
        | inr e' ↦ absurd (d.differ (e ∙ sym e'))
      ]
    ]
  ]

  differ_there : (x y : ℕ) (p : Before types x y) → holds x p.fact ≡ holds y p.fact → ⊥
  differ_there x y p e = not_own (side p.fact) (sym p.here ∙ e ∙ p.there)

  pub not_both : (x y : ℕ) → Before types x y → Before types y x → ⊥
  not_both x y p q = elim (cases_order p.fact q.fact) [
    | inl e ↦ not_own (side p.fact) (sym p.here ∙ subst (λ f. holds x f ≡ not (side f)) (sym e) q.there)
    | inr (inl lt) ↦ differ_there x y p (sym (q.above p.fact lt))
    | inr (inr gt) ↦ differ_there y x q (sym (p.above q.fact gt))
  ]

  pub carries_over : (x y z : ℕ) → Before types x y → Before types y z → Before types x z
  carries_over x y z p q = elim (cases_order p.fact q.fact) [
    | inl e ↦ absurd (not_own (side p.fact) (subst (λ f. side f ≡ holds y f) (sym e) (sym q.here) ∙ p.there))
    | inr (inl lt) ↦ record { fact = p.fact; known = p.known; above = λ i h. p.above i h ∙ q.above i (omega arith); here = p.here; there = sym (q.above p.fact lt) ∙ p.there }
    | inr (inr gt) ↦ record { fact = q.fact; known = q.known; above = λ i h. p.above i (omega arith) ∙ q.above i h; here = p.above q.fact gt ∙ q.here; there = q.there }
  ]

  pub strict_order : StrictOrder types
  strict_order = record { either = before_or_after; not_both = not_both; carries_over = carries_over }

  -- there is at most one first assignment
  pub first_unique : (f g : ℕ → ℕ) (x y : ℕ) → First types f g x → First types f g y → x ≡ y
  first_unique f g x y p q = elim (cases_eq x y) [
    | inl e ↦ e
    | inr ne ↦ absurd (not_both x y (p.first y q.below q.differs (λ e. ne (sym e))) (q.first x p.below p.differs ne))
  ]

-- The examples of counting and comparing, by computing.
use Rattle.std.proofs.Common.{◌≡◌, ℕ, zero, suc, ◌<◌, [], refl, arith}
use Rattle.model.specs.Rings.{Ring}
use Rattle.model.specs.declared.root.Root.TheVariants.{Leaf, Inner}
use Rattle.arithmetic.specs.YesNo.{yes_no}
use Rattle.kfdd.specs.Values.{value}
use Rattle.kfdd.specs.Assignments.{worth}
use Rattle.kfdd.specs.FirstDifference.{Before}
use Rattle.kfdd.specs.Reaching.{reached, reached_count}
use Rattle.kfdd.specs.ComparedExamples.{a_then_b, product_nodes, product_and_sum_nodes, ComparedExamples}

product_count : reached_count product_nodes (Inner 2) ≡ 2
unfolding reached
product_count = refl

abbrev product : ℕ → ℕ
product = worth yes_no a_then_b product_and_sum_nodes (Inner 2)

abbrev sum : ℕ → ℕ
sum = worth yes_no a_then_b product_and_sum_nodes (Inner 4)

apart_at_two : product 2 ≡ sum 2 → ⊥
unfolding value
apart_at_two e = omega arith

alike_at_nought : product 0 ≡ sum 0
unfolding value
alike_at_nought = refl

two_first : (y : ℕ) → y < 4 → (product y ≡ sum y → ⊥) → (y ≡ 2 → ⊥) → Before a_then_b 2 y
two_first zero h apart other = absurd (apart alike_at_nought)
two_first (suc zero) h apart other = record { fact = 0; known = omega arith; above = λ i l. absurd (omega arith); here = refl; there = refl }
two_first (suc (suc zero)) h apart other = absurd (other refl)
two_first (suc (suc (suc zero))) h apart other = record { fact = 0; known = omega arith; above = λ i l. absurd (omega arith); here = refl; there = refl }
two_first (suc (suc (suc (suc y)))) h apart other = absurd (omega arith)

constants_differ : (R : Ring) → worth R [] [] (Leaf 0) 0 ≡ worth R [] [] (Leaf 1) 0 → ⊥
unfolding value
constants_differ R e = omega arith

pub compared_examples : ComparedExamples
compared_examples = record {
  product_count = product_count;
  product_and_sum = record { below = omega arith; differs = apart_at_two; first = two_first };
  product_and_sum_walk = refl;
  constants = λ R. record { below = omega arith; differs = constants_differ R; first = λ y h apart other. absurd (other (omega arith)) };
}

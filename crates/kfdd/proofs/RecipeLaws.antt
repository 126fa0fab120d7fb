-- The recipe keeps and means, and repeats: for roots that a reduced list holds.
use Rattle.std.proofs.Common.{◌≡◌, ℕ, suc, ◌≤◌, Bool, List, length, get_or, arith}
use Rattle.model.specs.Rings.{Ring, Closed, Laws}
use Rattle.model.specs.declared.root.Root.{Root}
use Rattle.model.specs.declared.decomposition.Decomposition.{Decomposition}
use Rattle.model.specs.declared.decomposition.Decomposition.TheVariants.{Shannon}
use Rattle.model.specs.declared.node.Node.{Node}
use Rattle.kfdd.specs.Values.{mix, value}
use Rattle.kfdd.specs.Reduced.{level, Held, Reduced}
use Rattle.kfdd.specs.Splitting.{topmost}
use Rattle.kfdd.specs.Appending.{Extends}
use Rattle.kfdd.specs.Joining.{done, join}
use Rattle.kfdd.specs.Recipe.{sum, minus, times, sum_of, minus_of, times_of}
use Rattle.kfdd.specs.Outcomes.{Kept}
use Rattle.kfdd.specs.RecipeLaws.{Joinable, MeansOperations, RepeatsOperations, RecipeMeans, RecipeRepeats}
use Rattle.kfdd.proofs.Standing.{stands_plainly}
use Rattle.kfdd.proofs.Answering.{Answered}
use Rattle.kfdd.proofs.Outcomes.{answered_means, answered_repeats, done_kept, done_again, any_count}
use Rattle.kfdd.proofs.Joined.{join_answered, fact_answered}
use Rattle.kfdd.proofs.SumAnswers.{sum_answered}
use Rattle.kfdd.proofs.MinusAnswers.{minus_answered}
use Rattle.kfdd.proofs.TimesAnswers.{times_answered}
use Rattle.kfdd.proofs.NetOutcomes.{net_means, net_repeats}

module _ (R : Ring) (closed : Closed R) (laws : Laws R) (types : List Decomposition) (ns : List Node) (red : Reduced R types ns) where
  abbrev worth : Root → (ℕ → Bool) → ℕ
  worth r x = value R types x ns r

  -- the questions about held roots, asked with at least the number of facts
  pub sum_held : (a b : Root) → Held R (length ns) a → Held R (length ns) b
      → Answered R types (length types) (λ e c ms. sum R types c e ms a b) ns (topmost types ns a b) (λ x. R.sum (worth a x) (worth b x))
  sum_held a b ha hb =
      let l = topmost types ns a b in
      sum_answered R closed laws types (length types) l (omega arith) ns red (worth a) (worth b) a b (stands_plainly R types ns l a ha (omega arith)) (stands_plainly R types ns l b hb (omega arith))

  pub minus_held : (a : Root) → Held R (length ns) a → Answered R types (length types) (λ e c ms. minus R types c e ms a) ns (level types ns a) (λ x. R.minus (worth a x))
  minus_held a ha =
      let l = level types ns a in
      minus_answered R closed laws types (length types) l (omega arith) ns red (worth a) a (stands_plainly R types ns l a ha (omega arith))

  pub times_held : (a b : Root) → Held R (length ns) a → Held R (length ns) b
      → Answered R types (length types) (λ e c ms. times R types c e ms a b) ns (topmost types ns a b) (λ x. R.product (worth a x) (worth b x))
  times_held a b ha hb =
      let l = topmost types ns a b in
      times_answered R closed laws types (length types) l (omega arith) ns red (worth a) (worth b) a b (stands_plainly R types ns l a ha (omega arith)) (stands_plainly R types ns l b hb (omega arith))

  pub join_held : (f : ℕ) (low high : Root) → Joinable R types ns f low high
      → Answered R types 0 (λ e c ms. join R types c ms f low high) ns f (λ x. mix R (get_or types f Shannon) (x f) (worth low x) (worth high x))
  join_held f low high j =
      join_answered R closed laws types ns red f j.known 0 low high (worth low) (worth high)
      (stands_plainly R types ns (suc f) low j.low_held j.low_later) (stands_plainly R types ns (suc f) high j.high_held j.high_later)

  -- What was done is kept.
  pub sum_kept : (c : ℕ) (a b : Root) → Held R (length ns) a → Held R (length ns) b → (ms : List Node) (r : Root) → sum_of R types c ns a b ≡ done ms r
      → Kept R types ns (topmost types ns a b) (λ x. R.sum (worth a x) (worth b x)) ms r
  sum_kept c a b ha hb ms r p = done_kept R types (length types) _ ns _ _ (sum_held a b ha hb) (length types) (omega arith) c ms r p

  pub minus_kept : (c : ℕ) (a : Root) → Held R (length ns) a → (ms : List Node) (r : Root) → minus_of R types c ns a ≡ done ms r → Kept R types ns (level types ns a) (λ x. R.minus (worth a x)) ms r
  minus_kept c a ha ms r p = done_kept R types (length types) _ ns _ _ (minus_held a ha) (length types) (omega arith) c ms r p

  pub times_kept : (c : ℕ) (a b : Root) → Held R (length ns) a → Held R (length ns) b → (ms : List Node) (r : Root) → times_of R types c ns a b ≡ done ms r
      → Kept R types ns (topmost types ns a b) (λ x. R.product (worth a x) (worth b x)) ms r
  times_kept c a b ha hb ms r p = done_kept R types (length types) _ ns _ _ (times_held a b ha hb) (length types) (omega arith) c ms r p

  pub join_kept : (c f : ℕ) (low high : Root) → Joinable R types ns f low high → (ms : List Node) (r : Root) → join R types c ns f low high ≡ done ms r
      → Kept R types ns f (λ x. mix R (get_or types f Shannon) (x f) (worth low x) (worth high x)) ms r
  join_kept c f low high j ms r p = done_kept R types 0 _ ns _ _ (join_held f low high j) 0 (omega arith) c ms r p

  -- What was done is done again, with nothing added, on every list that goes on from there.
  pub sum_again : (c c' : ℕ) (a b : Root) → Held R (length ns) a → Held R (length ns) b → (ms : List Node) (r : Root) → sum_of R types c ns a b ≡ done ms r
      → (ms' : List Node) → Extends ms ms' → sum_of R types c' ms' a b ≡ done ms' r
  sum_again c c' a b ha hb ms r p ms' ext = done_again R types (length types) _ ns _ _ (sum_held a b ha hb) (length types) (omega arith) c c' ms ms' r p ext

  pub minus_again : (c c' : ℕ) (a : Root) → Held R (length ns) a → (ms : List Node) (r : Root) → minus_of R types c ns a ≡ done ms r
      → (ms' : List Node) → Extends ms ms' → minus_of R types c' ms' a ≡ done ms' r
  minus_again c c' a ha ms r p ms' ext = done_again R types (length types) _ ns _ _ (minus_held a ha) (length types) (omega arith) c c' ms ms' r p ext

  pub times_again : (c c' : ℕ) (a b : Root) → Held R (length ns) a → Held R (length ns) b → (ms : List Node) (r : Root) → times_of R types c ns a b ≡ done ms r
      → (ms' : List Node) → Extends ms ms' → times_of R types c' ms' a b ≡ done ms' r
  times_again c c' a b ha hb ms r p ms' ext = done_again R types (length types) _ ns _ _ (times_held a b ha hb) (length types) (omega arith) c c' ms ms' r p ext

  -- Every count that is at least the number of facts does the same.
  pub sum_any_count : (c e e' : ℕ) → length types ≤ e → length types ≤ e' → (a b : Root) → Held R (length ns) a → Held R (length ns) b → sum R types c e ns a b ≡ sum R types c e' ns a b
  sum_any_count c e e' le le' a b ha hb = any_count R types (length types) _ ns _ _ (sum_held a b ha hb) e le e' c le'

  pub minus_any_count : (c e e' : ℕ) → length types ≤ e → length types ≤ e' → (a : Root) → Held R (length ns) a → minus R types c e ns a ≡ minus R types c e' ns a
  minus_any_count c e e' le le' a ha = any_count R types (length types) _ ns _ _ (minus_held a ha) e le e' c le'

  pub times_any_count : (c e e' : ℕ) → length types ≤ e → length types ≤ e' → (a b : Root) → Held R (length ns) a → Held R (length ns) b → times R types c e ns a b ≡ times R types c e' ns a b
  times_any_count c e e' le le' a b ha hb = any_count R types (length types) _ ns _ _ (times_held a b ha hb) e le e' c le'

  operations_mean : MeansOperations R types ns
  operations_mean =
      record {
        sums = λ a b ha hb. answered_means R types (length types) _ ns _ _ (sum_held a b ha hb) (length types) (omega arith);
        minuses = λ a ha. answered_means R types (length types) _ ns _ _ (minus_held a ha) (length types) (omega arith);
        products = λ a b ha hb. answered_means R types (length types) _ ns _ _ (times_held a b ha hb) (length types) (omega arith);
        joins = λ f low high j. answered_means R types 0 _ ns _ _ (join_held f low high j) 0 (omega arith);
        facts = λ f known. answered_means R types 0 _ ns _ _ (fact_answered R closed laws types ns red 0 f known) 0 (omega arith);
        nets = net_means R closed laws types ns red;
      }

  operations_repeat : RepeatsOperations R types ns
  operations_repeat =
      record {
        sums = λ a b ha hb. answered_repeats R types (length types) _ ns _ _ (sum_held a b ha hb) (length types) (omega arith);
        minuses = λ a ha. answered_repeats R types (length types) _ ns _ _ (minus_held a ha) (length types) (omega arith);
        products = λ a b ha hb. answered_repeats R types (length types) _ ns _ _ (times_held a b ha hb) (length types) (omega arith);
        joins = λ f low high j. answered_repeats R types 0 _ ns _ _ (join_held f low high j) 0 (omega arith);
        facts = λ f known. answered_repeats R types 0 _ ns _ _ (fact_answered R closed laws types ns red 0 f known) 0 (omega arith);
        nets = net_repeats R closed laws types ns red;
      }

module _ (R : Ring) (closed : Closed R) (laws : Laws R) where
  pub recipe_means : RecipeMeans R
  recipe_means types ns red = operations_mean R closed laws types ns red

  pub recipe_repeats : RecipeRepeats R
  recipe_repeats types ns red = operations_repeat R closed laws types ns red

-- A question that is split comes to its first part and what is left of its frame then.
use Rattle.std.proofs.Common.{◌≡◌, ℕ, suc, ◌<◌, ◌≤◌, ◌⊎◌, List, length, get_or, None, sym, refl, ap, ◌∙◌, subst, inl, inr, arith}
use Rattle.std.proofs.lemmas.Option.{none-some}
use Rattle.model.specs.Rings.{Ring, Closed, Laws}
use Rattle.model.specs.declared.decomposition.Decomposition.{Decomposition}
use Rattle.model.specs.declared.decomposition.Decomposition.TheVariants.{Shannon, PositiveDavio, NegativeDavio}
use Rattle.model.specs.declared.node.Node.{Node}
use Rattle.model.specs.declared.root.Root.{Root}
use Rattle.model.specs.declared.root.Root.TheVariants.{Inner, Leaf}
use Rattle.storage.specs.declared.question.Question.{Question}
use Rattle.storage.specs.declared.question.Question.TheVariants.{Sum, Minus, Times}
use Rattle.kfdd.specs.Joining.{Outcome, full, done, then, join}
use Rattle.kfdd.specs.Recipe.{sum_at_once, minus_at_once, product_at_once, high_of_product, high_of_davio_product, sum_of, times_of, low_high_join}
use Rattle.kfdd.specs.Reduced.{level, Held, Reduced}
use Rattle.kfdd.specs.Splitting.{split, topmost}
use Rattle.kfdd.proofs.MinusAnswers.{minus_unfolds}
use Rattle.kfdd.proofs.Standing.{split_halves}
use Rattle.kfdd.proofs.Steps.{inner_known}
use Rattle.kfdd.proofs.SumAnswers.{sum_unfolds, topmost_known as sum_known}
use Rattle.kfdd.proofs.TimesAnswers.{times_unfolds, topmost_known as product_known}
use Rattle.engine.specs.declared.frame.Frame.{Frame}
use Rattle.engine.specs.declared.frame.Stage.{Stage}
use Rattle.engine.specs.declared.frame.Stage.TheVariants.{Low, LowProduct}
use Rattle.engine.specs.Questions.{outcome, shortcut, top_of, RootsHeld}
use Rattle.engine.specs.Stages.{after_high, after_first_two, after_high_low, after_low_high, after_high_high, after_low_product, Divides, PairFrom}

-- going on in the same way
then_same : (o : Outcome) (k j : List Node → Root → Outcome) → ((ns : List Node) (r : Root) → k ns r ≡ j ns r) → then o k ≡ then o j
then_same full k j same = refl
then_same (done ns r) k j same = same ns r

-- going on twice is going on once with both
regroup : (o : Outcome) (k k' j : List Node → Root → Outcome) → ((ns : List Node) (r : Root) → then (k ns r) k' ≡ j ns r) → then (then o k) k' ≡ then o j
regroup full k k' j same = refl
regroup (done ns r) k k' j same = same ns r

abbrev frame_of : Question → ℕ → Stage → Frame
frame_of q f s = record { question = q; fact = f; stage = s }

module _ (R : Ring) (types : List Decomposition) (c f : ℕ) (p q : Root × Root) where
  -- the high of a P or N product, and then the join
  davio_regrouped : (ns : List Node) (l : Root) → then (high_of_davio_product (times_of R types c) (sum_of R types c) p q ns) (after_high R types c f l) ≡ after_low_product R types c f p q ns l
  davio_regrouped ns l =
      let T : List Node → Root → Root → Outcome = times_of R types c in
      let S : List Node → Root → Root → Outcome = sum_of R types c in
      let K : List Node → Root → Outcome = after_high R types c f l in
      let then-third : Root → List Node → Root → Outcome = λ hl ns₄ s. S ns₄ s hl in
      let then-sums : Root → Root → List Node → Root → Outcome = λ hh lh ns₃ hl. then (S ns₃ hh lh) (then-third hl) in
      let then-hl : Root → List Node → Root → Outcome = λ hh ns₂ lh. then (T ns₂ p.1 q.0) (then-sums hh lh) in
      let then-lh : List Node → Root → Outcome = λ ns₁ hh. then (T ns₁ p.0 q.1) (then-hl hh) in
      regroup (T ns p.1 q.1) then-lh K (after_high_high R types c f l p q) (λ ns₁ hh.
      regroup (T ns₁ p.0 q.1) (then-hl hh) K (after_low_high R types c f l hh (Times p.1 q.0)) (λ ns₂ lh.
      regroup (T ns₂ p.1 q.0) (then-sums hh lh) K (after_high_low R types c f l hh lh) (λ ns₃ hl.
      regroup (S ns₃ hh lh) (then-third hl) K (after_first_two R types c f l hl) (λ ns₄ s. refl))))

module _ (R : Ring) (closed : Closed R) (laws : Laws R) (types : List Decomposition) (ns : List Node) (red : Reduced R types ns) where
  halves_from : (f : ℕ) → f < length types → (r : Root) → Held R (length ns) r → f ≤ level types ns r → PairFrom R types ns (suc f) (split R types ns f r)
  halves_from f known r h le =
      let s = split_halves R closed laws types ns red f known r h le in
      (record { held = s.low.held; later = s.low.later }, record { held = s.high.held; later = s.high.later })

  module _ (a b : Root) (ha : Held R (length ns) a) (hb : Held R (length ns) b) where
    abbrev f : ℕ
    f = topmost types ns a b

    abbrev p : Root × Root
    p = split R types ns f a

    abbrev q : Root × Root
    q = split R types ns f b

    sum_divides : sum_at_once R a b ≡ None → Divides R types ns (Sum a b) (frame_of (Sum a b) f (Low (Sum p.1 q.1))) (Sum p.0 q.0)
    sum_divides none =
        let known = sum_known R closed laws types ns red a b ha hb none in
        let sa = halves_from f known a ha (omega arith) in
        let sb = halves_from f known b hb (omega arith) in
        record {
          question = refl;
          topmost = refl;
          known = known;
          left = λ c. sum_unfolds R closed laws types (length types) (omega arith) c ns red a b ha hb none;
          roots = ((sa.1, sb.1), (sa.0, sb.0));
        }

    module _ (none : product_at_once R a b ≡ None) where
      known : f < length types
      known = product_known R closed laws types ns red a b ha hb none

      sa : PairFrom R types ns (suc f) p
      sa = halves_from f known a ha (omega arith)

      sb : PairFrom R types ns (suc f) q
      sb = halves_from f known b hb (omega arith)

      unfolded : (c : ℕ) (t : Decomposition) → get_or types f Shannon ≡ t
          → outcome R types c ns (Times a b) ≡ low_high_join R types c f (times_of R types c ns p.0 q.0) (high_of_product t (times_of R types c) (sum_of R types c) p q)
      unfolded c t e =
          times_unfolds R closed laws types (length types) (omega arith) c ns red a b ha hb none
          ∙ ap (λ (t : Decomposition). low_high_join R types c f (times_of R types c ns p.0 q.0) (high_of_product t (times_of R types c) (sum_of R types c) p q)) e

      times_divides_shannon : get_or types f Shannon ≡ Shannon → Divides R types ns (Times a b) (frame_of (Times a b) f (Low (Times p.1 q.1))) (Times p.0 q.0)
      times_divides_shannon e = record { question = refl; topmost = refl; known = known; left = λ c. unfolded c Shannon e; roots = ((sa.1, sb.1), (sa.0, sb.0)) }

      davio : (c : ℕ) → then (times_of R types c ns p.0 q.0) (λ ns₁ l. then (high_of_davio_product (times_of R types c) (sum_of R types c) p q ns₁) (λ ns₂ h. join R types c ns₂ f l h))
          ≡ then (times_of R types c ns p.0 q.0) (after_low_product R types c f p q)
      davio c =
          then_same (times_of R types c ns p.0 q.0) (λ ns₁ l. then (high_of_davio_product (times_of R types c) (sum_of R types c) p q ns₁) (after_high R types c f l))
          (after_low_product R types c f p q) (davio_regrouped R types c f p q)

      times_divides_davio : (get_or types f Shannon ≡ PositiveDavio) ⊎ (get_or types f Shannon ≡ NegativeDavio)
          → Divides R types ns (Times a b) (frame_of (Times a b) f (LowProduct p q)) (Times p.0 q.0)
      times_divides_davio (inl e) = record { question = refl; topmost = refl; known = known; left = λ c. unfolded c PositiveDavio e ∙ davio c; roots = ((sa, sb), (sa.0, sb.0)) }
      times_divides_davio (inr e) = record { question = refl; topmost = refl; known = known; left = λ c. unfolded c NegativeDavio e ∙ davio c; roots = ((sa, sb), (sa.0, sb.0)) }

  minus_inner : (k : ℕ) → Held R (length ns) (Inner k)
      → (let f = level types ns (Inner k) in let p = split R types ns f (Inner k) in Divides R types ns (Minus (Inner k)) (frame_of (Minus (Inner k)) f (Low (Minus p.1))) (Minus p.0))
  minus_inner k h =
      let known = inner_known R types ns red k h in
      let s = halves_from (level types ns (Inner k)) known (Inner k) h (omega arith) in
      record { question = refl; topmost = refl; known = known; left = λ c. minus_unfolds R closed laws types (length types) (omega arith) c ns red k h; roots = (s.1, s.0) }

  minus_divides : (a : Root) → Held R (length ns) a → minus_at_once R a ≡ None
      → (let f = level types ns a in let p = split R types ns f a in Divides R types ns (Minus a) (frame_of (Minus a) f (Low (Minus p.1))) (Minus p.0))
  minus_divides (Leaf v) h none = absurd (none-some _ (sym none))
  minus_divides (Inner k) h none = minus_inner k h

  -- the same, with the question, the fact and the halves under names of their own
  module _ (question : Question) (held : RootsHeld R ns question) (long : shortcut R question ≡ None) (f : ℕ) (top : f ≡ top_of R types ns question) where
    -- what is so for a question that is put so, is so for the question
    put_as : (named : Question) → question ≡ named → (stage : Stage) (first : Question)
        → (RootsHeld R ns named → shortcut R named ≡ None → f ≡ top_of R types ns named → Divides R types ns named (frame_of named f stage) first)
        → Divides R types ns question (frame_of question f stage) first
    put_as named is stage first divides =
        subst (λ (x : Question). RootsHeld R ns x → shortcut R x ≡ None → f ≡ top_of R types ns x → Divides R types ns x (frame_of x f stage) first) (sym is) divides held long top

    module _ (a b : Root) (p q : Root × Root) (pa : p ≡ split R types ns f a) (qb : q ≡ split R types ns f b) where
      pub sum_parts : question ≡ Sum a b → Divides R types ns question (frame_of question f (Low (Sum p.1 q.1))) (Sum p.0 q.0)
      sum_parts is = put_as (Sum a b) is _ _ (λ held long top. rw (pa, qb, top) (sum_divides a b held.0 held.1 long))

      module _ (is : question ≡ Times a b) (t : Decomposition) (known : t ≡ get_or types f Shannon) where
        pub product_parts_shannon : t ≡ Shannon → Divides R types ns question (frame_of question f (Low (Times p.1 q.1))) (Times p.0 q.0)
        product_parts_shannon e =
            put_as (Times a b) is _ _ (λ held long top.
            rw (pa, qb, top) (times_divides_shannon a b held.0 held.1 long (ap (λ i. get_or types i Shannon) (sym top) ∙ sym known ∙ e)))

        pub product_parts_davio : (t ≡ PositiveDavio) ⊎ (t ≡ NegativeDavio) → Divides R types ns question (frame_of question f (LowProduct p q)) (Times p.0 q.0)
        product_parts_davio e =
            put_as (Times a b) is _ _ (λ held long top.
            rw (pa, qb, top) (times_divides_davio a b held.0 held.1 long
            (subst (λ x. (x ≡ PositiveDavio) ⊎ (x ≡ NegativeDavio)) (known ∙ ap (λ i. get_or types i Shannon) top) e)))

    pub minus_parts : (a : Root) (p : Root × Root) → p ≡ split R types ns f a → question ≡ Minus a → Divides R types ns question (frame_of question f (Low (Minus p.1))) (Minus p.0)
    minus_parts a p pa is = put_as (Minus a) is _ _ (λ held long top. rw (pa, top) (minus_divides a held long))

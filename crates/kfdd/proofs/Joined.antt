-- Joining a fact, a low and a high of later facts keeps a list reduced, and means the two mixed.
use Rattle.std.proofs.Common.{◌≡◌, ℕ, suc, ◌<◌, ◌≤◌, Bool, true, false, cond, ltb, List, [], ◌∷◌, ◌++◌, length, get_or, Some, None, Option, sym, refl, ap, ◌∙◌, ap₂, append_assoc, arith}
use Rattle.std.proofs.lemmas.Bool.{lt-ltb, le-ltb}
use Rattle.std.proofs.lemmas.List.{get_or_push, length_push}
use Rattle.model.specs.Nets.{fact_value}
use Rattle.model.specs.Rings.{Ring, Closed, Laws}
use Rattle.model.specs.Roots.{blank_node}
use Rattle.kfdd.specs.Values.{mix, value}
use Rattle.kfdd.specs.Reduced.{Held, Needed, Placed, Reduced}
use Rattle.kfdd.specs.Appending.{Extends}
use Rattle.kfdd.specs.Joining.{full, done, drops, place_of, found_or_added, find_or_add, join, fact_root, fact_parts}
use Rattle.kfdd.proofs.Values.{value_leaf}
use Rattle.kfdd.proofs.Ordered.{reduced_ordered, node_is}
use Rattle.arithmetic.proofs.RingLaws.{sum_zero_right}
use Rattle.kfdd.proofs.Places.{Found, same_root_true, same_root_false, place_some, place_none, place_append, place_push}
use Rattle.kfdd.proofs.Appending.{extends_by}
use Rattle.kfdd.proofs.Pushed.{push_reduced}
use Rattle.kfdd.proofs.Standing.{Stands, stands_after, stands_plainly, held_value}
use Rattle.kfdd.proofs.Answering.{Question, Answered, at_once, as_worth}
use Rattle.model.specs.declared.root.Root.{Root}
use Rattle.model.specs.declared.root.Root.TheVariants.{Leaf, Inner}
use Rattle.model.specs.declared.decomposition.Decomposition.{Decomposition}
use Rattle.model.specs.declared.decomposition.Decomposition.TheVariants.{Shannon, PositiveDavio, NegativeDavio}
use Rattle.model.specs.declared.node.Node.{Node}

abbrev node_of : ℕ → Root → Root → Node
node_of f low high = record { fact = f; low = low; high = high }

needed_kept : (R : Ring) (t : Decomposition) (low high : Root) → drops R t low high ≡ false → Needed R t low high
needed_kept R Shannon low high e = same_root_false low high e
needed_kept R PositiveDavio low high e = same_root_false high (Leaf R.zero) e
needed_kept R NegativeDavio low high e = same_root_false high (Leaf R.zero) e

module _ (R : Ring) (types : List Decomposition) (c : ℕ) (ms : List Node) (f : ℕ) (low high : Root) where
  abbrev joining : Node
  joining = node_of f low high

  pub join_drops : drops R (get_or types f Shannon) low high ≡ true → join R types c ms f low high ≡ done ms low
  unfolding join
  join_drops e = ap (λ (b : Bool). cond b (done ms low) (find_or_add c ms joining)) e

  join_keeps : drops R (get_or types f Shannon) low high ≡ false → join R types c ms f low high ≡ find_or_add c ms joining
  unfolding join
  join_keeps e = ap (λ (b : Bool). cond b (done ms low) (find_or_add c ms joining)) e

  pub join_finds : drops R (get_or types f Shannon) low high ≡ false → (k : ℕ) → place_of ms joining ≡ Some k → join R types c ms f low high ≡ done ms (Inner k)
  join_finds e k p = join_keeps e ∙ ap (found_or_added c ms joining) p

  join_misses : drops R (get_or types f Shannon) low high ≡ false → place_of ms joining ≡ None
      → join R types c ms f low high ≡ cond (ltb (length ms) c) (done (ms ++ (joining ∷ [])) (Inner (length ms))) full
  join_misses e p = join_keeps e ∙ ap (found_or_added c ms joining) p

  pub join_adds : drops R (get_or types f Shannon) low high ≡ false → place_of ms joining ≡ None → length ms < c → join R types c ms f low high ≡ done (ms ++ (joining ∷ [])) (Inner (length ms))
  join_adds e p room = join_misses e p ∙ ap (λ (b : Bool). cond b (done (ms ++ (joining ∷ [])) (Inner (length ms))) full) (lt-ltb (length ms) c room)

  pub join_full : drops R (get_or types f Shannon) low high ≡ false → place_of ms joining ≡ None → c ≤ length ms → join R types c ms f low high ≡ full
  join_full e p room = join_misses e p ∙ ap (λ (b : Bool). cond b (done (ms ++ (joining ∷ [])) (Inner (length ms))) full) (le-ltb (length ms) c room)

module _ (R : Ring) (closed : Closed R) (laws : Laws R) (types : List Decomposition) (ns : List Node) (red : Reduced R types ns) where
  -- a node that joining drops would be worth its low
  worth_low : (t : Decomposition) (b : Bool) (x : ℕ → Bool) (low high : Root) → Held R (length ns) low → drops R t low high ≡ true
      → value R types x ns low ≡ mix R t b (value R types x ns low) (value R types x ns high)
  worth_low Shannon false x low high h e = refl
  worth_low Shannon true x low high h e = ap (value R types x ns) (same_root_true low high e)
  worth_low PositiveDavio false x low high h e = refl
  worth_low PositiveDavio true x low high h e =
      sym (ap (R.sum (value R types x ns low)) (ap (value R types x ns) (same_root_true high (Leaf R.zero) e) ∙ value_leaf R types x ns R.zero)
      ∙ sum_zero_right R closed laws (value R types x ns low) (held_value R closed laws types ns red x low h))
  worth_low NegativeDavio false x low high h e =
      sym (ap (R.sum (value R types x ns low)) (ap (value R types x ns) (same_root_true high (Leaf R.zero) e) ∙ value_leaf R types x ns R.zero)
      ∙ sum_zero_right R closed laws (value R types x ns low) (held_value R closed laws types ns red x low h))
  worth_low NegativeDavio true x low high h e = refl

  -- a node that is held is worth its low and its high mixed
  found_stands : (f : ℕ) (low high : Root) (u v : (ℕ → Bool) → ℕ) → Stands R types ns (suc f) u low → Stands R types ns (suc f) v high → (k : ℕ) → Found ns (node_of f low high) k
      → Stands R types ns f (λ x. mix R (get_or types f Shannon) (x f) (u x) (v x)) (Inner k)
  found_stands f low high u v sl sh k p =
      record {
        held = p.within;
        later = omega (arith, ap (λ (n : Node). n.fact) p.there);
        worth = λ x. node_is R types ns (reduced_ordered R types ns red) x k p.within
            ∙ ap (λ (n : Node). mix R (get_or types n.fact Shannon) (x n.fact) (value R types x ns n.low) (value R types x ns n.high)) p.there
            ∙ ap₂ (mix R (get_or types f Shannon) (x f)) (sl.worth x) (sh.worth x);
      }

module _ (R : Ring) (closed : Closed R) (laws : Laws R) (types : List Decomposition) (ns : List Node) (red : Reduced R types ns) (f : ℕ) (known : f < length types) (least : ℕ)
    (low high : Root) (u v : (ℕ → Bool) → ℕ) (sl : Stands R types ns (suc f) u low) (sh : Stands R types ns (suc f) v high) where
  abbrev asked : Question
  asked = λ e c ms. join R types c ms f low high

  abbrev type_of : Decomposition
  type_of = get_or types f Shannon

  abbrev mixed : (ℕ → Bool) → ℕ
  mixed x = mix R type_of (x f) (u x) (v x)

  abbrev made : Node
  made = node_of f low high

  abbrev grown : List Node
  grown = ns ++ (made ∷ [])

  join_dropped : drops R type_of low high ≡ true → Answered R types least asked ns f mixed
  join_dropped e =
      at_once R types least asked ns f mixed low red
      (record {
        held = sl.held;
        later = omega (arith, sl.later);
        worth = λ x. worth_low R closed laws types ns red type_of (x f) x low high sl.held e ∙ ap₂ (mix R type_of (x f)) (sl.worth x) (sh.worth x);
      })
      (λ e' c ms le ext. join_drops R types c ms f low high e)

  join_found : drops R type_of low high ≡ false → (k : ℕ) → place_of ns made ≡ Some k → Answered R types least asked ns f mixed
  join_found e k p =
      at_once R types least asked ns f mixed (Inner k) red (found_stands R closed laws types ns red f low high u v sl sh k (place_some ns made k p))
      (λ e' c ms le ext. join_finds R types c ms f low high e k (ap (λ l. place_of l made) ext.1 ∙ place_append ns ext.0 made k p))

  made_placed : drops R type_of low high ≡ false → Placed R types ns (length ns) made
  made_placed e =
      record {
        known = known;
        low_held = sl.held;
        high_held = sh.held;
        low_later = omega (arith, sl.later);
        high_later = omega (arith, sh.later);
        needed = needed_kept R type_of low high e;
      }

  join_added : drops R type_of low high ≡ false → place_of ns made ≡ None → Answered R types least asked ns f mixed
  join_added e p =
      let ext : Extends ns grown = extends_by ns (made ∷ []) in
      let red' : Reduced R types grown = push_reduced R types ns red made (place_none ns made p) (made_placed e) in
      let last : Found grown made (length ns) = record { within = omega (arith, length_push ns made); there = get_or_push ns made blank_node (length ns) refl } in
      record {
        after = grown;
        root = Inner (length ns);
        extends = ext;
        reduced = red';
        stands = found_stands R closed laws types grown red' f low high u v
            (stands_after R types ns grown ext (suc f) u low sl) (stands_after R types ns grown ext (suc f) v high sh) (length ns) last;
        fits = λ e' c le room. join_adds R types c ns f low high e p (omega (arith, length_push ns made));
        unfit = λ e' c le room. join_full R types c ns f low high e p (omega (arith, length_push ns made));
        again = λ e' c ms le longer. join_finds R types c ms f low high e (length ns)
            (ap (λ l. place_of l made) (longer.1 ∙ append_assoc ns (made ∷ []) longer.0) ∙ place_push ns longer.0 made p);
      }

  by_place : drops R type_of low high ≡ false → (o : Option ℕ) → place_of ns made ≡ o → Answered R types least asked ns f mixed
  by_place e None p = join_added e p
  by_place e (Some k) p = join_found e k p

  by_drops : (b : Bool) → drops R type_of low high ≡ b → Answered R types least asked ns f mixed
  by_drops true e = join_dropped e
  by_drops false e = by_place e (place_of ns made) refl

  pub join_answered : Answered R types least asked ns f mixed
  join_answered = by_drops (drops R type_of low high) refl

module _ (R : Ring) (closed : Closed R) (laws : Laws R) (types : List Decomposition) (ns : List Node) where
  fact_mixed : (x : ℕ → Bool) (t : Decomposition) (b : Bool) → mix R t b (value R types x ns (fact_parts R t).0) (value R types x ns (fact_parts R t).1) ≡ fact_value R b
  unfolding value
  fact_mixed x Shannon false = refl
  fact_mixed x Shannon true = refl
  fact_mixed x PositiveDavio false = refl
  fact_mixed x PositiveDavio true = laws.sum_zero R.one closed.one_value
  fact_mixed x NegativeDavio false = laws.sum_minus R.one closed.one_value
  fact_mixed x NegativeDavio true = refl

  module _ (l : ℕ) (le : l ≤ length types) where
    low_stands : (t : Decomposition) → Stands R types ns l (λ x. value R types x ns (fact_parts R t).0) (fact_parts R t).0
    low_stands Shannon = stands_plainly R types ns l (Leaf R.zero) closed.zero_value le
    low_stands PositiveDavio = stands_plainly R types ns l (Leaf R.zero) closed.zero_value le
    low_stands NegativeDavio = stands_plainly R types ns l (Leaf R.one) closed.one_value le

    high_stands : (t : Decomposition) → Stands R types ns l (λ x. value R types x ns (fact_parts R t).1) (fact_parts R t).1
    high_stands Shannon = stands_plainly R types ns l (Leaf R.one) closed.one_value le
    high_stands PositiveDavio = stands_plainly R types ns l (Leaf R.one) closed.one_value le
    high_stands NegativeDavio = stands_plainly R types ns l (Leaf (R.minus R.one)) (closed.minus_value R.one closed.one_value) le

  pub fact_answered : Reduced R types ns → (least f : ℕ) → f < length types → Answered R types least (λ e c ms. fact_root R types c ms f) ns f (λ x. fact_value R (x f))
  fact_answered red least f known =
      let t = get_or types f Shannon in
      let low = (fact_parts R t).0 in
      let high = (fact_parts R t).1 in
      let u : (ℕ → Bool) → ℕ = λ x. value R types x ns low in
      let v : (ℕ → Bool) → ℕ = λ x. value R types x ns high in
      as_worth R types least (λ e c ms. fact_root R types c ms f) ns f f (λ x. mix R t (x f) (u x) (v x)) (λ x. fact_value R (x f)) (omega arith) (λ x. fact_mixed x t (x f))
      (join_answered R closed laws types ns red f known least low high u v (low_stands (suc f) known t) (high_stands (suc f) known t))

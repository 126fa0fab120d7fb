-- Every rival that means a root has an entry for each node that the root reaches.
use Rattle.std.proofs.Common.{◌≡◌, ℕ, zero, suc, ◌<◌, ◌≤◌, Bool, true, false, not, List, length, get_or, sym, ap, ◌∙◌, inl, inr, arith}
use Rattle.std.proofs.lemmas.Bool.{cases_lt}
use Rattle.model.specs.Rings.{Ring, Closed, Laws}
use Rattle.model.specs.Roots.{blank_node}
use Rattle.model.specs.Assignments.{holds}
use Rattle.model.specs.declared.root.Root.{Root}
use Rattle.model.specs.declared.root.Root.TheVariants.{Leaf, Inner}
use Rattle.model.specs.declared.decomposition.Decomposition.{Decomposition}
use Rattle.model.specs.declared.decomposition.Decomposition.TheVariants.{Shannon, PositiveDavio, NegativeDavio}
use Rattle.model.specs.declared.node.Node.{Node}
use Rattle.arithmetic.proofs.RingLaws.{adds_nothing}
use Rattle.kfdd.specs.Values.{mix, value}
use Rattle.kfdd.specs.Reduced.{level, Held, Needed, Reduced}
use Rattle.kfdd.specs.Ordered.{Ordered}
use Rattle.kfdd.specs.FirstDifference.{preferred}
use Rattle.kfdd.specs.Assignments.{worth}
use Rattle.kfdd.specs.Reaching.{Reaches, itself, by_low, by_high, reached, reached_count}
use Rattle.kfdd.specs.Rivals.{Rival, Means, Smallest}
use Rattle.kfdd.proofs.Values.{held_more, value_leaf}
use Rattle.kfdd.proofs.Ordered.{reduced_ordered, put, low_in, high_in, is_value, put_above, sides}
use Rattle.kfdd.proofs.Reaching.{reached_reaches, reached_closed, reached_root}
use Rattle.kfdd.proofs.Picked.{renumber, kept, length_picked, kept_ordered, kept_held, kept_value}
use Rattle.kfdd.proofs.Counting.{pigeonhole, places}
use Rattle.kfdd.proofs.Sides.{mix_preferred, mix_other}
use Rattle.kfdd.proofs.CanonicalNumbers.{same_values_equal, everywhere}

module _ (R : Ring) (closed : Closed R) (laws : Laws R) (types : List Decomposition) (ns : List Node) (red : Reduced R types ns) where
  abbrev node : ℕ → Node
  node k = get_or ns k blank_node

  abbrev val : (ℕ → Bool) → Root → ℕ
  val x r = value R types x ns r

  ordered : Ordered R types ns
  ordered = reduced_ordered R types ns red

  -- a node that is worth its low on both sides is one that joining drops
  not_needed : (t : Decomposition) (low high : Root) → Held R (length ns) low → Held R (length ns) high
      → ((x : ℕ → Bool) (b : Bool) → mix R t b (val x low) (val x high) ≡ val x low) → Needed R t low high → ⊥
  not_needed Shannon low high l h same needed = needed (same_values_equal R closed laws types ns red low high l h (λ x. sym (same x true)))
  not_needed PositiveDavio low high l h same needed =
      needed (same_values_equal R closed laws types ns red high (Leaf R.zero) h closed.zero_value
      (λ x. adds_nothing R closed laws (val x low) (val x high) (is_value R types ns ordered closed x low l) (is_value R types ns ordered closed x high h) (same x true) ∙ sym (value_leaf R types x ns R.zero)))
  not_needed NegativeDavio low high l h same needed =
      needed (same_values_equal R closed laws types ns red high (Leaf R.zero) h closed.zero_value
      (λ x. adds_nothing R closed laws (val x low) (val x high) (is_value R types ns ordered closed x low l) (is_value R types ns ordered closed x high h) (same x false) ∙ sym (value_leaf R types x ns R.zero)))

  module _ (ms : List Node) (entries : Ordered R types ms) where
    abbrev entry : ℕ → Node
    entry e = get_or ms e blank_node

    abbrev rival_val : (ℕ → Bool) → Root → ℕ
    rival_val x p = value R types x ms p

    -- the rival's root p has the value of q everywhere
    abbrev Alike : Root → Root → Type 0
    Alike q p = (x : ℕ → Bool) → val x q ≡ rival_val x p

    -- a rival's root of no earlier fact than f that is worth q
    record From (f : ℕ) (q : Root) : Type 0 where
      at : Root
      held : Held R (length ms) at
      later : f ≤ level types ms at
      alike : Alike q at

    -- where q does not depend on the fact of an entry, the entry's low is worth q too
    skip : (q : Root) → Held R (length ns) q → (e : ℕ) → e < length ms → (entry e).fact < level types ns q → Alike q (Inner e) → Alike q (entry e).low
    skip q h e within before alike x =
        let g = (entry e).fact in
        let b = preferred (get_or types g Shannon) in
        sym (put_above R types ns ordered x g b q h before) ∙ alike (put x g b) ∙ sides R types ms entries x e within b
        ∙ mix_preferred R (get_or types g Shannon) (rival_val x (entry e).low) (rival_val x (entry e).high)

    descend : (b : ℕ) → b ≤ length ms → (f : ℕ) → f ≤ length types → (q : Root) → Held R (length ns) q → f ≤ level types ns q
        → (p : Root) → Held R b p → Alike q p → From f q
    descend b le f known q h lq (Leaf v) hp alike = record { at = Leaf v; held = hp; later = known; alike = alike }
    descend zero le f known q h lq (Inner e) hp alike = absurd (omega arith)
    descend (suc b) le f known q h lq (Inner e) hp alike =
        let within : e < length ms = omega arith in
        elim (cases_lt (entry e).fact f) [
          | inl before ↦ descend b (omega arith) f known q h lq (entry e).low (held_more R e b (entry e).low (omega arith) (entries e within).low_held)
              (skip q h e within (omega arith) alike)
          | inr from ↦ record { at = Inner e; held = within; later = from; alike = alike }
        ]

    -- a node's value depends on its fact, so a rival's root of later facts is not worth it
    depends : (k : ℕ) → k < length ns → (p : Root) → Held R (length ms) p → (node k).fact < level types ms p → Alike (Inner k) p → ⊥
    depends k h p hp later alike =
        let f = (node k).fact in
        let t = get_or types f Shannon in
        let still : (x : ℕ → Bool) (b : Bool) → mix R t b (val x (node k).low) (val x (node k).high) ≡ rival_val x p =
        λ x b. sym (sides R types ns ordered x k h b) ∙ alike (put x f b) ∙ put_above R types ms entries x f b p hp later in
        not_needed t (node k).low (node k).high (low_in R types ns ordered k h) (high_in R types ns ordered k h)
        (λ x b. still x b ∙ sym (still x (preferred t)) ∙ mix_preferred R t (val x (node k).low) (val x (node k).high)) (red.placed k h).needed

    -- an entry that is worth node k, and whose children are worth the node's
    record Beside (k : ℕ) : Type 0 where
      at : ℕ
      within : at < length ms
      alike : Alike (Inner k) (Inner at)
      low_alike : Alike (node k).low (entry at).low
      high_alike : Alike (node k).high (entry at).high

    same_fact : (k e : ℕ) → k < length ns → e < length ms → (node k).fact ≡ (entry e).fact → Alike (Inner k) (Inner e) → Beside k
    same_fact k e h within facts alike =
        let f = (node k).fact in
        let t = get_or types f Shannon in
        let both : (x : ℕ → Bool) (b : Bool) → mix R t b (val x (node k).low) (val x (node k).high) ≡ mix R t b (rival_val x (entry e).low) (rival_val x (entry e).high) =
        λ x b. sym (sides R types ns ordered x k h b) ∙ alike (put x f b) ∙ ap (λ g. rival_val (put x g b) (Inner e)) facts ∙ sides R types ms entries x e within b
        ∙ ap (λ g. mix R (get_or types g Shannon) b (rival_val x (entry e).low) (rival_val x (entry e).high)) (sym facts) in
        let lows : Alike (node k).low (entry e).low = λ x. sym (mix_preferred R t (val x (node k).low) (val x (node k).high)) ∙ both x (preferred t)
        ∙ mix_preferred R t (rival_val x (entry e).low) (rival_val x (entry e).high) in
        let highs : Alike (node k).high (entry e).high = λ x. mix_other R closed laws t (val x (node k).low) (val x (node k).high) (rival_val x (entry e).high)
        (is_value R types ns ordered closed x (node k).low (low_in R types ns ordered k h)) (is_value R types ns ordered closed x (node k).high (high_in R types ns ordered k h))
        (is_value R types ms entries closed x (entry e).high (high_in R types ms entries e within))
        (both x (not (preferred t)) ∙ ap (λ v. mix R t (not (preferred t)) v (rival_val x (entry e).high)) (sym (lows x))) in
        record { at = e; within = within; alike = alike; low_alike = lows; high_alike = highs }

    from_beside : (k : ℕ) → k < length ns → (p : Root) → Held R (length ms) p → (node k).fact ≤ level types ms p → Alike (Inner k) p → Beside k
    from_beside k h (Leaf v) hp later alike = absurd (depends k h (Leaf v) hp (red.placed k h).known alike)
    from_beside k h (Inner e) hp later alike = elim (cases_lt (node k).fact (entry e).fact) [
      | inl more ↦ absurd (depends k h (Inner e) hp more alike)
      | inr same ↦ same_fact k e h hp (omega arith) alike
    ]

    beside : (k : ℕ) → k < length ns → (p : Root) → Held R (length ms) p → Alike (Inner k) p → Beside k
    beside k h p hp alike =
        let known : (node k).fact ≤ length types = omega (arith, (red.placed k h).known) in
        let d = descend (length ms) (omega arith) (node k).fact known (Inner k) h (omega arith) p hp alike in
        from_beside k h d.at d.held d.later d.alike

    -- the rival beside the root, node by node
    reached_beside : {r : Root} {k : ℕ} → Reaches ns r k → Held R (length ns) r → (p : Root) → Held R (length ms) p → Alike r p → Beside k
    reached_beside {k = k} itself h p hp alike = beside k h p hp alike
    reached_beside (by_low {j} reaches) h p hp alike =
        let b = beside j h p hp alike in
        reached_beside reaches (low_in R types ns ordered j h) (entry b.at).low (low_in R types ms entries b.at b.within) b.low_alike
    reached_beside (by_high {j} reaches) h p hp alike =
        let b = beside j h p hp alike in
        reached_beside reaches (high_in R types ns ordered j h) (entry b.at).high (high_in R types ms entries b.at b.within) b.high_alike

    abbrev WorthNode : ℕ → ℕ → Type 0
    WorthNode k e = (e < length ms) × Alike (Inner k) (Inner e)

    enough_entries : (r : Root) → Held R (length ns) r → (p : Root) → Held R (length ms) p → Alike r p → reached_count ns r ≤ length ms
    enough_entries r h p hp alike =
        let each : (k : ℕ) → reached ns r k ≡ true → (e : ℕ) × WorthNode k e = λ k t.
        let b = reached_beside (reached_reaches ns r k t) h p hp alike in (b.at, (b.within, b.alike)) in
        let chosen = places (reached ns r) WorthNode each in
        let place : ℕ → ℕ = chosen.0 in
        let worth-it : (k : ℕ) → reached ns r k ≡ true → WorthNode k (place k) = chosen.1 in
        pigeonhole (length ns) (length ms) (reached ns r) place (λ k l t. (worth-it k t).0)
        (λ j k lj lk tj tk e.
        let same : Inner j ≡ Inner k = same_values_equal R closed laws types ns red (Inner j) (Inner k) lj lk
        (λ x. (worth-it j tj).1 x ∙ ap (λ i. rival_val x (Inner i)) e ∙ sym ((worth-it k tk).1 x)) in cc)

  pub at_least : (r : Root) → Held R (length ns) r → (rival : Rival R types) → Means R types rival (worth R types ns r) → reached_count ns r ≤ length rival.nodes
  at_least r h rival means =
      enough_entries rival.nodes rival.ordered r h rival.root rival.held
      (λ x. sym (everywhere R types rival.nodes ns rival.ordered ordered rival.root r rival.held h means x))

  -- the nodes that the root reaches
  own_rival : (r : Root) → Held R (length ns) r → Rival R types
  own_rival r h = record {
    nodes = kept (reached ns r) ns R types ordered (reached_closed ns R types ordered r);
    root = renumber (reached ns r) r;
    ordered = kept_ordered (reached ns r) ns R types ordered (reached_closed ns R types ordered r);
    held = kept_held (reached ns r) ns R types ordered (reached_closed ns R types ordered r) r h (reached_root ns R types ordered r);
  }

  pub exactly : (r : Root) → Held R (length ns) r → (rival : Rival R types) × (Means R types rival (worth R types ns r)) × (length rival.nodes ≡ reached_count ns r)
  unfolding own_rival
  exactly r h =
      (own_rival r h, (λ x _. kept_value (reached ns r) ns R types ordered (reached_closed ns R types ordered r) (holds x) r h (reached_root ns R types ordered r)), length_picked (reached ns r) ns (length ns))

pub smallest : (R : Ring) → Closed R → Laws R → Smallest R
smallest R closed laws types ns red r h = (at_least R closed laws types ns red r h, exactly R closed laws types ns red r h)

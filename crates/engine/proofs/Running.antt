-- What an engine answers depends on the nodes that it holds, its capacity and the calls alone.
use Rattle.std.proofs.Common.{◌≡◌, ℕ, ◌<◌, List, ◌∷◌, length, get_or, take, IfOk, Ok, Result, sym, refl, ap, ◌∙◌, subst, ap₂, arith}
use Rattle.std.proofs.lemmas.List.{take_at}
use Rattle.model.specs.Nets.{fact_value}
use Rattle.model.specs.Rings.{Ring, Closed, Laws}
use Rattle.model.specs.declared.decomposition.Decomposition.{Decomposition}
use Rattle.model.specs.declared.decomposition.Decomposition.TheVariants.{Shannon, PositiveDavio, NegativeDavio}
use Rattle.model.specs.declared.fault.Fault.{Fault}
use Rattle.model.specs.declared.node.Node.{Node}
use Rattle.model.specs.declared.root.Root.{Root}
use Rattle.storage.specs.declared.question.Question.{Question}
use Rattle.kfdd.specs.Appending.{Extends}
use Rattle.kfdd.specs.Joining.{Outcome, done, fact_parts, fact_root}
use Rattle.kfdd.specs.Outcomes.{Kept}
use Rattle.kfdd.specs.RecipeLaws.{Joinable}
use Rattle.kfdd.specs.Reduced.{Held, Reduced}
use Rattle.kfdd.proofs.Appending.{extends_self}
use Rattle.kfdd.proofs.Cutting.{reduced_front, reduced_take}
use Rattle.kfdd.proofs.Joined.{fact_answered}
use Rattle.kfdd.proofs.Outcomes.{answered_repeats, done_kept, full_not_done}
use Rattle.engine.specs.Outcomes.{Comes, answers, fills, Joins, joined, overfull}
use Rattle.engine.specs.Questions.{outcome, RootsHeld}
use Rattle.engine.specs.Runs.{Alike, Call, Does, asks, joins, cuts, Runs, ends, then, Step, answered, nodes_after}
use Rattle.engine.proofs.Asked.{outcome_alike, outcome_kept}

-- two fronts of one list that are as long as each other
same_front : (a b all : List Node) → Extends a all → Extends b all → length a ≡ length b → a ≡ b
same_front a b all (more, p) (more', q) long = sym (take_at a more (length a) refl) ∙ ap₂ take long (sym p ∙ q) ∙ take_at b more' (length b) refl

module _ (ask : ℕ → Outcome) (capacity : ℕ) (before : List Node) where
  abbrev OneWay : Type 0
  OneWay = (c c' : ℕ) (ms ms' : List Node) (r r' : Root) → ask c ≡ done ms r → ask c' ≡ done ms' r' → (ms ≡ ms') × (r ≡ r')

  pub comes_once : OneWay → (r s : Result Root Fault) (x y : List Node) → Comes ask capacity before r x → Comes ask capacity before s y → (r ≡ s) × (x ≡ y)
  comes_once one _ _ x y (answers {r = r} p) (answers {r = s} q) = let same = one capacity capacity x y r s p q in (ap Ok same.1, same.0)
  comes_once one _ _ x y (answers {r = r} p) (fills q grown long enough all s came ext) = absurd (full_not_done x r (sym q ∙ p))
  comes_once one _ _ x y (fills p grown long enough all r came ext) (answers {r = s} q) = absurd (full_not_done y s (sym p ∙ q))
  comes_once one _ _ x y (fills p grown long enough all r came ext) (fills q grown' long' enough' all' r' came' ext') =
      let same = one enough enough' all all' r r' came came' in
      (refl, same_front x y all' (subst (Extends x) same.0 ext) ext' (long ∙ sym long'))

  pub comes_reduced : (R : Ring) (types : List Decomposition) → ((c : ℕ) (ms : List Node) (r : Root) → ask c ≡ done ms r → Reduced R types ms)
      → (r : Result Root Fault) (x : List Node) → Comes ask capacity before r x → Reduced R types x
  comes_reduced R types kept _ x (answers {r = r} p) = kept capacity x r p
  comes_reduced R types kept _ x (fills p grown long enough all r came ext) = reduced_front R types x all ext (kept enough all r came)

  -- the nodes grow, and an answer is held
  module _ (R : Ring) (kept : (c : ℕ) (ms : List Node) (r : Root) → ask c ≡ done ms r → Extends before ms × Held R (length ms) r) where
    pub comes_grown : (r : Result Root Fault) (x : List Node) → Comes ask capacity before r x → Extends before x
    comes_grown _ x (answers {r = r} p) = (kept capacity x r p).0
    comes_grown _ x (fills p grown long enough all r came ext) = grown

    pub comes_held : (r : Result Root Fault) (x : List Node) → Comes ask capacity before r x → IfOk r (λ root. Held R (length x) root)
    comes_held _ x (answers {r = r} p) = (kept capacity x r p).1
    comes_held _ x (fills p grown long enough all r came ext) = tt

module _ (R : Ring) (closed : Closed R) (laws : Laws R) (types : List Decomposition) where
  module _ (ns : List Node) (red : Reduced R types ns) (q : Question) (h : RootsHeld R ns q) where
    pub outcome_grown : (c : ℕ) (ms : List Node) (r : Root) → outcome R types c ns q ≡ done ms r → Extends ns ms × Held R (length ms) r
    outcome_grown c ms r e = let k = outcome_kept R closed laws types ns red q h c ms r e in (k.extends, k.root.held)

  module _ (ns : List Node) (red : Reduced R types ns) (f : ℕ) (known : f < length types) where
    fact_alike : OneWay (λ c. fact_root R types c ns f) 0 ns
    fact_alike = (answered_repeats R types 0 _ ns f _ (fact_answered R closed laws types ns red 0 f known) 0 (omega arith)).alike

    fact_kept : (c : ℕ) (ms : List Node) (r : Root) → fact_root R types c ns f ≡ done ms r → Kept R types ns f (λ x. fact_value R (x f)) ms r
    fact_kept c ms r p = done_kept R types 0 _ ns f _ (fact_answered R closed laws types ns red 0 f known) 0 (omega arith) c ms r p

    pub fact_grown : (c : ℕ) (ms : List Node) (r : Root) → fact_root R types c ns f ≡ done ms r → Extends ns ms × Held R (length ms) r
    fact_grown c ms r e = let k = fact_kept c ms r e in (k.appended, k.held)

    -- the low and the high of a fact can be joined
    pub fact_joinable : (t : Decomposition) → Joinable R types ns f (fact_parts R t).0 (fact_parts R t).1
    fact_joinable Shannon = record { known = known; low_held = closed.zero_value; high_held = closed.one_value; low_later = known; high_later = known }
    fact_joinable PositiveDavio = record { known = known; low_held = closed.zero_value; high_held = closed.one_value; low_later = known; high_later = known }
    fact_joinable NegativeDavio = record { known = known; low_held = closed.one_value; high_held = closed.minus_value R.one closed.one_value; low_later = known; high_later = known }

    module _ (capacity : ℕ) where
      abbrev parts : Root × Root
      parts = fact_parts R (get_or types f Shannon)

      pub fact_comes : (r : Result Root Fault) (after : List Node) → Joins R types capacity ns f parts.0 parts.1 r after → Comes (λ c. fact_root R types c ns f) capacity ns r after
      fact_comes _ after (joined e) = answers e
      fact_comes _ _ (overfull e long) =
          let a = fact_answered R closed laws types ns red 0 f known in
          fills e (extends_self ns) long (length a.after) a.after a.root (a.fits 0 (length a.after) (omega arith) (omega arith)) a.extends

      pub fact_reduced : (r : Result Root Fault) (after : List Node) → Comes (λ c. fact_root R types c ns f) capacity ns r after → Reduced R types after
      fact_reduced r after = comes_reduced (λ c. fact_root R types c ns f) capacity ns R types (λ c ms m e. (fact_kept c ms m e).reduced) r after

  module _ (capacity : ℕ) where
    does_once : (ns : List Node) → Reduced R types ns → (call : Call) (s t : Step) → Does R types capacity ns call s → Does R types capacity ns call t → s ≡ t
    does_once ns red _ _ _ (asks {q = q} {r = r} {after = x} h p) (asks {r = s} {after = y} h' p') =
        let same = comes_once (λ c. outcome R types c ns q) capacity ns (outcome_alike R closed laws types ns red q h) r s x y p p' in
        ap₂ answered same.0 same.1
    does_once ns red _ _ _ (joins {f = f} {r = r} {after = x} known p) (joins {r = s} {after = y} known' p') =
        let same = comes_once (λ c. fact_root R types c ns f) capacity ns (fact_alike ns red f known) r s x y p p' in
        ap₂ answered same.0 same.1
    does_once ns red _ _ _ (cuts count) (cuts _) = refl

    does_reduced : (ns : List Node) → Reduced R types ns → (call : Call) (s : Step) → Does R types capacity ns call s → Reduced R types (nodes_after s)
    does_reduced ns red _ _ (asks {q = q} {r = r} {after = x} h p) =
        comes_reduced (λ c. outcome R types c ns q) capacity ns R types (λ c ms m e. (outcome_kept R closed laws types ns red q h c ms m e).reduced) r x p
    does_reduced ns red _ _ (joins {f = f} {r = r} {after = x} known p) =
        fact_reduced ns red f known capacity r x p
    does_reduced ns red _ _ (cuts count) = reduced_take R types count ns red

    runs_once : (ns : List Node) → Reduced R types ns → (calls : List Call) (a b : List Step) → Runs R types capacity ns calls a → Runs R types capacity ns calls b → a ≡ b
    runs_once ns red _ _ _ ends ends = refl
    runs_once ns red _ _ _ (then {call = call} {step = s} {calls = calls} {steps = a} p run) (then {step = t} {steps = b} q other) =
        let same = does_once ns red call s t p q in
        let here : Runs R types capacity (nodes_after s) calls b = subst (λ (step : Step). Runs R types capacity (nodes_after step) calls b) (sym same) other in
        ap₂ ◌∷◌ same (runs_once (nodes_after s) (does_reduced ns red call s p) calls a b run here)

    pub alike : Alike R types capacity
    alike ns red calls a b = runs_once ns red calls a b

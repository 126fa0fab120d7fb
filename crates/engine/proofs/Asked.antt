-- The laws of the recipe, for any question.
use Rattle.std.proofs.Common.{◌≡◌, ℕ, ◌≤◌, max, Bool, List, length, Some, None, Option, MatchOption, sym, refl, ◌∙◌, subst, arith}
use Rattle.model.specs.Rings.{Ring, Closed, Laws}
use Rattle.model.specs.declared.decomposition.Decomposition.{Decomposition}
use Rattle.model.specs.declared.node.Node.{Node}
use Rattle.model.specs.declared.root.Root.{Root}
use Rattle.storage.specs.Memos.{answered, Recalls}
use Rattle.storage.specs.declared.question.Answered.{Answered as Entry}
use Rattle.storage.specs.declared.question.Question.{Question}
use Rattle.storage.specs.declared.question.Question.TheVariants.{Sum, Minus, Times}
use Rattle.kfdd.specs.Appending.{Extends}
use Rattle.kfdd.specs.Joining.{Outcome, done}
use Rattle.kfdd.specs.Recipe.{sum, minus, times}
use Rattle.kfdd.specs.Reduced.{Reduced}
use Rattle.kfdd.proofs.Answering.{Answered}
use Rattle.kfdd.proofs.Appending.{held_after, level_after}
use Rattle.kfdd.proofs.MinusAnswers.{minus_short}
use Rattle.kfdd.proofs.Outcomes.{done_kept, done_again, answered_repeats}
use Rattle.kfdd.proofs.RecipeLaws.{sum_held, minus_held, times_held}
use Rattle.kfdd.proofs.SumAnswers.{sum_short}
use Rattle.kfdd.proofs.TimesAnswers.{times_short}
use Rattle.engine.specs.Soundness.{Remembered, Remembers}
use Rattle.engine.specs.Questions.{outcome, shortcut, top_of, From, RootsFrom, RootsHeld}

-- from ns nodes were only appended, the list is reduced, and it holds r, which has no fact before l
pub record Grown (R : Ring) (types : List Decomposition) (ns : List Node) (l : ℕ) (after : List Node) (r : Root) : Type 0 where
  pub extends : Extends ns after
  pub reduced : Reduced R types after
  pub root : From R types after l r

module _ (R : Ring) (types : List Decomposition) where
  outcome_short : (c : ℕ) (ns : List Node) (q : Question) (r : Root) → shortcut R q ≡ Some r → outcome R types c ns q ≡ done ns r
  outcome_short c ns (Sum a b) r e = sum_short R types c (length types) ns a b r e
  outcome_short c ns (Minus a) r e = minus_short R types c (length types) ns a r e
  outcome_short c ns (Times a b) r e = times_short R types c (length types) ns a b r e

  -- what is answered at once or from memory adds nothing
  pub outcome_known : (ns : List Node) (es : List Entry) → Remembers R types ns es → (q : Question) (r : Root) (o found : Option Root) → o ≡ shortcut R q → found ≡ Some r
      → MatchOption o (Recalls es q found) (λ x. found ≡ Some x) → (c : ℕ) → outcome R types c ns q ≡ done ns r
  outcome_known ns es true_of q r (Some x) found short is said c = outcome_short c ns q r (sym short ∙ sym said ∙ is)
  outcome_known ns es true_of q r None found short is said c = (true_of (answered q r) (subst (Recalls es q) is said)).repeats c

  module _ (ns ms : List Node) (ext : Extends ns ms) where
    pub from_after : (l : ℕ) (r : Root) → From R types ns l r → From R types ms l r
    from_after l r s = record { held = held_after R types ns ms ext r s.held; later = omega (arith, s.later, level_after R types ns ms ext r s.held) }

    pub roots_after : (l : ℕ) (q : Question) → RootsFrom R types ns l q → RootsFrom R types ms l q
    roots_after l (Sum a b) s = (from_after l a s.0, from_after l b s.1)
    roots_after l (Minus a) s = from_after l a s
    roots_after l (Times a b) s = (from_after l a s.0, from_after l b s.1)

    pub roots_held_after : (q : Question) → RootsHeld R ns q → RootsHeld R ms q
    roots_held_after (Sum a b) h = (held_after R types ns ms ext a h.0, held_after R types ns ms ext b h.1)
    roots_held_after (Minus a) h = held_after R types ns ms ext a h
    roots_held_after (Times a b) h = (held_after R types ns ms ext a h.0, held_after R types ns ms ext b h.1)

  module _ (ns : List Node) where
    pub from_earlier : (l m : ℕ) (r : Root) → m ≤ l → From R types ns l r → From R types ns m r
    from_earlier l m r le s = record { held = s.held; later = omega (arith, s.later) }

    pub roots_held : (l : ℕ) (q : Question) → RootsFrom R types ns l q → RootsHeld R ns q
    roots_held l (Sum a b) s = (s.0.held, s.1.held)
    roots_held l (Minus a) s = s.held
    roots_held l (Times a b) s = (s.0.held, s.1.held)

    pub roots_top : (l : ℕ) (q : Question) → RootsFrom R types ns l q → l ≤ top_of R types ns q
    roots_top l (Sum a b) s = omega (arith, s.0.later, s.1.later)
    roots_top l (Minus a) s = s.later
    roots_top l (Times a b) s = omega (arith, s.0.later, s.1.later)

    -- roots that are held have no fact before the topmost
    pub roots_plainly : (q : Question) → RootsHeld R ns q → RootsFrom R types ns 0 q
    roots_plainly (Sum a b) h = (record { held = h.0; later = omega arith }, record { held = h.1; later = omega arith })
    roots_plainly (Minus a) h = record { held = h; later = omega arith }
    roots_plainly (Times a b) h = (record { held = h.0; later = omega arith }, record { held = h.1; later = omega arith })

-- a question about held roots, by count, capacity and nodes
abbrev asked : Ring → List Decomposition → Question → ℕ → ℕ → List Node → Outcome
asked R types (Sum a b) e c ms = sum R types c e ms a b
asked R types (Minus a) e c ms = minus R types c e ms a
asked R types (Times a b) e c ms = times R types c e ms a b

module _ (R : Ring) (closed : Closed R) (laws : Laws R) (types : List Decomposition) (ns : List Node) (red : Reduced R types ns) where
  -- what it is worth, which does not matter here
  abbrev Somehow : Question → Type 0
  Somehow q = (w : (ℕ → Bool) → ℕ) × Answered R types (length types) (asked R types q) ns (top_of R types ns q) w

  somehow : (q : Question) → RootsHeld R ns q → Somehow q
  somehow (Sum a b) h = (_, sum_held R closed laws types ns red a b h.0 h.1)
  somehow (Minus a) h = (_, minus_held R closed laws types ns red a h)
  somehow (Times a b) h = (_, times_held R closed laws types ns red a b h.0 h.1)

  as_asked : (q : Question) (c : ℕ) (ms : List Node) → outcome R types c ms q ≡ asked R types q (length types) c ms
  as_asked (Sum a b) c ms = refl
  as_asked (Minus a) c ms = refl
  as_asked (Times a b) c ms = refl

  module _ (q : Question) (h : RootsHeld R ns q) where
    pub outcome_kept : (c : ℕ) (ms : List Node) (r : Root) → outcome R types c ns q ≡ done ms r → Grown R types ns (top_of R types ns q) ms r
    outcome_kept c ms r e =
        let a = somehow q h in
        let k = done_kept R types (length types) (asked R types q) ns (top_of R types ns q) a.0 a.1 (length types) (omega arith) c ms r (sym (as_asked q c ns) ∙ e) in
        record { extends = k.appended; reduced = k.reduced; root = record { held = k.held; later = k.later } }

    pub outcome_again : (c c' : ℕ) (ms ms' : List Node) (r : Root) → outcome R types c ns q ≡ done ms r → Extends ms ms' → outcome R types c' ms' q ≡ done ms' r
    outcome_again c c' ms ms' r e ext =
        let a = somehow q h in
        as_asked q c' ms' ∙ done_again R types (length types) (asked R types q) ns (top_of R types ns q) a.0 a.1 (length types) (omega arith) c c' ms ms' r (sym (as_asked q c ns) ∙ e) ext

    pub outcome_alike : (c c' : ℕ) (ms ms' : List Node) (r r' : Root) → outcome R types c ns q ≡ done ms r → outcome R types c' ns q ≡ done ms' r' → (ms ≡ ms') × (r ≡ r')
    outcome_alike c c' ms ms' r r' e e' =
        let a = somehow q h in
        let same = answered_repeats R types (length types) (asked R types q) ns (top_of R types ns q) a.0 a.1 (length types) (omega arith) in
        same.alike c c' ms ms' r r' (sym (as_asked q c ns) ∙ e) (sym (as_asked q c' ns) ∙ e')

    -- with enough room, and as much as one likes, it is done
    pub outcome_enough : (n : ℕ) → (c : ℕ) × (n ≤ c) × (after : List Node) × (r : Root) × (outcome R types c ns q ≡ done after r)
    outcome_enough n =
        let a = (somehow q h).1 in
        let c = max n (length a.after) in
        (c, omega arith, a.after, a.root, as_asked q c ns ∙ a.fits (length types) c (omega arith) (omega arith))

  -- what is remembered stays true when nodes are appended
  pub remembered_after : (ms : List Node) → Extends ns ms → (e : Entry) → Remembered R types ns e → Remembered R types ms e
  remembered_after ms ext e m =
      record {
        held = roots_held_after R types ns ms ext e.question m.held;
        repeats = λ c. outcome_again e.question m.held c c ns ms e.answer (m.repeats c) ext;
      }

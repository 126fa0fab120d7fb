-- The questions that stand half answered, when one is added, the newest is lent or taken off, and none is left.
use Rattle.std.proofs.Common.{◌≡◌, ℕ, suc, ◌-◌, ◌<◌, List, [], ◌∷◌, ◌++◌, reverse, length, get_or, set, take, drop, eqb, true, Some, Option, sym, refl, ap, ◌∙◌, subst, arith}
use Rattle.std.proofs.Math.Seq.{take-append_seam, take-length, take-suc, take-suc-set}
use Rattle.std.proofs.lemmas.Bool.{eqb-true}
use Rattle.std.proofs.lemmas.List.{length-reverse, length-set, reverse-append}
use Rattle.std.specs.List.{refill}
use Rattle.std.specs.Option.{option_to_list}
use Rattle.model.specs.declared.root.Root.{Root}
use Rattle.engine.specs.Stages.{HasBoth}
use Rattle.engine.specs.declared.frame.Frame.{Frame}

module _ {X : Type 0} where
  -- the last one is the newest
  pub newest : (all older : List X) (x : X) → all ≡ older ++ x ∷ [] → reverse all ≡ x ∷ reverse older
  newest all older x is = ap reverse is ∙ reverse-append older (x ∷ [])

  popped : (all older : List X) (x : X) (last : Option X) → last ≡ Some x → all ≡ older ++ option_to_list last → reverse all ≡ x ∷ reverse older
  popped all older x last some is = newest all older x (is ∙ ap (λ o. older ++ option_to_list o) some)

  pub none_left : (all : List X) → true ≡ eqb (length all) 0 → reverse all ≡ []
  none_left [] e = refl
  none_left (x ∷ all) e = absurd (omega (arith, eqb-true (length (x ∷ all)) 0 (sym e)))

  -- the last one is lent, of those that are shown
  module _ (all shown : List X) (count : ℕ) (whole : shown ≡ all) (long : count ≡ length all) (some : 0 < length (reverse all)) where
    abbrev last : ℕ
    last = count - 1

    before : suc last ≡ length all
    before = omega (arith, long, some, length-reverse all)

    pub lent : (x : X) → reverse all ≡ get_or shown last x ∷ reverse (take last all)
    lent x =
        newest all (take last all) (get_or shown last x)
        (sym (take-length all) ∙ ap (λ n. take n all) (sym before) ∙ rw whole (take-suc all last x (omega (arith, before))))

    -- and another value was written to it
    pub changed : (y : X) → reverse (refill (length all) all (set shown last y)) ≡ y ∷ reverse (take last all)
    changed y =
        let ws = set all last y in
        let same : length all ≡ length ws = sym (length-set all last y) in
        let filled : refill (length all) all ws ≡ ws = ap (λ n. take n (ws ++ drop (length ws) all)) same ∙ take-append_seam ws (drop (length ws) all) in
        let written : ws ≡ take last all ++ y ∷ [] = sym (take-length ws) ∙ ap (λ n. take n ws) (sym (before ∙ same)) ∙ take-suc-set all last y (omega (arith, before)) in
        rw whole (newest (refill (length all) all ws) (take last all) y (filled ∙ written))

-- a frame that was lent, took its last answer and was taken off is as it was, with the older ones below it
pub taken_off : (all shown : List Frame) (count : ℕ) → shown ≡ all → count ≡ length all → 0 < length (reverse all)
    → (was after p : Frame) (answer low high : Root) → HasBoth (get_or shown (count - 1) was) answer after low high
    → (older : List Frame) (off : Option Frame) → off ≡ Some p → refill (length all) all (set shown (count - 1) after) ≡ older ++ option_to_list off
    → (reverse all ≡ p ∷ reverse older) × HasBoth p answer p low high
taken_off all shown count whole long some was after p answer low high both older off is left =
    let first = lent all shown count whole long some was in
    let now = changed all shown count whole long some after in
    let gone = popped (refill (length all) all (set shown (count - 1) after)) older p off is left in
    let moved : after ≡ p = cc (now, gone) in
    let same : get_or shown (count - 1) was ≡ p = sym both.same ∙ moved in
    let rest : reverse (take (count - 1) all) ≡ reverse older = cc (now, gone) in (
      first ∙ ap (λ (f : Frame). f ∷ reverse (take (count - 1) all)) same ∙ ap (λ fs. p ∷ fs) rest,
      subst (λ (x : Frame). HasBoth x answer p low high) same (subst (λ (x : Frame). HasBoth (get_or shown (count - 1) was) answer x low high) moved both),
    )

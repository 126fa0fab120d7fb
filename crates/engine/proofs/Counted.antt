-- The number of turns that are left falls with each turn.
use Rattle.std.proofs.Common.{◌≡◌, ℕ, zero, suc, ◌+◌, ◌-◌, ◌*◌, ◌<◌, ◌≤◌, List, ◌∷◌, refl, ap, mul-le-mul_right, arith}
use Rattle.model.specs.declared.root.Root.{Root}
use Rattle.storage.specs.declared.question.Question.{Question}
use Rattle.engine.specs.declared.frame.Frame.{Frame}
use Rattle.engine.specs.declared.frame.Stage.{Stage}
use Rattle.engine.specs.declared.frame.Stage.TheVariants.{Low, LowProduct, HighHigh, LowHigh, HighLow, FirstTwo, High}
use Rattle.engine.specs.declared.turn.Turn.TheVariants.{Ask, Answer}
use Rattle.engine.specs.Stages.{parts_left, AsksOn}
use Rattle.engine.specs.Underway.{floor, turns_for, turns_left}

parts_few : (s : Stage) → parts_left s ≤ 5
parts_few (Low high) = omega arith
parts_few (LowProduct a b) = omega arith
parts_few (HighHigh low a b) = omega arith
parts_few (LowHigh low hh hl) = omega arith
parts_few (HighLow low hh lh) = omega arith
parts_few (FirstTwo low hl) = omega arith
parts_few (High low) = omega arith

turns_some : (n : ℕ) → 0 < turns_for n
unfolding turns_for
turns_some zero = omega arith
turns_some (suc n) = omega arith

turns_more : (m n : ℕ) → m ≤ n → turns_for m ≤ turns_for n
unfolding turns_for
turns_more zero n le = turns_some n
turns_more (suc m) zero le = absurd (omega arith)
turns_more (suc m) (suc n) le = omega (arith, turns_more m n (omega arith))

turns_split : (n : ℕ) → turns_for (suc n) ≡ 7 + 6 * turns_for n
unfolding turns_for
turns_split n = refl

module _ (facts : ℕ) (fs : List Frame) where
  pub answered_fewer : (q : Question) (r : Root) → turns_left facts fs (Answer r) < turns_left facts fs (Ask q)
  answered_fewer q r = omega (arith, turns_some (facts - floor fs))

  pub split_fewer : (f : Frame) (q first : Question) → f.fact < facts → floor fs ≤ f.fact → turns_left facts (f ∷ fs) (Ask first) < turns_left facts fs (Ask q)
  split_fewer f q first known rises =
      let n = facts - suc f.fact in
      let t = turns_for n in
      let parts : parts_left f.stage * (1 + t) ≤ 5 * (1 + t) = mul-le-mul_right (1 + t) (parts_few f.stage) in
      omega (arith, parts, turns_split n, turns_more (suc n) (facts - floor fs) (omega arith))

  pub asks_fewer : (before after : Frame) (answer : Root) (q : Question) → AsksOn before answer after q → turns_left facts (after ∷ fs) (Ask q) < turns_left facts (before ∷ fs) (Answer answer)
  asks_fewer before after answer q a =
      let t = turns_for (facts - suc before.fact) in
      let same : turns_for (facts - suc after.fact) ≡ t = ap (λ f. turns_for (facts - suc f)) a.fact in
      let left : parts_left before.stage * (1 + t) ≡ suc (parts_left after.stage) * (1 + t) = ap (λ n. n * (1 + t)) a.fewer in
      let also : parts_left after.stage * (1 + turns_for (facts - suc after.fact)) ≡ parts_left after.stage * (1 + t) = ap (λ n. parts_left after.stage * (1 + n)) same in
      omega (arith, same, left, also)

  pub joined_fewer : (f : Frame) (answer r : Root) → turns_left facts fs (Answer r) < turns_left facts (f ∷ fs) (Answer answer)
  joined_fewer f answer r = omega arith

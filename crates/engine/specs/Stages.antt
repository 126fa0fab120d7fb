-- What is left of a half-answered question.
use Rattle.std.specs.Prelude.{◌≡◌, ℕ, suc, ◌<◌, List, length}
use Rattle.model.specs.Rings.{Ring}
use Rattle.model.specs.declared.decomposition.Decomposition.{Decomposition}
use Rattle.model.specs.declared.node.Node.{Node}
use Rattle.model.specs.declared.root.Root.{Root}
use Rattle.storage.specs.declared.question.Question.{Question}
use Rattle.storage.specs.declared.question.Question.TheVariants.{Sum, Times}
use Rattle.kfdd.specs.Joining.{Outcome, then, join}
use Rattle.engine.specs.declared.frame.Frame.{Frame}
use Rattle.engine.specs.declared.frame.Next.{Next}
use Rattle.engine.specs.declared.frame.Next.TheVariants.{Ask, Join}
use Rattle.engine.specs.declared.frame.Stage.{Stage}
use Rattle.engine.specs.declared.frame.Stage.TheVariants.{Low, LowProduct, HighHigh, LowHigh, HighLow, FirstTwo, High}
use Rattle.engine.specs.Questions.{outcome, top_of, From, RootsFrom}

-- how many parts are still to be asked, after the one that is asked now
abbrev pub parts_left : Stage → ℕ
parts_left (Low high) = 1
parts_left (LowProduct a b) = 5
parts_left (HighHigh low a b) = 4
parts_left (LowHigh low hh hl) = 3
parts_left (HighLow low hh lh) = 2
parts_left (FirstTwo low hl) = 1
parts_left (High low) = 0

module _ (R : Ring) (types : List Decomposition) (capacity : ℕ) (f : ℕ) where
  -- what follows each answer, on the nodes that are held then
  abbrev pub after_high : Root → List Node → Root → Outcome
  after_high low ns h = join R types capacity ns f low h

  abbrev pub after_first_two : Root → Root → List Node → Root → Outcome
  after_first_two low hl ns s = then (outcome R types capacity ns (Sum s hl)) (after_high low)

  abbrev pub after_high_low : Root → Root → Root → List Node → Root → Outcome
  after_high_low low hh lh ns hl = then (outcome R types capacity ns (Sum hh lh)) (after_first_two low hl)

  abbrev pub after_low_high : Root → Root → Question → List Node → Root → Outcome
  after_low_high low hh high-low ns lh = then (outcome R types capacity ns high-low) (after_high_low low hh lh)

  abbrev pub after_high_high : Root → Root × Root → Root × Root → List Node → Root → Outcome
  after_high_high low a b ns hh = then (outcome R types capacity ns (Times a.0 b.1)) (after_low_high low hh (Times a.1 b.0))

  abbrev pub after_low_product : Root × Root → Root × Root → List Node → Root → Outcome
  after_low_product a b ns l = then (outcome R types capacity ns (Times a.1 b.1)) (after_high_high l a b)

  abbrev pub after_low : Question → List Node → Root → Outcome
  after_low high ns l = then (outcome R types capacity ns high) (after_high l)

  abbrev pub left_at : Stage → List Node → Root → Outcome
  left_at (Low high) = after_low high
  left_at (LowProduct a b) = after_low_product a b
  left_at (HighHigh low a b) = after_high_high low a b
  left_at (LowHigh low hh hl) = after_low_high low hh hl
  left_at (HighLow low hh lh) = after_high_low low hh lh
  left_at (FirstTwo low hl) = after_first_two low hl
  left_at (High low) = after_high low

-- what is left of a frame, once the part that it asks is answered
abbrev pub left_of : Ring → List Decomposition → ℕ → Frame → List Node → Root → Outcome
left_of R types capacity f = left_at R types capacity f.fact f.stage

module _ (R : Ring) (types : List Decomposition) (ns : List Node) (l : ℕ) where
  abbrev pub PairFrom : Root × Root → Type 0
  PairFrom p = From R types ns l p.0 × From R types ns l p.1

  -- the roots that a stage knows are held and have no fact before l
  abbrev pub StageFrom : Stage → Type 0
  StageFrom (Low high) = RootsFrom R types ns l high
  StageFrom (LowProduct a b) = PairFrom a × PairFrom b
  StageFrom (HighHigh low a b) = From R types ns l low × PairFrom a × PairFrom b
  StageFrom (LowHigh low hh hl) = From R types ns l low × From R types ns l hh × RootsFrom R types ns l hl
  StageFrom (HighLow low hh lh) = From R types ns l low × From R types ns l hh × From R types ns l lh
  StageFrom (FirstTwo low hl) = From R types ns l low × From R types ns l hl
  StageFrom (High low) = From R types ns l low

-- a frame that took an answer and asks on: what was left is to ask this, and then what is left now
pub record AsksOn (before : Frame) (answer : Root) (after : Frame) (next : Question) : Type 0 where
  pub question : after.question ≡ before.question
  pub fact : after.fact ≡ before.fact
  pub left : (R : Ring) (types : List Decomposition) (capacity : ℕ) (ns : List Node) → left_of R types capacity before ns answer ≡ then (outcome R types capacity ns next) (left_of R types capacity after)
  pub roots : (R : Ring) (types : List Decomposition) (ns : List Node) (l : ℕ) → StageFrom R types ns l before.stage → From R types ns l answer
      → StageFrom R types ns l after.stage × RootsFrom R types ns l next
  pub fewer : parts_left before.stage ≡ suc (parts_left after.stage)

-- a frame that took its last answer: what was left is to join a low and a high
pub record HasBoth (before : Frame) (answer : Root) (after : Frame) (low high : Root) : Type 0 where
  pub same : after ≡ before
  pub left : (R : Ring) (types : List Decomposition) (capacity : ℕ) (ns : List Node) → left_of R types capacity before ns answer ≡ join R types capacity ns before.fact low high
  pub roots : (R : Ring) (types : List Decomposition) (ns : List Node) (l : ℕ) → StageFrom R types ns l before.stage → From R types ns l answer → From R types ns l low × From R types ns l high

abbrev pub Advances : Frame → Root → Frame → Next → Type 0
Advances before answer after (Ask q) = AsksOn before answer after q
Advances before answer after (Join low high) = HasBoth before answer after low high

-- a question was split at a fact: it comes to what its first part comes to and what is left of the frame then
pub record Divides (R : Ring) (types : List Decomposition) (ns : List Node) (q : Question) (f : Frame) (first : Question) : Type 0 where
  pub question : f.question ≡ q
  pub topmost : f.fact ≡ top_of R types ns q
  pub known : f.fact < length types
  pub left : (capacity : ℕ) → outcome R types capacity ns q ≡ then (outcome R types capacity ns first) (left_of R types capacity f)
  pub roots : StageFrom R types ns (suc f.fact) f.stage × RootsFrom R types ns (suc f.fact) first

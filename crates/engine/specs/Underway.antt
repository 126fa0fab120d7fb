-- What holds while a question is worked out.
use Rattle.std.specs.Prelude.{◌≡◌, ℕ, zero, suc, ◌+◌, ◌-◌, ◌*◌, ◌<◌, ◌≤◌, List, [], ◌∷◌, length}
use Rattle.model.specs.Rings.{Ring}
use Rattle.model.specs.declared.decomposition.Decomposition.{Decomposition}
use Rattle.model.specs.declared.node.Node.{Node}
use Rattle.model.specs.declared.root.Root.{Root}
use Rattle.storage.specs.declared.question.Question.{Question}
use Rattle.kfdd.specs.Appending.{Extends}
use Rattle.kfdd.specs.Joining.{Outcome, full, done, then}
use Rattle.kfdd.specs.Reduced.{Reduced}
use Rattle.engine.specs.declared.frame.Frame.{Frame}
use Rattle.engine.specs.declared.turn.Turn.{Turn}
use Rattle.engine.specs.declared.turn.Turn.TheVariants.{Ask, Answer}
use Rattle.engine.specs.Questions.{outcome, From, RootsFrom, RootsHeld}
use Rattle.engine.specs.Stages.{left_of, parts_left, StageFrom}

-- the first fact at which a further question may be split
abbrev pub floor : List Frame → ℕ
floor [] = 0
floor (f ∷ fs) = suc f.fact

module _ (R : Ring) (types : List Decomposition) (ns : List Node) where
  -- a frame is of a fact of the order, after those of the frames below it, and knows only roots of later facts
  pub record FrameFits (f : Frame) (below : List Frame) : Type 0 where
    pub known : f.fact < length types
    pub rises : floor below ≤ f.fact
    pub roots : StageFrom R types ns (suc f.fact) f.stage

  abbrev pub FramesFit : List Frame → Type 0
  FramesFit [] = Unit {0}
  FramesFit (f ∷ fs) = FrameFits f fs × FramesFit fs

  abbrev pub TurnFits : ℕ → Turn → Type 0
  TurnFits l (Ask q) = RootsFrom R types ns l q
  TurnFits l (Answer r) = From R types ns l r

  pub record Fits (fs : List Frame) (turn : Turn) : Type 0 where
    pub frames : FramesFit fs
    pub asked : TurnFits (floor fs) turn

module _ (R : Ring) (types : List Decomposition) (capacity : ℕ) where
  -- what is asked, or was answered
  abbrev pub turn_outcome : List Node → Turn → Outcome
  turn_outcome ns (Ask q) = outcome R types capacity ns q
  turn_outcome ns (Answer r) = done ns r

  -- the frame's question, as it was asked before, comes to what is left of the frame after this outcome
  pub record Opened (before : List Node) (f : Frame) (o : Outcome) : Type 0 where
    pub reduced : Reduced R types before
    pub held : RootsHeld R before f.question
    pub left : outcome R types capacity before f.question ≡ then o (left_of R types capacity f)

  -- this outcome leads to the result, through what is left of the frames
  abbrev pub LeadsTo : Outcome → List Frame → Outcome → Type 0
  LeadsTo result [] o = o ≡ result
  LeadsTo result (f ∷ fs) o = (before : List Node) × Opened before f o × LeadsTo result fs (outcome R types capacity before f.question)

module _ (R : Ring) (types : List Decomposition) (capacity : ℕ) (start : List Node) (first : Question) where
  -- From the first question nodes were only appended, and what is before the loop leads to what the first question comes to.
  -- That holds for this capacity and for every larger one.
  pub record Underway (ns : List Node) (fs : List Frame) (turn : Turn) : Type 0 where
    pub grown : Extends start ns
    pub leads : (c : ℕ) → capacity ≤ c → LeadsTo R types c (outcome R types c start first) fs (turn_outcome R types c ns turn)

  -- there is no room for what the first question leads to; what is held are the first nodes of it
  pub record Overfull (ns : List Node) : Type 0 where
    pub grown : Extends start ns
    pub long : length ns ≡ capacity
    pub full : outcome R types capacity start first ≡ full
    pub front : (c : ℕ) (all : List Node) (r : Root) → capacity < c → outcome R types c start first ≡ done all r → Extends ns all

-- at most so many turns answer a question that has so many facts before it
unfoldable pub turns_for : ℕ → ℕ
turns_for zero = 1
turns_for (suc n) = 7 + 6 * turns_for n

module _ (facts : ℕ) where
  -- one turn takes the answer that a frame waits for, and each part still to be asked takes one more besides its own
  abbrev pub frame_turns : Frame → ℕ
  frame_turns f = 1 + parts_left f.stage * (1 + turns_for (facts - suc f.fact))

  abbrev pub frames_turns : List Frame → ℕ
  frames_turns [] = 0
  frames_turns (f ∷ fs) = frame_turns f + frames_turns fs

  -- so many turns are left at most
  abbrev pub turns_left : List Frame → Turn → ℕ
  turns_left fs (Ask q) = turns_for (facts - floor fs) + frames_turns fs
  turns_left fs (Answer r) = frames_turns fs

-- From one turn to the next: the roots fit, fewer turns are left, and whatever question was underway still is.
pub record TurnsTo (R : Ring) (types : List Decomposition) (capacity : ℕ) (ns : List Node) (fs : List Frame) (turn : Turn) (ns' : List Node) (fs' : List Frame) (turn' : Turn) : Type 0 where
  pub fits : Fits R types ns' fs' turn'
  pub fewer : turns_left (length types) fs' turn' < turns_left (length types) fs turn
  pub goes_on : (start : List Node) (first : Question) → Underway R types capacity start first ns fs turn → Underway R types capacity start first ns' fs' turn'

-- there was no room: whatever question was underway is full
abbrev pub Stops : Ring → List Decomposition → ℕ → List Node → List Frame → Turn → List Node → Type 0
Stops R types capacity ns fs turn ns' = (start : List Node) (first : Question) → Underway R types capacity start first ns fs turn → Overfull R types capacity start first ns'

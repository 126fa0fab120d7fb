-- What the loop keeps from turn to turn.
use Rattle.std.proofs.Common.{◌≡◌, ℕ, suc, List, [], Ok, Err, sym, subst, subst₂, arith}
use Rattle.model.specs.Refusals.{fault}
use Rattle.model.specs.Rings.{Ring, Closed, Laws}
use Rattle.model.specs.declared.decomposition.Decomposition.{Decomposition}
use Rattle.model.specs.declared.fault.Refusal.TheVariants.{StoreFull}
use Rattle.model.specs.declared.node.Node.{Node}
use Rattle.model.specs.declared.root.Root.{Root}
use Rattle.storage.specs.declared.question.Question.{Question}
use Rattle.storage.specs.declared.question.Question.TheVariants.{Minus}
use Rattle.kfdd.specs.Reduced.{Reduced}
use Rattle.engine.specs.Outcomes.{Comes, answers, fills}
use Rattle.engine.specs.Questions.{outcome, RootsHeld}
use Rattle.engine.specs.Underway.{Fits, Stops, TurnsTo, Underway}
use Rattle.engine.specs.declared.frame.Frame.{Frame}
use Rattle.engine.specs.declared.turn.Turn.{Turn}
use Rattle.engine.specs.declared.turn.Turn.TheVariants.{Ask, Answer}
use Rattle.engine.proofs.Asked.{outcome_enough}

-- the question with which the loop begins; it begins with no answer
abbrev pub first_of : Turn → Question
first_of (Ask q) = q
first_of (Answer r) = Minus r

pub record Working (R : Ring) (types : List Decomposition) (capacity : ℕ) (ns : List Node) (fs : List Frame) (turn : Turn) (start : List Node) (first : Question) : Type 0 where
  pub fits : Fits R types ns fs turn
  pub underway : Underway R types capacity start first ns fs turn

module _ (R : Ring) (start : List Node) (first : Question) where
  module _ (types : List Decomposition) (capacity : ℕ) (ns : List Node) (fs : List Frame) (turn : Turn)
      (w : Working R types capacity ns fs turn start first) where
    -- the same turn, under another name
    as_turn : (turn' : Turn) → turn ≡ turn' → Working R types capacity ns fs turn' start first
    as_turn turn' is = subst (λ (t : Turn). Working R types capacity ns fs t start first) is w

    -- a question was begun; the nodes and the memo are as they were
    pub began : (q : Question) → turn ≡ Ask q → (fs' : List Frame) (turn' : Turn) → TurnsTo R types capacity ns fs (Ask q) ns fs' turn' → Working R types capacity ns fs' turn' start first
    began q is fs' turn' t = record { fits = t.fits; underway = t.goes_on start first (as_turn (Ask q) is).underway }

    module _ (r : Root) (is : turn ≡ Answer r) where
      -- an answer was handed on
      pub resumed : (types' : List Decomposition) → types' ≡ types → (capacity' : ℕ) → capacity' ≡ capacity → (ns' : List Node) (fs' : List Frame) (turn' : Turn)
          → TurnsTo R types capacity ns fs (Answer r) ns' fs' turn' → Working R types' capacity' ns' fs' turn' start first
      resumed types' same-types capacity' same-capacity ns' fs' turn' t =
          let u = t.goes_on start first (as_turn (Answer r) is).underway in
          subst₂ (λ (ts : List Decomposition) (c : ℕ). Working R ts c ns' fs' turn' start first) (sym same-types) (sym same-capacity) (record { fits = t.fits; underway = u })

      module _ (types₀ : List Decomposition) (same-types : types ≡ types₀) (capacity₀ : ℕ) (same-capacity : capacity ≡ capacity₀) where
        -- no question waits: the first one is answered
        pub ended : fs ≡ [] → Comes (λ c. outcome R types₀ c start first) capacity₀ start (Ok r) ns
        ended none =
            let u = subst (λ (list : List Frame). Underway R types capacity start first ns list (Answer r)) none (as_turn (Answer r) is).underway in
            subst₂ (λ (ts : List Decomposition) (n : ℕ). Comes (λ c. outcome R ts c start first) n start (Ok r) ns) same-types same-capacity
            (answers (sym (u.leads capacity (omega arith))))

        -- there was no room
        pub stopped : Closed R → Laws R → Reduced R types₀ start → RootsHeld R start first → (ns' : List Node) → Stops R types capacity ns fs (Answer r) ns'
            → Comes (λ c. outcome R types₀ c start first) capacity₀ start (Err (fault StoreFull 0)) ns'
        stopped closed laws red held ns' stop =
            let o = stop start first (as_turn (Answer r) is).underway in
            let e = outcome_enough R closed laws types start (subst (λ ts. Reduced R ts start) (sym same-types) red) first held (suc capacity) in
            subst₂ (λ (ts : List Decomposition) (n : ℕ). Comes (λ c. outcome R ts c start first) n start (Err (fault StoreFull 0)) ns') same-types same-capacity
            (fills o.full o.grown o.long e.0 e.2 e.3 e.4 (o.front e.0 e.2 e.3 e.1 e.4))

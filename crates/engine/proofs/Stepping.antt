-- What is left of a frame only appends nodes, and answers a root of no earlier fact.
use Rattle.std.proofs.Common.{◌≡◌, ℕ, suc, ◌<◌, List, length, refl}
use Rattle.model.specs.Rings.{Ring, Closed, Laws}
use Rattle.model.specs.declared.decomposition.Decomposition.{Decomposition}
use Rattle.model.specs.declared.node.Node.{Node}
use Rattle.model.specs.declared.root.Root.{Root}
use Rattle.storage.specs.declared.question.Question.{Question}
use Rattle.storage.specs.declared.question.Question.TheVariants.{Sum, Times}
use Rattle.kfdd.specs.Appending.{Extends}
use Rattle.kfdd.specs.Joining.{Outcome, full, done, then}
use Rattle.kfdd.specs.Reduced.{Reduced}
use Rattle.kfdd.proofs.Appending.{extends_trans}
use Rattle.kfdd.proofs.Outcomes.{full_not_done}
use Rattle.kfdd.proofs.RecipeLaws.{join_kept}
use Rattle.engine.specs.declared.frame.Stage.{Stage}
use Rattle.engine.specs.declared.frame.Stage.TheVariants.{Low, LowProduct, HighHigh, LowHigh, HighLow, FirstTwo, High}
use Rattle.engine.specs.Questions.{outcome, top_of, From, RootsFrom}
use Rattle.engine.specs.Stages.{left_at, PairFrom, StageFrom}
use Rattle.engine.proofs.Asked.{Grown, from_after, from_earlier, roots_after, roots_held, roots_top, outcome_kept}

module _ (R : Ring) (types : List Decomposition) (ns ms : List Node) (ext : Extends ns ms) (l : ℕ) where
  on : (r : Root) → From R types ns l r → From R types ms l r
  on r = from_after R types ns ms ext l r

  pair_after : (p : Root × Root) → PairFrom R types ns l p → PairFrom R types ms l p
  pair_after p s = (on p.0 s.0, on p.1 s.1)

  pub stage_after : (s : Stage) → StageFrom R types ns l s → StageFrom R types ms l s
  stage_after (Low high) s = roots_after R types ns ms ext l high s
  stage_after (LowProduct a b) s = (pair_after a s.0, pair_after b s.1)
  stage_after (HighHigh low a b) s = (on low s.0, pair_after a s.1, pair_after b s.2)
  stage_after (LowHigh low hh hl) s = (on low s.0, on hh s.1, roots_after R types ns ms ext l hl s.2)
  stage_after (HighLow low hh lh) s = (on low s.0, on hh s.1, on lh s.2)
  stage_after (FirstTwo low hl) s = (on low s.0, on hl s.1)
  stage_after (High low) s = on low s

module _ (R : Ring) (closed : Closed R) (laws : Laws R) (types : List Decomposition) (f : ℕ) (known : f < length types) where
  abbrev Keeps : Stage → Type 0
  Keeps s = (ns : List Node) → Reduced R types ns → (r : Root) → StageFrom R types ns (suc f) s → From R types ns (suc f) r
      → (c : ℕ) (ms : List Node) (m : Root) → left_at R types c f s ns r ≡ done ms m → Grown R types ns f ms m

  -- one question, and then what is left
  asks_on : (s : Stage) → Keeps s → (ns : List Node) → Reduced R types ns → (q : Question) → RootsFrom R types ns (suc f) q → StageFrom R types ns (suc f) s
      → (c : ℕ) (ms : List Node) (m : Root) → then (outcome R types c ns q) (left_at R types c f s) ≡ done ms m → Grown R types ns f ms m
  asks_on s keeps ns red q qs ss c ms m = by_outcome (outcome R types c ns q) refl
    where
      by_outcome : (o : Outcome) → outcome R types c ns q ≡ o → then o (left_at R types c f s) ≡ done ms m → Grown R types ns f ms m
      by_outcome full p e = absurd (full_not_done ms m e)
      by_outcome (done ns₁ r₁) p e =
          let g = outcome_kept R closed laws types ns red q (roots_held R types ns (suc f) q qs) c ns₁ r₁ p in
          let r = from_earlier R types ns₁ (top_of R types ns q) (suc f) r₁ (roots_top R types ns (suc f) q qs) g.root in
          let k = keeps ns₁ g.reduced r₁ (stage_after R types ns ns₁ g.extends (suc f) s ss) r c ms m e in
          record { extends = extends_trans ns ns₁ ms g.extends k.extends; reduced = k.reduced; root = k.root }

  keeps_high : (low : Root) → Keeps (High low)
  keeps_high low ns red h s r c ms m e =
      let k = join_kept R closed laws types ns red c f low h (record { known = known; low_held = s.held; high_held = r.held; low_later = s.later; high_later = r.later }) ms m e in
      record { extends = k.appended; reduced = k.reduced; root = record { held = k.held; later = k.later } }

  keeps_first_two : (low hl : Root) → Keeps (FirstTwo low hl)
  keeps_first_two low hl ns red a s r = asks_on (High low) (keeps_high low) ns red (Sum a hl) (r, s.1) s.0

  keeps_high_low : (low hh lh : Root) → Keeps (HighLow low hh lh)
  keeps_high_low low hh lh ns red a s r = asks_on (FirstTwo low a) (keeps_first_two low a) ns red (Sum hh lh) (s.1, s.2) (s.0, r)

  keeps_low_high : (low hh : Root) (hl : Question) → Keeps (LowHigh low hh hl)
  keeps_low_high low hh hl ns red a s r = asks_on (HighLow low hh a) (keeps_high_low low hh a) ns red hl s.2 (s.0, s.1, r)

  keeps_high_high : (low : Root) (p q : Root × Root) → Keeps (HighHigh low p q)
  keeps_high_high low p q ns red a s r =
      let hl = Times p.1 q.0 in
      asks_on (LowHigh low a hl) (keeps_low_high low a hl) ns red (Times p.0 q.1) (s.1.0, s.2.1) (s.0, r, (s.1.1, s.2.0))

  keeps_low : (high : Question) → Keeps (Low high)
  keeps_low high ns red a s r = asks_on (High a) (keeps_high a) ns red high s r

  keeps_low_product : (p q : Root × Root) → Keeps (LowProduct p q)
  keeps_low_product p q ns red a s r = asks_on (HighHigh a p q) (keeps_high_high a p q) ns red (Times p.1 q.1) (s.0.1, s.1.1) (r, s.0, s.1)

  pub left_kept : (s : Stage) → Keeps s
  left_kept (Low high) = keeps_low high
  left_kept (LowProduct p q) = keeps_low_product p q
  left_kept (HighHigh low p q) = keeps_high_high low p q
  left_kept (LowHigh low hh hl) = keeps_low_high low hh hl
  left_kept (HighLow low hh lh) = keeps_high_low low hh lh
  left_kept (FirstTwo low hl) = keeps_first_two low hl
  left_kept (High low) = keeps_high low

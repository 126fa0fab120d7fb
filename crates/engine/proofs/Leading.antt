-- Where the outcome of a part leads, through what is left of the frames.
use Rattle.std.proofs.Common.{◌≡◌, ℕ, suc, ◌≤◌, List, [], ◌∷◌, length, sym, refl, subst, arith}
use Rattle.model.specs.Rings.{Ring, Closed, Laws}
use Rattle.model.specs.declared.decomposition.Decomposition.{Decomposition}
use Rattle.model.specs.declared.node.Node.{Node}
use Rattle.model.specs.declared.root.Root.{Root}
use Rattle.kfdd.specs.Appending.{Extends}
use Rattle.kfdd.specs.Joining.{Outcome, full, done}
use Rattle.kfdd.specs.Reduced.{Reduced}
use Rattle.kfdd.proofs.Appending.{extends_self, extends_trans}
use Rattle.kfdd.proofs.Outcomes.{full_not_done}
use Rattle.engine.specs.declared.frame.Frame.{Frame}
use Rattle.engine.specs.Questions.{outcome, From}
use Rattle.engine.specs.Stages.{left_of}
use Rattle.engine.specs.Underway.{floor, FramesFit, LeadsTo}
use Rattle.engine.proofs.Asked.{from_earlier}
use Rattle.engine.proofs.Stepping.{stage_after, left_kept}

module _ (R : Ring) (types : List Decomposition) where
  pub frames_after : (ns ms : List Node) → Extends ns ms → (fs : List Frame) → FramesFit R types ns fs → FramesFit R types ms fs
  frames_after ns ms ext [] s = tt
  frames_after ns ms ext (f ∷ fs) s =
      (record { known = s.0.known; rises = s.0.rises; roots = stage_after R types ns ms ext (suc f.fact) f.stage s.0.roots }, frames_after ns ms ext fs s.1)

  -- the facts of the frames rise, so there are no more frames than facts
  pub frames_few : (ns : List Node) (fs : List Frame) → FramesFit R types ns fs → length fs ≤ floor fs
  frames_few ns [] s = omega arith
  frames_few ns (f ∷ fs) s = omega (arith, s.0.rises, frames_few ns fs s.1)

  module _ (c : ℕ) where
    pub leads_as : (result o o' : Outcome) (fs : List Frame) → o ≡ o' → LeadsTo R types c result fs o → LeadsTo R types c result fs o'
    leads_as result o o' fs e l = subst (LeadsTo R types c result fs) e l

    -- what is full stays full
    pub leads_full : (result : Outcome) (fs : List Frame) → LeadsTo R types c result fs full → result ≡ full
    leads_full result [] l = sym l
    leads_full result (f ∷ fs) l = leads_full result fs (leads_as result (outcome R types c l.0 f.question) full fs l.1.left l.2)

module _ (R : Ring) (closed : Closed R) (laws : Laws R) (types : List Decomposition) (c : ℕ) (all : List Node) (m : Root) where
  -- the nodes that are held are the first of those that they lead to
  abbrev Front : List Frame → Type 0
  Front fs = (ns : List Node) (r : Root) → Reduced R types ns → FramesFit R types ns fs → From R types ns (floor fs) r → LeadsTo R types c (done all m) fs (done ns r) → Extends ns all

  -- what is left of a frame comes first
  through_frame : (f : Frame) (fs : List Frame) → Front fs → (ns : List Node) (r : Root) → Reduced R types ns → FramesFit R types ns (f ∷ fs) → From R types ns (suc f.fact) r
      → (o : Outcome) → left_of R types c f ns r ≡ o → LeadsTo R types c (done all m) fs o → Extends ns all
  through_frame f fs front ns r red s h full p l = absurd (full_not_done all m (sym (leads_full R types c (done all m) fs l)))
  through_frame f fs front ns r red s h (done ns₁ r₁) p l =
      let g = left_kept R closed laws types f.fact s.0.known f.stage ns red r s.0.roots h c ns₁ r₁ p in
      let later = front ns₁ r₁ g.reduced (frames_after R types ns ns₁ g.extends fs s.1) (from_earlier R types ns₁ f.fact (floor fs) r₁ s.0.rises g.root) l in
      extends_trans ns ns₁ all g.extends later

  pub leads_extends : (fs : List Frame) → Front fs
  leads_extends [] ns r red s h l = let same : ns ≡ all = cc in subst (Extends ns) same (extends_self ns)
  leads_extends (f ∷ fs) ns r red s h l =
      through_frame f fs (leads_extends fs) ns r red s h (left_of R types c f ns r) refl
      (leads_as R types c (done all m) (outcome R types c l.0 f.question) (left_of R types c f ns r) fs l.1.left l.2)

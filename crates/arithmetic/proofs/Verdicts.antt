-- Checking in turn has one outcome, and so has checking a net.
use Rattle.std.proofs.Common.{◌≡◌, ℕ, ◌<◌, true, cond, ltb, List, length, get_or, Ok, Err, Result, sym, refl, ap, ◌∙◌, inr, ⊎_elim, arith}
use Rattle.std.proofs.lemmas.List.{get_or-map}
use Rattle.std.proofs.lemmas.Bool.{cases_order}
use Rattle.model.specs.Refusals.{fault}
use Rattle.model.specs.Rings.{Ring}
use Rattle.model.specs.declared.fault.Fault.{Fault}
use Rattle.model.specs.declared.fault.Refusal.{Refusal}
use Rattle.model.specs.declared.fault.Refusal.TheVariants.{BadOutput}
use Rattle.model.specs.declared.gate.Gate.{Gate}
use Rattle.model.specs.declared.output.Output.{Output}
use Rattle.arithmetic.specs.NetChecks.{output_at, output_verdict, FirstRefused, GatesChecked, NetVerdict, OneNetVerdict, OutputsChecked, Pass}

-- the verdict on the output at a place
module _ (signals : ℕ) (outputs : List Output) (k : ℕ) (o : Output) (within : k < length outputs) (is : o ≡ get_or outputs k o) where
  pub output_passes : true ≡ ltb o.signal signals → output_at signals outputs k ≡ Ok tt
  output_passes e =
      ap (output_verdict signals) (get_or-map (λ p. p.signal) outputs k o 0 within ∙ ap (λ p. p.signal) (sym is))
      ∙ ap (λ b. cond b (Ok tt) (Err BadOutput)) (sym e)

module _ (verdict : ℕ → Result (Unit {0}) Refusal) (n : ℕ) where
  clash : (k : ℕ) (refusal : Refusal) → verdict k ≡ Ok tt → verdict k ≡ Err refusal → ⊥
  clash k refusal p q = let z : ◌≡◌ {A = ℕ} 0 1 = cc in omega arith

  one_refused : (f g : Fault) → FirstRefused verdict n f → FirstRefused verdict n g → f ≡ g
  one_refused f g p q =
      let same : f.place ≡ g.place =
      ⊎_elim (λ e. e)
      (⊎_elim
      (λ lt. absurd (clash f.place f.refusal (q.first f.place lt) p.refused))
      (λ lt. absurd (clash g.place g.refusal (p.first g.place lt) q.refused)))
      (cases_order f.place g.place) in
      let at_one : verdict f.place ≡ Err g.refusal = ap verdict same ∙ q.refused in
      let kind : f.refusal ≡ g.refusal = let e = p.refused in cc in
      ap (λ k. fault f.refusal k) same ∙ ap (λ r. fault r g.place) kind

  passes_or_not : (f : Fault) → Pass verdict n → FirstRefused verdict n f → ⊥
  passes_or_not f all p = clash f.place f.refusal (all f.place p.within) p.refused

-- once the gates pass, the outputs decide
pub outputs_decide : (R : Ring) (facts : ℕ) (gates : List Gate) (outputs : List Output) (r : Result (Unit {0}) Fault)
    → GatesChecked R facts gates outputs (Ok tt) → OutputsChecked R facts gates outputs r → NetVerdict R facts gates outputs r
outputs_decide R facts gates outputs (Ok u) pass last = (pass, last)
outputs_decide R facts gates outputs (Err f) pass last = inr (pass, last)

pub one_net_verdict : (R : Ring) → OneNetVerdict R
one_net_verdict R facts gates outputs (Ok u) (Ok v) p q = refl
one_net_verdict R facts gates outputs (Ok u) (Err f) p q =
    absurd (⊎_elim (passes_or_not _ _ f p.0) (λ later. passes_or_not _ _ f p.1 later.1) q)
one_net_verdict R facts gates outputs (Err f) (Ok v) p q =
    absurd (⊎_elim (passes_or_not _ _ f q.0) (λ later. passes_or_not _ _ f q.1 later.1) p)
one_net_verdict R facts gates outputs (Err f) (Err g) p q =
    ap Err
    (⊎_elim
    (λ a. ⊎_elim (one_refused _ _ f g a) (λ b. absurd (passes_or_not _ _ f b.0 a)) q)
    (λ a. ⊎_elim (λ b. absurd (passes_or_not _ _ g a.0 b)) (λ b. one_refused _ _ f g a.1 b.1) q)
    p)

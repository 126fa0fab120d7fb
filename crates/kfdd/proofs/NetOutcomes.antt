-- What building a net that passes its checks comes to, with any capacity and on any list that goes on from what it left.
use Rattle.std.proofs.Common.{◌≡◌, ℕ, ◌<◌, ◌≤◌, max, List, length, Ok, sym, ap, ◌∙◌, subst, ap₂, inl, inr, arith}
use Rattle.std.proofs.lemmas.Bool.{cases_lt}
use Rattle.model.specs.Refusals.{fault}
use Rattle.model.specs.Rings.{Ring, Closed, Laws}
use Rattle.model.specs.declared.fault.Fault.{Fault}
use Rattle.model.specs.declared.fault.Refusal.TheVariants.{StoreFull}
use Rattle.model.specs.declared.gate.Gate.{Gate}
use Rattle.model.specs.declared.output.Output.{Output}
use Rattle.model.specs.declared.root.Root.{Root}
use Rattle.model.specs.declared.decomposition.Decomposition.{Decomposition}
use Rattle.model.specs.declared.node.Node.{Node}
use Rattle.arithmetic.specs.NetChecks.{NetVerdict}
use Rattle.kfdd.specs.Reduced.{Reduced}
use Rattle.kfdd.specs.Appending.{Extends}
use Rattle.kfdd.specs.NetRecipe.{NetOutcome, refused, built, build_net}
use Rattle.kfdd.specs.NetOutcomes.{NetKept, NetRefused, NetMeans, NetRepeats}
use Rattle.kfdd.proofs.Appending.{extends_self}
use Rattle.kfdd.proofs.NetAnswers.{NetAnswered, net_answered}

refused_not_built : (f : Fault) (before ns : List Node) (roots outs : List Root) → refused f before ≡ built ns roots outs → ⊥
refused_not_built f before ns roots outs e = let z : ◌≡◌ {A = ℕ} 0 1 = cc in omega arith

module _ (R : Ring) (closed : Closed R) (laws : Laws R) (types : List Decomposition) (ns : List Node) (red : Reduced R types ns) (gates : List Gate) (outputs : List Output)
    (checked : NetVerdict R (length types) gates outputs (Ok tt)) where
  abbrev ask : ℕ → List Node → NetOutcome
  ask c ms = build_net R types c ms gates outputs

  the_net : NetAnswered R closed laws types ns gates outputs
  the_net = net_answered R closed laws types ns red gates outputs checked

  -- the one way to be built
  record Ended (after : List Node) (roots outs : List Root) : Type 0 where
    list : the_net.after ≡ after
    gates_roots : the_net.roots ≡ roots
    outputs_roots : the_net.outs ≡ outs

  same_built : (after : List Node) (roots outs : List Root) → Ended after roots outs → built the_net.after the_net.roots the_net.outs ≡ built after roots outs
  same_built after roots outs d i = built (d.list i) (d.gates_roots i) (d.outputs_roots i)

  ended : (c : ℕ) (after : List Node) (roots outs : List Root) → ask c ns ≡ built after roots outs → Ended after roots outs
  ended c after roots outs p = elim (cases_lt (max c (length ns)) (length the_net.after)) [
    | inl short ↦ let stop = the_net.unfit c short in absurd (refused_not_built (fault StoreFull stop.0) ns after roots outs (sym stop.2 ∙ p))
    | inr room ↦ let same : built the_net.after the_net.roots the_net.outs ≡ built after roots outs = sym (the_net.fits c room) ∙ p in
        record { list = cc; gates_roots = cc; outputs_roots = cc }
  ]

  kept : (c : ℕ) (after : List Node) (roots outs : List Root) → ask c ns ≡ built after roots outs → NetKept R types ns gates outputs after roots outs
  kept c after roots outs p =
      let d = ended c after roots outs p in
      let all : NetKept R types ns gates outputs the_net.after the_net.roots the_net.outs =
      record { appended = the_net.extends; reduced = the_net.reduced; gates_worth = the_net.gates_worth; outputs_worth = the_net.outputs_worth } in
      subst (λ l. NetKept R types ns gates outputs after roots l) d.outputs_roots
      (subst (λ l. NetKept R types ns gates outputs after l the_net.outs) d.gates_roots (subst (λ l. NetKept R types ns gates outputs l the_net.roots the_net.outs) d.list all))

  is_refused : (c : ℕ) (f : Fault) (before : List Node) → ask c ns ≡ refused f before → NetRefused ns gates f before
  is_refused c f before p = elim (cases_lt (max c (length ns)) (length the_net.after)) [
    | inl short ↦ let stop = the_net.unfit c short in
        let same : refused (fault StoreFull stop.0) ns ≡ refused f before = sym stop.2 ∙ p in
        record { place = stop.0; place_within = stop.1; is_full = cc; unchanged = cc }
    | inr room ↦ absurd (refused_not_built f before the_net.after the_net.roots the_net.outs (sym p ∙ the_net.fits c room))
  ]

  pub net_means : NetMeans R types ns gates outputs (λ c. ask c ns)
  net_means =
      record {
        keeps = kept;
        refuses = is_refused;
        enough = length the_net.after;
        ends = (the_net.after, the_net.roots, the_net.outs, the_net.fits (length the_net.after) (omega arith));
      }

  again_on : (c c' : ℕ) (after : List Node) (roots outs : List Root) → ask c ns ≡ built after roots outs → (ms : List Node) → Extends after ms → ask c' ms ≡ built ms roots outs
  again_on c c' after roots outs p ms ext =
      let d = ended c after roots outs p in
      the_net.again c' ms (subst (λ l. Extends l ms) (sym d.list) ext) ∙ ap₂ (built ms) d.gates_roots d.outputs_roots

  built_alike : (c c' : ℕ) (after after' : List Node) (roots roots' outs outs' : List Root) → ask c ns ≡ built after roots outs → ask c' ns ≡ built after' roots' outs'
      → (after ≡ after') × (roots ≡ roots') × (outs ≡ outs')
  built_alike c c' after after' roots roots' outs outs' p p' =
      let d = ended c after roots outs p in
      let d' = ended c' after' roots' outs' p' in
      (sym d.list ∙ d'.list, sym d.gates_roots ∙ d'.gates_roots, sym d.outputs_roots ∙ d'.outputs_roots)

  refused_unfit : (c c' : ℕ) (after : List Node) (roots outs : List Root) → ask c ns ≡ built after roots outs → (f : Fault) → ask c' ns ≡ refused f ns → c' < length after
  refused_unfit c c' after roots outs p f q =
      let d = ended c after roots outs p in
      elim (cases_lt (max c' (length ns)) (length the_net.after)) [
        | inl short ↦ omega (arith, ap length d.list)
        | inr room ↦ absurd (refused_not_built f ns the_net.after the_net.roots the_net.outs (sym q ∙ the_net.fits c' room))
      ]

  unfit_refused : (c c' : ℕ) (after : List Node) (roots outs : List Root) → ask c ns ≡ built after roots outs → length ns ≤ c' → c' < length after → (f : Fault) × (ask c' ns ≡ refused f ns)
  unfit_refused c c' after roots outs p long short =
      let d = ended c after roots outs p in
      let stop = the_net.unfit c' (omega (arith, ap length d.list)) in
      (fault StoreFull stop.0, stop.2)

  pub net_repeats : NetRepeats ask ns
  net_repeats =
      record {
        repeats = λ c c' after roots outs p. again_on c c' after roots outs p after (extends_self after);
        grows = λ c c' roots outs p. again_on c c' ns roots outs p;
        alike = built_alike;
        full_exactly = λ c c' after roots outs p long. ((λ r. refused_unfit c c' after roots outs p r.0 r.1), unfit_refused c c' after roots outs p long);
      }

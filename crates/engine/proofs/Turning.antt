-- Each turn leaves what was underway underway.
use Rattle.std.proofs.Common.{◌≡◌, ℕ, suc, ◌<◌, ◌≤◌, List, ◌∷◌, length, Ok, Err, sym, refl, ap, ◌∙◌, subst, inl, inr, arith}
use Rattle.model.specs.Refusals.{fault}
use Rattle.model.specs.Rings.{Ring, Closed, Laws}
use Rattle.model.specs.declared.decomposition.Decomposition.{Decomposition}
use Rattle.model.specs.declared.fault.Fault.{Fault}
use Rattle.model.specs.declared.fault.Refusal.TheVariants.{StoreFull}
use Rattle.model.specs.declared.node.Node.{Node}
use Rattle.model.specs.declared.root.Root.{Root}
use Rattle.storage.specs.Memos.{answered, Keeps}
use Rattle.storage.specs.declared.question.Answered.{Answered}
use Rattle.storage.specs.declared.question.Question.{Question}
use Rattle.kfdd.specs.Joining.{Outcome, full, done, join}
use Rattle.kfdd.specs.RecipeLaws.{Joinable}
use Rattle.kfdd.specs.Reduced.{Reduced}
use Rattle.kfdd.proofs.Appending.{extends_self, extends_trans}
use Rattle.kfdd.proofs.Outcomes.{more_room}
use Rattle.kfdd.proofs.RecipeLaws.{join_held, join_kept}
use Rattle.engine.specs.declared.frame.Frame.{Frame}
use Rattle.engine.specs.declared.turn.Turn.TheVariants.{Ask, Answer}
use Rattle.engine.specs.Outcomes.{Joins, joined, overfull}
use Rattle.engine.specs.Questions.{outcome, top_of, From, RootsFrom, RootsHeld}
use Rattle.engine.specs.Soundness.{Remembered, Remembers}
use Rattle.engine.specs.Stages.{AsksOn, Divides, HasBoth, StageFrom}
use Rattle.engine.specs.Underway.{floor, Fits, LeadsTo, Opened, Stops, TurnsTo, Underway}
use Rattle.engine.proofs.Asked.{Grown, from_earlier, outcome_again, outcome_kept, roots_held, roots_held_after, roots_top}
use Rattle.engine.proofs.Counted.{answered_fewer, asks_fewer, joined_fewer, split_fewer}
use Rattle.engine.proofs.Leading.{frames_after, frames_few, leads_as, leads_extends, leads_full}

module _ (R : Ring) (closed : Closed R) (laws : Laws R) (types : List Decomposition) (capacity : ℕ) (ns : List Node) (red : Reduced R types ns) where
  -- ---- a question is answered without a split, or split

  module _ (fs : List Frame) (q : Question) (fit : Fits R types ns fs (Ask q)) where
    pub answered_turn : (r : Root) → ((c : ℕ) → outcome R types c ns q ≡ done ns r) → TurnsTo R types capacity ns fs (Ask q) ns fs (Answer r)
    answered_turn r is =
        let g = outcome_kept R closed laws types ns red q (roots_held R types ns (floor fs) q fit.asked) 0 ns r (is 0) in
        record {
          fits = record { frames = fit.frames; asked = from_earlier R types ns (top_of R types ns q) (floor fs) r (roots_top R types ns (floor fs) q fit.asked) g.root };
          fewer = answered_fewer (length types) fs q r;
          goes_on = λ start first u. record {
            grown = u.grown;
            leads = λ c le. leads_as R types c (outcome R types c start first) (outcome R types c ns q) (done ns r) fs (is c) (u.leads c le);
          };
        }

    module _ (f : Frame) (first : Question) (d : Divides R types ns q f first) where
      rises : floor fs ≤ f.fact
      rises = omega (arith, d.topmost, roots_top R types ns (floor fs) q fit.asked)

      -- there is room for one more frame
      pub few : length fs < length types
      few = omega (arith, frames_few R types ns fs fit.frames, rises, d.known)

      opened : (c : ℕ) → Opened R types c ns f (outcome R types c ns first)
      opened c =
          record {
            reduced = red;
            held = subst (RootsHeld R ns) (sym d.question) (roots_held R types ns (floor fs) q fit.asked);
            left = ap (outcome R types c ns) d.question ∙ d.left c;
          }

      pub split_turn : TurnsTo R types capacity ns fs (Ask q) ns (f ∷ fs) (Ask first)
      split_turn =
          record {
            fits = record { frames = (record { known = d.known; rises = rises; roots = d.roots.0 }, fit.frames); asked = d.roots.1 };
            fewer = split_fewer (length types) fs f q first d.known rises;
            goes_on = λ start begun u. record {
              grown = u.grown;
              leads = λ c le. (
                ns,
                opened c,
                leads_as R types c (outcome R types c start begun) (outcome R types c ns q) (outcome R types c ns f.question) fs (ap (outcome R types c ns) (sym d.question)) (u.leads c le),
              );
            };
          }

  -- ---- an answer is handed to a frame

  module _ (f : Frame) (fs : List Frame) (answer : Root) (fit : Fits R types ns (f ∷ fs) (Answer answer)) where
    pub asks_turn : (after : Frame) (q : Question) → AsksOn f answer after q → TurnsTo R types capacity ns (f ∷ fs) (Answer answer) ns (after ∷ fs) (Ask q)
    asks_turn after q a =
        let l = suc f.fact in
        let same : l ≡ suc after.fact = ap suc (sym a.fact) in
        let roots = a.roots R types ns l fit.frames.0.roots fit.asked in
        record {
          fits = record {
            frames = (
              record {
                known = omega (arith, a.fact, fit.frames.0.known);
                rises = omega (arith, a.fact, fit.frames.0.rises);
                roots = subst (λ (i : ℕ). StageFrom R types ns i after.stage) same roots.0;
              },
              fit.frames.1,
            );
            asked = subst (λ (i : ℕ). RootsFrom R types ns i q) same roots.1;
          };
          fewer = asks_fewer (length types) fs f after answer q a;
          goes_on = λ start first u. record {
            grown = u.grown;
            leads = λ c le.
                let was = u.leads c le in
                let question = ap (outcome R types c was.0) a.question in (
                  was.0,
                  record {
                    reduced = was.1.reduced;
                    held = subst (RootsHeld R was.0) (sym a.question) was.1.held;
                    left = question ∙ was.1.left ∙ a.left R types c ns;
                  },
                  leads_as R types c (outcome R types c start first) (outcome R types c was.0 f.question) (outcome R types c was.0 after.question) fs (sym question) was.2,
                );
          };
        }

    module _ (after : Frame) (low high : Root) (b : HasBoth f answer after low high) where
      roots : From R types ns (suc f.fact) low × From R types ns (suc f.fact) high
      roots = b.roots R types ns (suc f.fact) fit.frames.0.roots fit.asked

      pub joinable : Joinable R types ns f.fact low high
      joinable = record { known = fit.frames.0.known; low_held = roots.0.held; high_held = roots.1.held; low_later = roots.0.later; high_later = roots.1.later }

      -- what the frame's question comes to, where it was asked
      come_to : (c : ℕ) (before : List Node) (o : Outcome) → Opened R types c before f (done ns answer) → join R types c ns f.fact low high ≡ o → outcome R types c before f.question ≡ o
      come_to c before o was is = was.left ∙ b.left R types c ns ∙ is

      module _ (ms : List Node) (r : Root) (is : join R types capacity ns f.fact low high ≡ done ms r) where
        with_more : (c : ℕ) → capacity ≤ c → join R types c ns f.fact low high ≡ done ms r
        with_more c le = more_room R types 0 _ ns _ _ (join_held R closed laws types ns red f.fact low high joinable) 0 (omega arith) capacity c ms r is le

        kept : Grown R types ns f.fact ms r
        kept =
            let k = join_kept R closed laws types ns red capacity f.fact low high joinable ms r is in
            record { extends = k.appended; reduced = k.reduced; root = record { held = k.held; later = k.later } }

        pub joined_turn : TurnsTo R types capacity ns (f ∷ fs) (Answer answer) ms fs (Answer r)
        joined_turn =
            record {
              fits = record { frames = frames_after R types ns ms kept.extends fs fit.frames.1; asked = from_earlier R types ms f.fact (floor fs) r fit.frames.0.rises kept.root };
              fewer = joined_fewer (length types) fs f answer r;
              goes_on = λ start first u. record {
                grown = extends_trans start ns ms u.grown kept.extends;
                leads = λ c le.
                    let was = u.leads c le in
                    leads_as R types c (outcome R types c start first) (outcome R types c was.0 f.question) (done ms r) fs (come_to c was.0 (done ms r) was.1 (with_more c le)) was.2;
              };
            }

        -- the memo is told a question that was asked before, and repeats
        told : (start : List Node) (first : Question) → Underway R types capacity start first ns (f ∷ fs) (Answer answer) → Remembered R types ms (answered f.question r)
        told start first u =
            let was = u.leads capacity (omega arith) in
            let before = was.0 in
            let came = come_to capacity before (done ms r) was.1 is in
            let g = outcome_kept R closed laws types before was.1.reduced f.question was.1.held capacity ms r came in
            record {
              held = roots_held_after R types before ms g.extends f.question was.1.held;
              repeats = λ c. outcome_again R closed laws types before was.1.reduced f.question was.1.held capacity c ms ms r came (extends_self ms);
            }

        pub joined_remembers : (start : List Node) (first : Question) → Underway R types capacity start first ns (f ∷ fs) (Answer answer)
            → (es es' : List Answered) → Remembers R types ms es → Keeps es f.question r es' → Remembers R types ms es'
        joined_remembers start first u es es' old kept-only e member = elim (kept-only e member) [
          | inl was ↦ old e was
          | inr new ↦ subst (Remembered R types ms) (sym new) (told start first u)
        ]

      pub full_stop : join R types capacity ns f.fact low high ≡ full → length ns ≡ capacity → Stops R types capacity ns (f ∷ fs) (Answer answer) ns
      full_stop is long start first u =
          record {
            grown = u.grown;
            long = long;
            full =
                let was = u.leads capacity (omega arith) in
                leads_full R types capacity (outcome R types capacity start first) fs
                (leads_as R types capacity (outcome R types capacity start first) (outcome R types capacity was.0 f.question) full fs (come_to capacity was.0 full was.1 is) was.2);
            front = λ c all r more came.
                leads_extends R closed laws types c all r (f ∷ fs) ns answer red fit.frames fit.asked
                (subst (λ (result : Outcome). LeadsTo R types c result (f ∷ fs) (done ns answer)) came (u.leads c (omega arith)));
          }

  -- ---- the same, as the store tells it

  module _ (f : ℕ) (low high : Root) where
    pub joins_done : (r : Root) (after : List Node) → Joins R types capacity ns f low high (Ok r) after → join R types capacity ns f low high ≡ done after r
    joins_done r after (joined e) = e

    pub joins_full : (e : Fault) (after : List Node) → Joins R types capacity ns f low high (Err e) after
        → (e ≡ fault StoreFull 0) × (after ≡ ns) × (join R types capacity ns f low high ≡ full) × (length ns ≡ capacity)
    joins_full _ _ (overfull e long) = (refl, refl, e, long)

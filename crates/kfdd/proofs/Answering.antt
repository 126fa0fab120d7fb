-- Questions of the recipe that are answered, and how answers go together.
use Rattle.std.proofs.Common.{◌≡◌, ℕ, zero, suc, ◌<◌, ◌≤◌, max, Bool, List, length, refl, ap, ◌∙◌, inl, inr, arith}
use Rattle.std.proofs.lemmas.Bool.{cases_lt}
use Rattle.model.specs.Rings.{Ring}
use Rattle.kfdd.specs.Reduced.{Reduced}
use Rattle.kfdd.specs.Appending.{Extends}
use Rattle.kfdd.specs.Joining.{Outcome, full, done, then}
use Rattle.kfdd.proofs.Appending.{extends_self, extends_trans, extends_length}
use Rattle.kfdd.proofs.Standing.{Stands, stands_as}
use Rattle.model.specs.declared.root.Root.{Root}
use Rattle.model.specs.declared.decomposition.Decomposition.{Decomposition}
use Rattle.model.specs.declared.node.Node.{Node}

-- what is asked, by the count, the capacity and the nodes that are held
abbrev pub Question : Type 0
Question = ℕ → ℕ → List Node → Outcome

-- With every count from least on, the question leads from ns to one list and one root, which has no fact before l and is worth w.
-- The capacity only decides whether there is room. On every list that goes on from there the root is answered again, and nothing is added.
pub record Answered (R : Ring) (types : List Decomposition) (least : ℕ) (Q : Question) (ns : List Node) (l : ℕ) (w : (ℕ → Bool) → ℕ) : Type 0 where
  pub after : List Node
  pub root : Root
  pub extends : Extends ns after
  pub reduced : Reduced R types after
  pub stands : Stands R types after l w root
  pub fits : (e c : ℕ) → least ≤ e → length after ≤ max c (length ns) → Q e c ns ≡ done after root
  pub unfit : (e c : ℕ) → least ≤ e → max c (length ns) < length after → Q e c ns ≡ full
  pub again : (e c : ℕ) (ms : List Node) → least ≤ e → Extends after ms → Q e c ms ≡ done ms root

-- going on twice is going on once with both
pub then_then : (o : Outcome) (k k' : List Node → Root → Outcome) → then (then o k) k' ≡ then o (λ ns r. then (k ns r) k')
then_then full k k' = refl
then_then (done ns r) k k' = refl

module _ (R : Ring) (types : List Decomposition) where
  -- a root that is answered at once
  pub at_once : (least : ℕ) (Q : Question) (ns : List Node) (l : ℕ) (w : (ℕ → Bool) → ℕ) (r : Root) → Reduced R types ns → Stands R types ns l w r
      → ((e c : ℕ) (ms : List Node) → least ≤ e → Extends ns ms → Q e c ms ≡ done ms r) → Answered R types least Q ns l w
  at_once least Q ns l w r red s same =
      record {
        after = ns;
        root = r;
        extends = extends_self ns;
        reduced = red;
        stands = s;
        fits = λ e c le room. same e c ns le (extends_self ns);
        unfit = λ e c le room. absurd (omega arith);
        again = same;
      }

  -- one question and then another about what the first left
  pub one_then : (least : ℕ) (Q : Question) (K : Root → Question) (ns : List Node) (l m : ℕ) (w v : (ℕ → Bool) → ℕ) (first : Answered R types least Q ns l w)
      → Answered R types least (K first.root) first.after m v → Answered R types least (λ e c ms. then (Q e c ms) (λ ms₁ r. K r e c ms₁)) ns m v
  one_then least Q K ns l m w v first second =
      let longer = extends_length ns first.after first.extends in
      let longer₂ = extends_length first.after second.after second.extends in
      let on : (e c : ℕ) (ms ms₁ : List Node) (r : Root) → Q e c ms ≡ done ms₁ r → then (Q e c ms) (λ ms₁ r. K r e c ms₁) ≡ K r e c ms₁ =
      λ e c ms ms₁ r p. ap (λ o. then o (λ ms₁ r. K r e c ms₁)) p in
      record {
        after = second.after;
        root = second.root;
        extends = extends_trans ns first.after second.after first.extends second.extends;
        reduced = second.reduced;
        stands = second.stands;
        fits = λ e c le room. on e c ns first.after first.root (first.fits e c le (omega arith)) ∙ second.fits e c le (omega arith);
        unfit = λ e c le room. elim (cases_lt (max c (length ns)) (length first.after)) [
          | inl early ↦ ap (λ o. then o (λ ms₁ r. K r e c ms₁)) (first.unfit e c le early)
          | inr room₁ ↦ on e c ns first.after first.root (first.fits e c le room₁) ∙ second.unfit e c le (omega arith)
        ];
        again = λ e c ms le ext. on e c ms ms first.root (first.again e c ms le (extends_trans first.after second.after ms second.extends ext)) ∙ second.again e c ms le ext;
      }

  -- the same question in other words, on every list that goes on from here
  pub as_question : (least : ℕ) (Q Q' : Question) (ns : List Node) (l : ℕ) (w : (ℕ → Bool) → ℕ)
      → ((e c : ℕ) (ms : List Node) → least ≤ e → Extends ns ms → Q' e c ms ≡ Q e c ms) → Answered R types least Q ns l w → Answered R types least Q' ns l w
  as_question least Q Q' ns l w same a =
      record {
        after = a.after;
        root = a.root;
        extends = a.extends;
        reduced = a.reduced;
        stands = a.stands;
        fits = λ e c le room. same e c ns le (extends_self ns) ∙ a.fits e c le room;
        unfit = λ e c le room. same e c ns le (extends_self ns) ∙ a.unfit e c le room;
        again = λ e c ms le ext. same e c ms le (extends_trans ns a.after ms a.extends ext) ∙ a.again e c ms le ext;
      }

  -- a question whose count is one more
  pub one_deeper : (least : ℕ) (Q : Question) (ns : List Node) (l : ℕ) (w : (ℕ → Bool) → ℕ) → Answered R types least (λ e. Q (suc e)) ns l w → Answered R types (suc least) Q ns l w
  one_deeper least Q ns l w a =
      record {
        after = a.after;
        root = a.root;
        extends = a.extends;
        reduced = a.reduced;
        stands = a.stands;
        fits = elim [ zero ↦ λ c le room. absurd (omega arith) | suc e ↦ λ c le room. a.fits e c (omega arith) room ];
        unfit = elim [ zero ↦ λ c le room. absurd (omega arith) | suc e ↦ λ c le room. a.unfit e c (omega arith) room ];
        again = elim [ zero ↦ λ c ms le ext. absurd (omega arith) | suc e ↦ λ c ms le ext. a.again e c ms (omega arith) ext ];
      }

  -- an earlier bound and another way to say the worth
  pub as_worth : (least : ℕ) (Q : Question) (ns : List Node) (l m : ℕ) (w v : (ℕ → Bool) → ℕ) → m ≤ l → ((x : ℕ → Bool) → w x ≡ v x) → Answered R types least Q ns l w → Answered R types least Q ns m v
  as_worth least Q ns l m w v le e a =
      record {
        after = a.after;
        root = a.root;
        extends = a.extends;
        reduced = a.reduced;
        stands = stands_as R types a.after l m w v a.root le e a.stands;
        fits = a.fits;
        unfit = a.unfit;
        again = a.again;
      }

  -- a question that is asked with one count only
  pub at_count : (least : ℕ) (Q : Question) (ns : List Node) (l : ℕ) (w : (ℕ → Bool) → ℕ) (n : ℕ) → least ≤ n → Answered R types least Q ns l w → Answered R types zero (λ e. Q n) ns l w
  at_count least Q ns l w n le a =
      record {
        after = a.after;
        root = a.root;
        extends = a.extends;
        reduced = a.reduced;
        stands = a.stands;
        fits = λ e c h room. a.fits n c le room;
        unfit = λ e c h room. a.unfit n c le room;
        again = λ e c ms h ext. a.again n c ms le ext;
      }

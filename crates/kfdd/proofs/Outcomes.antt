-- What an answered question says of its outcomes.
use Rattle.std.proofs.Common.{◌≡◌, ℕ, ◌<◌, ◌≤◌, max, Bool, List, length, sym, ap, ◌∙◌, subst, inl, inr, arith}
use Rattle.std.proofs.lemmas.Bool.{cases_lt}
use Rattle.model.specs.Rings.{Ring}
use Rattle.kfdd.specs.Appending.{Extends}
use Rattle.kfdd.specs.Joining.{full, done}
use Rattle.kfdd.specs.Outcomes.{Kept, KeepsAndMeans, Repeats}
use Rattle.kfdd.proofs.Appending.{extends_self}
use Rattle.kfdd.proofs.Answering.{Question, Answered}
use Rattle.model.specs.declared.root.Root.{Root}
use Rattle.model.specs.declared.decomposition.Decomposition.{Decomposition}
use Rattle.model.specs.declared.node.Node.{Node}

pub full_not_done : (ns : List Node) (r : Root) → full ≡ done ns r → ⊥
full_not_done ns r e = let z : ◌≡◌ {A = ℕ} 0 1 = cc in omega arith

module _ (R : Ring) (types : List Decomposition) (least : ℕ) (Q : Question) (ns : List Node) (l : ℕ) (w : (ℕ → Bool) → ℕ) (a : Answered R types least Q ns l w) (e : ℕ) (le : least ≤ e) where
  -- the one way to be done
  record Ended (ms : List Node) (r : Root) : Type 0 where
    list : a.after ≡ ms
    answer : a.root ≡ r

  ended : (c : ℕ) (ms : List Node) (r : Root) → Q e c ns ≡ done ms r → Ended ms r
  ended c ms r p = elim (cases_lt (max c (length ns)) (length a.after)) [
    | inl short ↦ absurd (full_not_done ms r (sym (a.unfit e c le short) ∙ p))
    | inr room ↦ let same : done a.after a.root ≡ done ms r = sym (a.fits e c le room) ∙ p in record { list = cc; answer = cc }
  ]

  answered_kept : Kept R types ns l w a.after a.root
  answered_kept = record { appended = a.extends; reduced = a.reduced; held = a.stands.held; later = a.stands.later; worth = a.stands.worth }

  pub done_kept : (c : ℕ) (ms : List Node) (r : Root) → Q e c ns ≡ done ms r → Kept R types ns l w ms r
  done_kept c ms r p =
      let d = ended c ms r p in
      subst (λ list. Kept R types ns l w list r) d.list (subst (Kept R types ns l w a.after) d.answer answered_kept)

  pub answered_means : KeepsAndMeans R types ns l w (λ c. Q e c ns)
  answered_means = record { keeps = done_kept; enough = length a.after; ends = (a.after, a.root, a.fits e (length a.after) le (omega arith)) }

  -- asked again on any list that goes on from what it left
  pub done_again : (c c' : ℕ) (ms ms' : List Node) (r : Root) → Q e c ns ≡ done ms r → Extends ms ms' → Q e c' ms' ≡ done ms' r
  done_again c c' ms ms' r p ext =
      let d = ended c ms r p in
      subst (λ (root : Root). Q e c' ms' ≡ done ms' root) d.answer (a.again e c' ms' le (subst (λ list. Extends list ms') (sym d.list) ext))

  done_alike : (c c' : ℕ) (ms ms' : List Node) (r r' : Root) → Q e c ns ≡ done ms r → Q e c' ns ≡ done ms' r' → (ms ≡ ms') × (r ≡ r')
  done_alike c c' ms ms' r r' p p' =
      let d = ended c ms r p in
      let d' = ended c' ms' r' p' in
      (sym d.list ∙ d'.list, sym d.answer ∙ d'.answer)

  -- with room for the nodes of a run it is done like that run, and without it is full
  pub fits_done : (c c' : ℕ) (ms : List Node) (r : Root) → Q e c ns ≡ done ms r → length ms ≤ max c' (length ns) → Q e c' ns ≡ done ms r
  fits_done c c' ms r p room =
      let d = ended c ms r p in
      let same : done a.after a.root ≡ done ms r = cc in
      a.fits e c' le (omega (arith, ap length d.list)) ∙ same

  pub unfit_full : (c c' : ℕ) (ms : List Node) (r : Root) → Q e c ns ≡ done ms r → max c' (length ns) < length ms → Q e c' ns ≡ full
  unfit_full c c' ms r p short = let d = ended c ms r p in a.unfit e c' le (omega (arith, ap length d.list))

  -- what is done is done with more room
  pub more_room : (c c' : ℕ) (ms : List Node) (r : Root) → Q e c ns ≡ done ms r → c ≤ c' → Q e c' ns ≡ done ms r
  more_room c c' ms r p le = elim (cases_lt (max c (length ns)) (length ms)) [
    | inl short ↦ absurd (full_not_done ms r (sym (unfit_full c c ms r p short) ∙ p))
    | inr room ↦ fits_done c c' ms r p (omega arith)
  ]

  full_unfit : (c c' : ℕ) (ms : List Node) (r : Root) → Q e c ns ≡ done ms r → Q e c' ns ≡ full → c' < length ms
  full_unfit c c' ms r p f = elim (cases_lt c' (length ms)) [
    | inl short ↦ short
    | inr room ↦ absurd (full_not_done ms r (sym f ∙ fits_done c c' ms r p (omega arith)))
  ]

  pub answered_repeats : Repeats (λ c ms. Q e c ms) ns
  answered_repeats =
      record {
        repeats = λ c c' ms r p. done_again c c' ms ms r p (extends_self ms);
        grows = λ c c' r p ms ext. done_again c c' ns ms r p ext;
        alike = done_alike;
        full_exactly = λ c c' ms r p long. (full_unfit c c' ms r p, λ short. unfit_full c c' ms r p (omega arith));
      }

  -- every count that is enough does the same
  pub any_count : (e' c : ℕ) → least ≤ e' → Q e c ns ≡ Q e' c ns
  any_count e' c le' = elim (cases_lt (max c (length ns)) (length a.after)) [
    | inl short ↦ a.unfit e c le short ∙ sym (a.unfit e' c le' short)
    | inr room ↦ a.fits e c le room ∙ sym (a.fits e' c le' room)
  ]

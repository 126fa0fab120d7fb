-- The gates that a formula makes are worth what the formula says.
use Rattle.std.proofs.Common.{◌≡◌, ℕ, ◌+◌, ◌<◌, Bool, List, [], ◌∷◌, ◌++◌, length, Some, All, sym, refl, ap, ◌∙◌, subst, arith}
use Rattle.std.proofs.lemmas.List.{append_assoc, append-nil, get_or_append_left, get_or-append-add, length-append}
use Rattle.std.proofs.lemmas.List.Elements.{All-head}
use Rattle.model.specs.Gates.{one_argument, two_arguments}
use Rattle.model.specs.Nets.{operation, signal_value, values_after}
use Rattle.model.specs.Rings.{Ring}
use Rattle.model.specs.declared.gate.Gate.{Gate}
use Rattle.model.specs.declared.gate.GateKind.{GateKind}
use Rattle.model.specs.declared.gate.GateKind.TheVariants.{Sum, Times, Minus, Not, Or}
use Rattle.sheets.specs.Formulas.{Formula, Part, Term, Factor, one_part, either, one_term, plus, less, one_factor, times, negated, bracketed, word, numeral}
use Rattle.sheets.specs.Formulas.{formula_names, part_names, term_names, factor_names, formula_value, part_value, term_value, factor_value, formula_made, part_made, term_made, factor_made}
use Rattle.sheets.specs.Formulas.{after_one, after_two, constant, Making, standing}
use Rattle.sheets.specs.Sides.{Emitted, Word, written}
use Rattle.sheets.proofs.GrownNets.{added, after_added, after_append, after_length, one_worth, signal_after, signal_last, signal_stays, two_worth}

module _ {X : Type 0} (P : X → Type 0) where
  all_front : (xs ys : List X) → All P (xs ++ ys) → All P xs
  all_front xs ys h k d lt = subst P (get_or_append_left xs ys d k lt) (h k d (omega (arith, length-append xs ys)))

  all_back : (xs ys : List X) → All P (xs ++ ys) → All P ys
  all_back xs ys h k d lt = subst P (get_or-append-add xs ys k d) (h (length xs + k) d (omega (arith, length-append xs ys)))

module _ (R : Ring) (facts : ℕ) (x : ℕ → Bool) where
  -- what is made has a signal that is there then, and that has a value
  pub record Worth (vs : List ℕ) (e : Emitted) (value : ℕ) : Type 0 where
    pub there : e.signal < facts + length vs + length e.gates
    pub worth : signal_value R facts x (values_after R facts x vs e.gates) e.signal ≡ value

  -- so it is wherever the net goes on from vs
  abbrev Means : List ℕ → Making → ℕ → Type 0
  Means vs m value = (us : List ℕ) → Worth (vs ++ us) (m (facts + length (vs ++ us))) value

  module _ (vs : List ℕ) where
    means_standing : (s a : ℕ) → s < facts + length vs → signal_value R facts x vs s ≡ a → Means vs (standing s) a
    means_standing s a lt e us = record { there = omega (arith, length-append vs us); worth = signal_stays R facts x vs us s lt ∙ e }

    means_constant : (n : ℕ) → Means vs (constant n) n
    means_constant n us = record { there = omega arith; worth = signal_last R facts x (vs ++ us) n (facts + length (vs ++ us)) refl }

    module _ (us : List ℕ) where
      abbrev here : List ℕ
      here = vs ++ us

      -- the net with what a making adds goes on from vs
      goes_on : (gs : List Gate) → values_after R facts x here gs ≡ vs ++ (us ++ added R facts x here gs)
      goes_on gs = after_added R facts x here gs ∙ append_assoc vs us (added R facts x here gs)

      later_next : (gs : List Gate) → facts + length here + length gs ≡ facts + length (vs ++ (us ++ added R facts x here gs))
      later_next gs = let long = after_length R facts x here gs in let same = ap length (goes_on gs) in omega arith

    means_one : (k : GateKind) (m : Making) (a v : ℕ) → Means vs m a → ((b : ℕ) → operation R (Some k) 0 a b ≡ v) → Means vs (after_one k m) v
    means_one k m a v means is us =
        let e = m (facts + length (here us)) in
        let w = values_after R facts x (here us) e.gates in
        let g = one_argument k e.signal in
        let long = after_length R facts x (here us) e.gates in
        record {
          there = omega (arith, length-append e.gates (g ∷ []));
          worth = ap (λ ws. signal_value R facts x ws (facts + length (here us) + length e.gates)) (after_append R facts x (here us) e.gates (g ∷ []))
              ∙ signal_last R facts x w _ _ (omega arith) ∙ one_worth R facts x w k e.signal a (means us).worth ∙ is _;
        }

    means_two : (k : GateKind) (m n : Making) (a b v : ℕ) → Means vs m a → Means vs n b → operation R (Some k) 0 a b ≡ v → Means vs (after_two k m n) v
    means_two k m n a b v left right is us =
        let next = facts + length (here us) in
        let e = m next in
        let w = values_after R facts x (here us) e.gates in
        let more = us ++ added R facts x (here us) e.gates in
        let f = n (next + length e.gates) in
        let same : Worth w f b =
        subst (λ ws. Worth ws (n (next + length e.gates)) b) (sym (goes_on us e.gates)) (subst (λ k. Worth (vs ++ more) (n k) b) (sym (later_next us e.gates)) (right more)) in
        let z = values_after R facts x w f.gates in
        let g = two_arguments k e.signal f.signal in
        let long : length w ≡ length (here us) + length e.gates = after_length R facts x (here us) e.gates in
        let longer : length z ≡ length w + length f.gates = after_length R facts x w f.gates in
        let all : values_after R facts x (here us) (e.gates ++ (f.gates ++ (g ∷ []))) ≡ values_after R facts x z (g ∷ []) =
        after_append R facts x (here us) e.gates (f.gates ++ (g ∷ [])) ∙ after_append R facts x w f.gates (g ∷ []) in
        let first : signal_value R facts x z e.signal ≡ a = signal_after R facts x w f.gates e.signal (omega (arith, (left us).there)) ∙ (left us).worth in
        record {
          there = omega (arith, length-append e.gates (f.gates ++ (g ∷ [])), length-append f.gates (g ∷ []));
          worth = ap (λ ws. signal_value R facts x ws (next + length e.gates + length f.gates)) all
              ∙ signal_last R facts x z _ _ (omega arith) ∙ two_worth R facts x z k e.signal f.signal a b first same.worth ∙ is;
        }

    module _ (signal worths : List ℕ → ℕ) where
      -- a name stands for a signal that is there, and that has the value that the name is worth
      abbrev pub Stands : Word → Type 0
      Stands w = (signal (written w) < facts + length vs) × (signal_value R facts x vs (signal (written w)) ≡ worths (written w))

      mutual
        formula_means : (f : Formula) → All Stands (formula_names f) → Means vs (formula_made signal f) (formula_value R worths f)
        formula_means (one_part p) stand = part_means p stand
        formula_means (either f p) stand =
            means_two Or (formula_made signal f) (part_made signal p) _ _ _ (formula_means f (all_front Stands (formula_names f) (part_names p) stand)) (part_means p (all_back Stands (formula_names f) (part_names p) stand)) refl

        part_means : (p : Part) → All Stands (part_names p) → Means vs (part_made signal p) (part_value R worths p)
        part_means (one_term t) stand = term_means t stand
        part_means (plus p t) stand =
            means_two Sum (part_made signal p) (term_made signal t) _ _ _ (part_means p (all_front Stands (part_names p) (term_names t) stand)) (term_means t (all_back Stands (part_names p) (term_names t) stand)) refl
        part_means (less p t) stand =
            means_two Sum (part_made signal p) (after_one Minus (term_made signal t)) _ _ _ (part_means p (all_front Stands (part_names p) (term_names t) stand))
            (means_one Minus (term_made signal t) _ _ (term_means t (all_back Stands (part_names p) (term_names t) stand)) (λ b. refl)) refl

        term_means : (t : Term) → All Stands (term_names t) → Means vs (term_made signal t) (term_value R worths t)
        term_means (one_factor f) stand = factor_means f stand
        term_means (times t f) stand =
            means_two Times (term_made signal t) (factor_made signal f) _ _ _ (term_means t (all_front Stands (term_names t) (factor_names f) stand)) (factor_means f (all_back Stands (term_names t) (factor_names f) stand)) refl

        factor_means : (f : Factor) → All Stands (factor_names f) → Means vs (factor_made signal f) (factor_value R worths f)
        factor_means (negated f) stand = means_one Not (factor_made signal f) _ _ (factor_means f stand) (λ b. refl)
        factor_means (bracketed f) stand = formula_means f stand
        factor_means (word w) stand = let here = All-head Stands w [] stand in means_standing (signal (written w)) (worths (written w)) here.0 here.1
        factor_means (numeral n) stand = means_constant n.value

      -- in the net itself
      pub formula_worth : (f : Formula) → All Stands (formula_names f) → Worth vs (formula_made signal f (facts + length vs)) (formula_value R worths f)
      formula_worth f stand = subst (λ ws. Worth ws (formula_made signal f (facts + length ws)) (formula_value R worths f)) (append-nil vs) (formula_means f stand [])

-- Which lines of an order sheet have a form.
use Rattle.std.proofs.Common.{◌≡◌, ℕ, List, [], ◌∷◌, drop, ◌≤◌, Ok, Err, MatchResult, Result, sym, refl, ap, ◌∙◌}
use Rattle.model.specs.Letters.{letter_of}
use Rattle.model.specs.Orders.{Adds, nameless, known, full}
use Rattle.model.specs.Spelling.{spelling}
use Rattle.model.specs.declared.decomposition.Decomposition.{Decomposition}
use Rattle.model.specs.declared.fact.Fact.{Fact}
use Rattle.model.specs.declared.fault.Refusal.{Refusal}
use Rattle.model.specs.declared.name.Name.{Name}
use Rattle.model.specs.Refusals.{fault}
use Rattle.model.specs.declared.fault.Fault.{Fault}
use Rattle.sheets.specs.Lines.{Line}
use Rattle.sheets.specs.OrderSheets.{FactLine, FactStep, StepRefused, turned_down, taken}
use Rattle.sheets.specs.Tokens.{brackets, Next, tokens}
use Rattle.sheets.specs.declared.token.Token.TheVariants.{LineEnd, Identifier, TypeLetter}

module _ (ts : List (List ℕ)) where
  pub no_letter : ((t : Decomposition) (rest : List (List ℕ)) → Next ts (TypeLetter t) rest → ⊥) → (f : Fact) → FactLine ts f → ⊥
  no_letter none f line = none f.decomposition (spelling f.name ∷ []) line.written

  module _ (t : Decomposition) (us : List (List ℕ)) (first : Next ts (TypeLetter t) us) where
    -- what follows the letter of a line that has the form
    after_letter : (f : Fact) → FactLine ts f → us ≡ spelling f.name ∷ []
    after_letter f line = ap (drop 1) (sym first ∙ line.written)

    pub no_name : ((n : Name) (rest : List (List ℕ)) → Next us (Identifier n) rest → ⊥) → (f : Fact) → FactLine ts f → ⊥
    no_name none f line = none f.name [] (after_letter f line, line.named)

    module _ (n : Name) (vs : List (List ℕ)) (second : Next us (Identifier n) vs) where
      pub no_end : ((rest : List (List ℕ)) → Next vs LineEnd rest → ⊥) → (f : Fact) → FactLine ts f → ⊥
      no_end none f line = none [] (ap (drop 1) (sym second.0 ∙ after_letter f line), refl)

      pub fact_line : (rest : List (List ℕ)) → Next vs LineEnd rest → FactLine ts (record { decomposition = t; name = n })
      fact_line rest end = record {
        written = first ∙ ap (λ ws. (letter_of t ∷ []) ∷ ws) (second.0 ∙ ap (λ ws. spelling n ∷ ws) end.0);
        named = second.1;
      }

-- an order that refuses a fact stays as it was
pub kept_if_refused : (fs gs : List Fact) (f : Fact) (refusal : Refusal) → Adds fs f (Err refusal) gs → Adds fs f (Err refusal) fs
kept_if_refused fs _ f _ (nameless h) = nameless h
kept_if_refused fs _ f _ (known h k) = known h k
kept_if_refused fs _ f _ (full h k l) = full h k l

-- the line of a fact, by what the order answers
pub fact_answered : (fs gs : List Fact) (f : Fact) (l : Line) (place : ℕ) → place ≡ l.first → brackets (tokens l.bytes) ≤ 32 → FactLine (tokens l.bytes) f
    → (answer : Result (Unit {0}) Refusal) (r : Result (Unit {0}) Fault) → Adds fs f answer gs → MatchResult answer (λ x. r ≡ Ok x) (λ refusal. r ≡ Err (fault refusal place))
    → MatchResult r (λ _. FactStep fs (tokens l.bytes) (Ok gs)) (λ e. StepRefused fs l e)
fact_answered fs gs f l place at few form (Ok x) r adds is = rw is (taken few f gs form adds)
fact_answered fs gs f l place at few form (Err refusal) r adds is = rw is (refusal, ap (fault refusal) at, turned_down few f refusal form (kept_if_refused fs gs f refusal adds))

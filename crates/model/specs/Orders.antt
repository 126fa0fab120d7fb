-- The facts that an order holds, and what adding one does.
use Rattle.std.specs.Prelude.{◌≡◌, ◌<◌, List, [], ◌∷◌, ◌++◌, length, take, Ok, Err, Result}
use Rattle.model.specs.declared.fact.Fact.{Fact}
use Rattle.model.specs.declared.fault.Refusal.{Refusal}
use Rattle.model.specs.declared.fault.Refusal.TheVariants.{NoForm, NamedTwice, TooManyFacts}
use Rattle.model.specs.declared.order.Order.{Order}
use Rattle.model.specs.Facts.{Named}
use Rattle.model.specs.Spelling.{spelling}

abbrev pub facts_of : Order → List Fact
facts_of order = take order.len order.facts

-- what adding f to an order of the facts fs answers, and which facts it then has
pub data Adds (fs : List Fact) (f : Fact) : Result (Unit {0}) Refusal → List Fact → Type 0 where
  nameless : spelling f.name ≡ [] → Adds fs f (Err NoForm) fs
  known : 0 < length (spelling f.name) → Named fs (spelling f.name) → Adds fs f (Err NamedTwice) fs
  full : 0 < length (spelling f.name) → (Named fs (spelling f.name) → ⊥) → length fs ≡ 40 → Adds fs f (Err TooManyFacts) fs
  added : 0 < length (spelling f.name) → (Named fs (spelling f.name) → ⊥) → length fs < 40 → Adds fs f (Ok tt) (fs ++ (f ∷ []))

-- Adding a fact has one answer, and leaves one list.
use Rattle.std.proofs.Common.{◌≡◌, ◌<◌, List, [], ◌∷◌, ◌++◌, length, Ok, Result, refl, ap, arith}
use Rattle.model.specs.Orders.{Adds, nameless, known, full, added}
use Rattle.model.specs.Spelling.{spelling}
use Rattle.model.specs.declared.fact.Fact.{Fact}
use Rattle.model.specs.declared.fault.Refusal.{Refusal}

named_or_not : (f : Fact) → spelling f.name ≡ [] → 0 < length (spelling f.name) → ⊥
named_or_not f none some = omega (arith, ap length none)

pub one_answer : (fs gs hs : List Fact) (f : Fact) (r s : Result (Unit {0}) Refusal) → Adds fs f r gs → Adds fs f s hs → r ≡ s
one_answer fs _ _ f _ _ (nameless h) (nameless k) = refl
one_answer fs _ _ f _ _ (nameless h) (known k m) = absurd (named_or_not f h k)
one_answer fs _ _ f _ _ (nameless h) (full k m l) = absurd (named_or_not f h k)
one_answer fs _ _ f _ _ (nameless h) (added k m l) = absurd (named_or_not f h k)
one_answer fs _ _ f _ _ (known h n) (nameless k) = absurd (named_or_not f k h)
one_answer fs _ _ f _ _ (known h n) (known k m) = refl
one_answer fs _ _ f _ _ (known h n) (full k m l) = absurd (m n)
one_answer fs _ _ f _ _ (known h n) (added k m l) = absurd (m n)
one_answer fs _ _ f _ _ (full h n l) (nameless k) = absurd (named_or_not f k h)
one_answer fs _ _ f _ _ (full h n l) (known k m) = absurd (n m)
one_answer fs _ _ f _ _ (full h n l) (full k m o) = refl
one_answer fs _ _ f _ _ (full h n l) (added k m o) = absurd (omega arith)
one_answer fs _ _ f _ _ (added h n l) (nameless k) = absurd (named_or_not f k h)
one_answer fs _ _ f _ _ (added h n l) (known k m) = absurd (n m)
one_answer fs _ _ f _ _ (added h n l) (full k m o) = absurd (omega arith)
one_answer fs _ _ f _ _ (added h n l) (added k m o) = refl

-- where it is answered, the fact is at the end
pub added_last : (fs gs : List Fact) (f : Fact) → Adds fs f (Ok tt) gs → gs ≡ fs ++ (f ∷ [])
added_last fs _ f (added h n l) = refl

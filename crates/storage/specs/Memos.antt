-- What a memo holds, answers and keeps.
use Rattle.std.specs.Prelude.{◌≡◌, ◌⊎◌, List, [], ◌∷◌, Some, None, Option, ◌≢◌}
use Rattle.model.specs.declared.root.Root.{Root}
use Rattle.storage.specs.declared.question.Answered.{Answered}
use Rattle.storage.specs.declared.question.Question.{Question}

abbrev pub answered : Question → Root → Answered
answered question answer = record { question = question; answer = answer }

-- an answered question is one of these
abbrev pub Member : Answered → List Answered → Type 0
Member e [] = ⊥
Member e (f ∷ fs) = (e ≡ f) ⊎ Member e fs

-- no question stands twice
abbrev pub NoneTwice : List Answered → Type 0
NoneTwice [] = Unit {0}
NoneTwice (e ∷ es) = ((f : Answered) → Member f es → f.question ≢ e.question) × NoneTwice es

-- what a memo that holds these answers to a question
abbrev pub Recalls : List Answered → Question → Option Root → Type 0
Recalls es q None = (a : Root) → Member (answered q a) es → ⊥
Recalls es q (Some a) = Member (answered q a) es

-- only old members are left, and perhaps the new one
abbrev pub Keeps : List Answered → Question → Root → List Answered → Type 0
Keeps before q a after = (e : Answered) → Member e after → Member e before ⊎ (e ≡ answered q a)

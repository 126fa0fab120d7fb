-- What lies in slots.
use Rattle.std.specs.Prelude.{◌≡◌, ℕ, suc, ◌+◌, ◌%◌, ◌<◌, Bool, true, false, cond, List, [], ◌∷◌, length, Some, None, Option, ◌==◌, ◌≢◌, refl}
use Rattle.std.proofs.Common.{sym, ap, ◌∙◌, inl, inr, arith}
use Rattle.std.specs.List.{slice_get}
use Rattle.model.specs.declared.root.Root.{Root}
use Rattle.storage.specs.Hashes.{question_hash}
use Rattle.storage.specs.Memos.{answered, Member, NoneTwice}
use Rattle.storage.specs.declared.question.Answered.{Answered}
use Rattle.storage.specs.declared.question.Question.{Question}

-- the answered questions in slots
abbrev pub answers_in : List (Option Answered) → List Answered
answers_in [] = []
answers_in (None ∷ slots) = answers_in slots
answers_in (Some e ∷ slots) = e ∷ answers_in slots

-- the slot that a question's hash falls on, of so many
abbrev pub home : ℕ → Question → Option ℕ
home count q = cond (count == 0) None (Some (question_hash q % count))

-- each answered question lies in the slot that its hash falls on
abbrev pub AtHome : List (Option Answered) → Type 0
AtHome slots = (i : ℕ) (e : Answered) → slice_get slots i ≡ Some (Some e) → home (length slots) e.question ≡ Some i

-- of so many slots the new answer has its own, and each answer that lies in another one stays
pub record Replaces (count : ℕ) (before : List Answered) (q : Question) (a : Root) (after : List Answered) : Type 0 where
  pub kept : 0 < count → Member (answered q a) after
  pub others : (e : Answered) → Member e before → (home count e.question ≢ home count q) → Member e after

-- ---- so no question stands twice

pub member_slot : (slots : List (Option Answered)) (e : Answered) → Member e (answers_in slots) → (i : ℕ) × (slice_get slots i ≡ Some (Some e))
member_slot [] e m = absurd m
member_slot (None ∷ slots) e m = let rest = member_slot slots e m in (suc rest.0, rest.1)
member_slot (Some f ∷ slots) e (inl is) = (0, ap (λ x. Some (Some x)) (sym is))
member_slot (Some f ∷ slots) e (inr m) = let rest = member_slot slots e m in (suc rest.0, rest.1)

-- the slots from the k-th on
module _ (place : Question → Option ℕ) where
  from_home : (k : ℕ) (slots : List (Option Answered)) → ((i : ℕ) (e : Answered) → slice_get slots i ≡ Some (Some e) → place e.question ≡ Some (k + i)) → NoneTwice (answers_in slots)
  from_home k [] at = tt
  from_home k (None ∷ slots) at = from_home (suc k) slots (λ i e is. at (suc i) e is ∙ ap Some (omega arith))
  from_home k (Some e ∷ slots) at = (
    λ f m same.
        let slot = member_slot slots f m in
        let both : ◌≡◌ {A = Option ℕ} (Some (k + suc slot.0)) (Some (k + 0)) = sym (at (suc slot.0) f slot.1) ∙ ap place same ∙ at 0 e refl in
        let one : k + suc slot.0 ≡ k + 0 = cc in
        omega arith,
    from_home (suc k) slots (λ i f is. at (suc i) f is ∙ ap Some (omega arith)),
  )

pub none_twice : (slots : List (Option Answered)) → AtHome slots → NoneTwice (answers_in slots)
none_twice slots at = from_home (home (length slots)) 0 slots (λ i e is. at i e is ∙ ap Some (omega arith))

-- of a memo that is used, or that holds nothing
pub once_at_home : (used : Bool) (slots : List (Option Answered)) → (used ≡ true → AtHome slots) → NoneTwice (cond used (answers_in slots) [])
once_at_home true slots at = none_twice slots (at refl)
once_at_home false slots at = tt

-- What lies in slots, each answered question in the slot that its hash falls on.
use Rattle.std.proofs.Common.{◌≡◌, ℕ, zero, suc, ◌%◌, ◌<◌, Bool, true, false, eqb, Decides, List, [], ◌∷◌, length, get_or, replicate, set, Some, None, Option, sym, refl, ap, ◌∙◌, subst, inl, inr, ⊎_elim, arith}
use Rattle.std.proofs.lemmas.Nat.{mod_below}
use Rattle.std.proofs.lemmas.List.{length-set}
use Rattle.std.proofs.lemmas.Option.{slice_get-get_or, none-some, same_Some}
use Rattle.std.proofs.lemmas.Bool.{cases_eq, cond-true, cond-false, eq-eqb, ne_eqb, true≢false}
use Rattle.std.proofs.lemmas.Bool.Decides.{Decides-and, Decides-like}
use Rattle.std.specs.List.{slice_get}
use Rattle.model.specs.declared.root.Root.{Root}
use Rattle.std.specs.Bool.{then_some}
use Rattle.storage.specs.Hashes.{question_hash}
use Rattle.storage.specs.Memos.{answered, Keeps, Member, Recalls}
use Rattle.storage.specs.NodeKeys.{same_root_decides}
use Rattle.storage.specs.Slots.{answers_in, home, member_slot, AtHome, Replaces}
use Rattle.storage.specs.declared.question.Answered.{Answered}
use Rattle.storage.specs.contracts.question.QuestionPartialEq.TheImpl as question_equality
use Rattle.storage.specs.declared.question.Question.{Question}
use Rattle.storage.specs.declared.question.Question.TheVariants.{Sum, Minus, Times}

abbrev same_question : Question → Question → Bool
same_question = (question_equality.ghosts).eq

-- ---- slots by their numbers

nth_set_same : {X : Type 0} (xs : List X) (i : ℕ) (x : X) → i < length xs → slice_get (set xs i x) i ≡ Some x
nth_set_same [] i x lt = absurd (omega arith)
nth_set_same (y ∷ xs) zero x lt = refl
nth_set_same (y ∷ xs) (suc i) x lt = nth_set_same xs i x (omega arith)

nth_set_other : {X : Type 0} (xs : List X) (i j : ℕ) (x : X) → (j ≡ i → ⊥) → slice_get (set xs i x) j ≡ slice_get xs j
nth_set_other [] i j x ne = refl
nth_set_other (y ∷ xs) zero zero x ne = absurd (ne refl)
nth_set_other (y ∷ xs) zero (suc j) x ne = refl
nth_set_other (y ∷ xs) (suc i) zero x ne = refl
nth_set_other (y ∷ xs) (suc i) (suc j) x ne = nth_set_other xs i j x (λ e. ne (ap suc e))

pub slot_member : (slots : List (Option Answered)) (i : ℕ) (e : Answered) → slice_get slots i ≡ Some (Some e) → Member e (answers_in slots)
slot_member [] i e is = absurd (none-some (Some e) is)
slot_member (None ∷ slots) zero e is = absurd (none-some e (same_Some None (Some e) is))
slot_member (None ∷ slots) (suc i) e is = slot_member slots i e is
slot_member (Some f ∷ slots) zero e is = inl (sym (same_Some f e (same_Some (Some f) (Some e) is)))
slot_member (Some f ∷ slots) (suc i) e is = inr (slot_member slots i e is)

-- ---- asking

home_some : (count : ℕ) (q : Question) → (count ≡ 0 → ⊥) → home count q ≡ Some (question_hash q % count)
home_some count q some = cond-false (eqb count 0) None (Some (question_hash q % count)) (ne_eqb count 0 some)

home_none : (count : ℕ) (q : Question) → count ≡ 0 → home count q ≡ None
home_none count q none = cond-true (eqb count 0) None (Some (question_hash q % count)) (eq-eqb count 0 none)

pub home_inside : (count : ℕ) (q : Question) (h : ℕ) → home count q ≡ Some h → h < count
home_inside count q h is =
    ⊎_elim
    (λ none. absurd (none-some h (sym (home_none count q none) ∙ is)))
    (λ some. let value : question_hash q % count ≡ h = same_Some _ _ (sym (home_some count q some) ∙ is) in omega (arith, mod_below (question_hash q) count (omega arith)))
    (cases_eq count 0)

-- where there is no slot nothing lies
pub no_slots : (slots : List (Option Answered)) (q : Question) → home (length slots) q ≡ None → answers_in slots ≡ []
no_slots [] q none = refl
no_slots (s ∷ slots) q none = absurd (none-some (question_hash q % length (s ∷ slots)) (sym none ∙ home_some (length (s ∷ slots)) q (λ e. omega arith)))

-- without slots nothing is kept, and nothing was there
pub replaces_none : (count : ℕ) (q : Question) (a : Root) (before after : List Answered) → home count q ≡ None → Replaces count before q a after
replaces_none count q a before after none =
    let no_slot : count ≡ 0 = ⊎_elim (λ e. e) (λ some. absurd (none-some _ (sym none ∙ home_some count q some))) (cases_eq count 0) in
    record {
      kept = λ some. absurd (omega arith);
      others = λ e m apart. absurd (apart (home_none count e.question no_slot ∙ sym (home_none count q no_slot)));
    }

-- a slot by itself
alone : (s : Option Answered) (e : Answered) → Member e (answers_in (s ∷ [])) → s ≡ Some e
alone None e m = absurd m
alone (Some f) e (inl is) = ap Some (sym is)
alone (Some f) e (inr m) = absurd m

question_decides : (x y : Question) → Decides (same_question x y) (x ≡ y)
question_decides (Sum a b) (Sum c d) = Decides-like _ (λ p i. Sum (p.0 i) (p.1 i)) (λ e. (cc, cc)) (Decides-and _ _ (same_root_decides a c) (same_root_decides b d))
question_decides (Minus a) (Minus c) = Decides-like _ (ap Minus) (λ e. cc) (same_root_decides a c)
question_decides (Times a b) (Times c d) = Decides-like _ (λ p i. Times (p.0 i) (p.1 i)) (λ e. (cc, cc)) (Decides-and _ _ (same_root_decides a c) (same_root_decides b d))
question_decides (Sum a b) (Minus c) = (λ t. absurd (true≢false (sym t)), λ e. cc)
question_decides (Sum a b) (Times c d) = (λ t. absurd (true≢false (sym t)), λ e. cc)
question_decides (Minus a) (Sum c d) = (λ t. absurd (true≢false (sym t)), λ e. cc)
question_decides (Minus a) (Times c d) = (λ t. absurd (true≢false (sym t)), λ e. cc)
question_decides (Times a b) (Sum c d) = (λ t. absurd (true≢false (sym t)), λ e. cc)
question_decides (Times a b) (Minus c) = (λ t. absurd (true≢false (sym t)), λ e. cc)

-- what the answered question in a slot tells of another one
pub recalls_held : (q : Question) (e : Answered) (b : Bool) → b ≡ same_question e.question q → (r : Option Root) → r ≡ then_some b e.answer → Recalls (e ∷ []) q r
recalls_held q e true test r is = subst (Recalls (e ∷ []) q) (sym is) (inl (ap (λ t. answered t e.answer) (sym ((question_decides e.question q).0 (sym test)))))
recalls_held q e false test r is = subst (Recalls (e ∷ []) q) (sym is) (λ a m. ⊎_elim (λ same. true≢false (sym ((question_decides e.question q).1 (sym (ap (λ f. f.question) same))) ∙ sym test)) (λ none. none) m)

module _ (slots : List (Option Answered)) (at : AtHome slots) (q : Question) (h : ℕ) (here : home (length slots) q ≡ Some h) where
  inside : h < length slots
  inside = home_inside (length slots) q h here

  -- what lies in the question's slot
  slot_here : slice_get slots h ≡ Some (get_or slots h None)
  slot_here = slice_get-get_or slots h None inside

  -- an answer to the question lies in its slot
  only_here : (a : Root) → Member (answered q a) (answers_in slots) → get_or slots h None ≡ Some (answered q a)
  only_here a m =
      let slot = member_slot slots (answered q a) m in
      let same : h ≡ slot.0 = same_Some h slot.0 (sym here ∙ at slot.0 (answered q a) slot.1) in
      same_Some _ _ (sym slot_here ∙ ap (slice_get slots) same ∙ slot.1)

  pub recalls_slot : (r : Option Root) → Recalls (answers_in (get_or slots h None ∷ [])) q r → Recalls (answers_in slots) q r
  recalls_slot None none = λ a m. none a (subst (λ s. Member (answered q a) (answers_in (s ∷ []))) (sym (only_here a m)) (inl refl))
  recalls_slot (Some a) m = slot_member slots h (answered q a) (slot_here ∙ ap Some (alone (get_or slots h None) (answered q a) m))

  -- ---- keeping

  module _ (a : Root) where
    pub keeps_slot : Keeps (answers_in slots) q a (answers_in (set slots h (Some (answered q a))))
    keeps_slot e m =
        let slot = member_slot (set slots h (Some (answered q a))) e m in
        ⊎_elim
        (λ same. inr (sym (same_Some (answered q a) e (same_Some _ _ (sym (nth_set_same slots h (Some (answered q a)) inside) ∙ ap (slice_get (set slots h (Some (answered q a)))) (sym same) ∙ slot.1)))))
        (λ other. inl (slot_member slots slot.0 e (sym (nth_set_other slots h slot.0 (Some (answered q a)) other) ∙ slot.1)))
        (cases_eq slot.0 h)

    pub replaces_slot : Replaces (length slots) (answers_in slots) q a (answers_in (set slots h (Some (answered q a))))
    replaces_slot = record {
      kept = λ _. slot_member (set slots h (Some (answered q a))) h (answered q a) (nth_set_same slots h (Some (answered q a)) inside);
      others = λ e m apart.
          let slot = member_slot slots e m in
          let other : slot.0 ≡ h → ⊥ = λ same. apart (at slot.0 e slot.1 ∙ ap Some same ∙ sym here) in
          slot_member (set slots h (Some (answered q a))) slot.0 e (nth_set_other slots h slot.0 (Some (answered q a)) other ∙ slot.1);
    }

    pub home_slot : AtHome (set slots h (Some (answered q a)))
    home_slot i e is =
        ap (λ n. home n e.question) (length-set slots h (Some (answered q a)))
        ∙ ⊎_elim
        (λ same.
        let new : answered q a ≡ e = same_Some _ _ (same_Some _ _ (sym (nth_set_same slots h (Some (answered q a)) inside) ∙ ap (slice_get (set slots h (Some (answered q a)))) (sym same) ∙ is)) in
        ap (λ f. home (length slots) f.question) (sym new) ∙ here ∙ ap Some (sym same))
        (λ other. at i e (sym (nth_set_other slots h i (Some (answered q a)) other) ∙ is))
        (cases_eq i h)

-- ---- empty slots

pub nothing_in : (n : ℕ) → answers_in (replicate n None) ≡ []
nothing_in zero = refl
nothing_in (suc n) = nothing_in n

pub nothing_home : (slots : List (Option Answered)) → answers_in slots ≡ [] → AtHome slots
nothing_home slots none i e is = absurd (subst (Member e) none (slot_member slots i e is))

-- ---- slots and answers that are known under other names

module _ (q : Question) (a : Root) {x y z w : List Answered} (before : x ≡ y) (after : z ≡ w) where
  pub keeps_as : Keeps x q a z → Keeps y q a w
  keeps_as so = subst (λ t. Keeps t q a w) before (subst (λ t. Keeps x q a t) after so)

  pub replaces_as : {n m : ℕ} → n ≡ m → Replaces n x q a z → Replaces m y q a w
  replaces_as {n} {m} count so = subst (λ i. Replaces i y q a w) count (subst (λ t. Replaces n t q a w) before (subst (λ t. Replaces n x q a t) after so))

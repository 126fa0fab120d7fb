-- What an order's fields say of its facts.
use Rattle.std.proofs.Common.{◌≡◌, ℕ, ◌+◌, ◌<◌, Bool, true, false, not, ◌≤◌, List, [], ◌∷◌, ◌++◌, length, get_or, take, set, is_some, Some, None, Option, Decides, sym, ap, ◌∙◌, ⊎_elim, arith, rules}
use Rattle.std.proofs.lemmas.List.{length-take-le, length-map, length_push, map-append, get_or_append_left, get_or_at, take_more_set, get_or-map, get_or-take}
use Rattle.std.proofs.lemmas.Bool.{cases_lt, true≢false, false≢true, not-true}
use Rattle.std.proofs.lemmas.Grind.{common_steps}
use Rattle.std.proofs.lemmas.List.Quantifiers.{position-Some}
use Rattle.std.proofs.lemmas.List.Sums.{prefix_len_passes}
use Rattle.std.specs.List.{position, position_or_len}
use Rattle.model.specs.Facts.{names, AllNamed, Different, Named, Finds}
use Rattle.model.specs.Orders.{facts_of}
use Rattle.model.specs.Spelling.{spelling}
use Rattle.model.specs.declared.fact.Fact.{Fact}
use Rattle.model.specs.declared.order.Order.{Order}

pub length_facts : (order : Order) → length (facts_of order) ≡ order.len
length_facts order = length-take-le order.len order.facts (omega (arith, order.whole, order.short))

-- the name at a place of the order
pub name_at : (order : Order) (i : ℕ) (d : Fact) → i < order.len → get_or (names (facts_of order)) i [] ≡ spelling (get_or order.facts i d).name
name_at order i d lt =
    let long = length_facts order in
    get_or-map (λ f. spelling f.name) (facts_of order) i d [] (omega arith) ∙ ap (λ f. spelling f.name) (get_or-take order.len order.facts i d lt)

-- the name at a place of a list: at a fact, and before it
module _ (fs : List Fact) (f : Fact) (gs : List Fact) where
  names_split : names (fs ++ (f ∷ gs)) ≡ names fs ++ (spelling f.name ∷ names gs)
  names_split = map-append (λ g. spelling g.name) fs (f ∷ gs)

  pub name_before : (i : ℕ) → i < length fs → get_or (names (fs ++ (f ∷ gs))) i [] ≡ get_or (names fs) i []
  name_before i lt =
      ap (λ ns. get_or ns i []) names_split ∙ get_or_append_left (names fs) (spelling f.name ∷ names gs) [] i (omega (arith, length-map fs (λ g. spelling g.name)))

  pub name_here : (i : ℕ) → i ≡ length fs → get_or (names (fs ++ (f ∷ gs))) i [] ≡ spelling f.name
  name_here i e =
      ap (λ ns. get_or ns i []) names_split ∙ get_or_at (names fs) (spelling f.name) (names gs) [] i (length-map fs (λ g. spelling g.name) ∙ sym e)

-- one fact more
module _ (fs : List Fact) (f : Fact) where
  pub all_named_more : AllNamed fs → 0 < length (spelling f.name) → AllNamed (fs ++ (f ∷ []))
  all_named_more all one i lt =
      ⊎_elim
      (λ before. rw (name_before fs f [] i before) (all i before))
      (λ past. let e : i ≡ length fs = omega (arith, length_push fs f) in rw (name_here fs f [] i e) one)
      (cases_lt i (length fs))

  pub different_more : Different fs → (Named fs (spelling f.name) → ⊥) → Different (fs ++ (f ∷ []))
  different_more apart new i j lt within same =
      let long = length_push fs f in
      ⊎_elim
      (λ before. apart i j lt before (sym (name_before fs f [] i (omega arith)) ∙ same ∙ name_before fs f [] j before))
      (λ past.
      let e : j ≡ length fs = omega arith in
      let inside : i < length fs = omega arith in
      new (i, inside, sym (name_before fs f [] i inside) ∙ same ∙ name_here fs f [] j e))
      (cases_lt j (length fs))

pub facts_more : (order : Order) (f : Fact) → order.len < 40 → take (order.len + 1) (set order.facts order.len f) ≡ facts_of order ++ (f ∷ [])
facts_more order f room = take_more_set order.facts order.len f (omega (arith, order.whole))

-- where a search answers nothing, nothing passes
none_passes : {X : Type 0} (p : X → Bool) (xs : List X) → position p xs ≡ None → (i : ℕ) (d : X) → i < length xs → p (get_or xs i d) ≡ false
none_passes p xs e i d lt =
    let past : length xs ≤ position_or_len p xs = grind (arith, common_steps) in
    not-true _ (prefix_len_passes (λ x. not (p x)) xs i d (omega arith))

-- a test that decides whether a fact has this name finds the first one that has it
module _ (passes : Fact → Bool) (name : List ℕ) (decides : (f : Fact) → Decides (passes f) (spelling f.name ≡ name)) where
  named_at : (fs : List Fact) (f : Fact) (i : ℕ) → i < length fs → get_or (names fs) i [] ≡ spelling (get_or fs i f).name
  named_at fs f i lt = get_or-map (λ g. spelling g.name) fs i f [] lt

  pub finds_first : (fs : List Fact) (o : Option ℕ) → position passes fs ≡ o → Finds fs name o
  finds_first [] None e = λ (i, lt, same). absurd (omega arith)
  finds_first [] (Some i) e = absurd (search rules)
  finds_first (f ∷ fs) None e = λ (i, lt, same).
      true≢false (sym ((decides _).1 (sym (named_at (f ∷ fs) f i lt) ∙ same)) ∙ none_passes passes (f ∷ fs) e i f lt)
  finds_first (f ∷ fs) (Some i) e =
      let at = position-Some passes (f ∷ fs) i f e in
      (at.0, named_at (f ∷ fs) f i at.0 ∙ (decides _).0 at.1)

-- what an answer of `find` says, by `is_some`
pub when_found : (fs : List Fact) (name : List ℕ) (o : Option ℕ) → Finds fs name o → is_some o ≡ true → Named fs name
when_found fs name None h e = absurd (false≢true e)
when_found fs name (Some i) h e = (i, h.0, h.1)

pub when_missing : (fs : List Fact) (name : List ℕ) (o : Option ℕ) → Finds fs name o → is_some o ≡ false → Named fs name → ⊥
when_missing fs name None h e = h
when_missing fs name (Some i) h e = absurd (true≢false e)

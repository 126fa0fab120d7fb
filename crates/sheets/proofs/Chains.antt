-- Items joined by signs, grouped to the left: where a chain ends is told by what follows.
use Rattle.std.proofs.Common.{◌≡◌, ℕ, List, [], ◌∷◌, ◌++◌, sym, refl, ap, ◌∙◌, subst}
use Rattle.std.proofs.lemmas.List.{append_assoc, append-nil}

abbrev pub Tokens : Type 0
Tokens = List (List ℕ)

-- the first sign, and what follows it
sign_same : (a b : ℕ) (r s : Tokens) → (a ∷ []) ∷ r ≡ (b ∷ []) ∷ s → a ≡ b
sign_same a b r s e = cc

rest_same : (a b : ℕ) (r s : Tokens) → (a ∷ []) ∷ r ≡ (b ∷ []) ∷ s → r ≡ s
rest_same a b r s e = cc

-- chains of items that signs join
pub record Joining : Type 1 where
  pub X : Type 0
  pub C : Type 0
  pub S : Type 0
  pub spell_item : X → Tokens
  pub spell_chain : C → Tokens
  pub code : S → ℕ
  pub one : X → C
  pub more : C → S → X → C
  -- what may follow an item, and what a chain
  pub Item : Tokens → Type 0
  pub Chain : Tokens → Type 0
  pub of_one : (x : X) → spell_chain (one x) ≡ spell_item x
  pub of_more : (c : C) (s : S) (x : X) → spell_chain (more c s x) ≡ spell_chain c ++ ((code s ∷ []) ∷ spell_item x)
  pub same_sign : (s t : S) → code s ≡ code t → s ≡ t
  pub ends : (r : Tokens) → Chain r → Item r
  pub parts : (s : S) (r : Tokens) → Item ((code s ∷ []) ∷ r)
  pub joins : (s : S) (r : Tokens) → Chain ((code s ∷ []) ∷ r) → ⊥

module _ (J : Joining) where
  open J use {X, C, S, spell_item, spell_chain, code, one, more, Item, Chain, of_one, of_more, same_sign, ends, parts, joins}

  -- no other item begins the same tokens
  abbrev pub OneItem : X → Type 0
  OneItem x = (y : X) (r s : Tokens) → Item r → Item s → spell_item x ++ r ≡ spell_item y ++ s → (x ≡ y) × (r ≡ s)

  -- what comes after the first item of a chain
  pub data Later : Type 0 where
    none : Later
    next : S → X → Later → Later

  pub spell_later : Later → Tokens
  spell_later none = []
  spell_later (next s x l) = (code s ∷ []) ∷ (spell_item x ++ spell_later l)

  pub grow : C → Later → C
  grow c none = c
  grow c (next s x l) = grow (more c s x) l

  last_added : Later → S → X → Later
  last_added none s x = next s x none
  last_added (next t y l) s x = next t y (last_added l s x)

  grow_last : (c : C) (l : Later) (s : S) (x : X) → grow c (last_added l s x) ≡ more (grow c l) s x
  unfolding grow last_added
  grow_last c none s x = refl
  grow_last c (next t y l) s x = grow_last (more c t y) l s x

  spell_last : (l : Later) (s : S) (x : X) → spell_later (last_added l s x) ≡ spell_later l ++ ((code s ∷ []) ∷ spell_item x)
  unfolding spell_later last_added
  spell_last none s x = ap (λ ts. (code s ∷ []) ∷ ts) (append-nil (spell_item x))
  spell_last (next t y l) s x =
      ap (λ ts. (code t ∷ []) ∷ ts) (ap (λ ts. spell_item y ++ ts) (spell_last l s x) ∙ sym (append_assoc (spell_item y) (spell_later l) ((code s ∷ []) ∷ spell_item x)))

  -- a chain as its first item and what comes later
  pub record Parted (c : C) : Type 0 where
    pub first : X
    pub later : Later
    pub tokens : spell_chain c ≡ spell_item first ++ spell_later later
    pub whole : grow (one first) later ≡ c

  pub parted_one : (x : X) → Parted (one x)
  unfolding grow spell_later
  parted_one x = record { first = x; later = none; tokens = of_one x ∙ sym (append-nil (spell_item x)); whole = refl }

  pub parted_more : (c : C) (s : S) (x : X) → Parted c → Parted (more c s x)
  parted_more c s x p = record {
    first = p.first;
    later = last_added p.later s x;
    tokens = of_more c s x ∙ ap (λ ts. ts ++ ((code s ∷ []) ∷ spell_item x)) p.tokens ∙ append_assoc (spell_item p.first) (spell_later p.later) _
        ∙ ap (λ ts. spell_item p.first ++ ts) (sym (spell_last p.later s x));
    whole = grow_last (one p.first) p.later s x ∙ ap (λ d. more d s x) p.whole;
  }

  -- a chain that begins the same tokens as another, which ends there, is the other's front
  pub record Front (c : C) (first : X) (later : Later) (r s : Tokens) : Type 0 where
    pub left : Later
    pub whole : grow (one first) later ≡ grow c left
    pub rest : r ≡ spell_later left ++ s

  abbrev pub Fronts : C → Type 0
  Fronts c = (y : X) (l : Later) (r s : Tokens) → Item r → Chain s → spell_chain c ++ r ≡ spell_item y ++ (spell_later l ++ s) → Front c y l r s

  later_item : (l : Later) (s : Tokens) → Chain s → Item (spell_later l ++ s)
  unfolding spell_later
  later_item none s h = ends s h
  later_item (next t x l) s h = parts t _

  pub front_one : (x : X) → OneItem x → Fronts (one x)
  front_one x unique y l r s item chain e =
      let both = unique y r (spell_later l ++ s) item (later_item l s chain) (ap (λ ts. ts ++ r) (sym (of_one x)) ∙ e) in
      record { left = l; whole = ap (λ z. grow (one z) l) (sym both.0); rest = both.1 }

  pub front_more : (c : C) (t : S) (x : X) → OneItem x → Fronts c → Fronts (more c t x)
  unfolding grow spell_later
  front_more c t x unique front y l r s item chain e =
      go f.left f.whole f.rest
    where
      f : Front c y l ((code t ∷ []) ∷ (spell_item x ++ r)) s
      f = front y l _ s (parts t _) chain (sym (append_assoc (spell_chain c) ((code t ∷ []) ∷ spell_item x) r) ∙ ap (λ ts. ts ++ r) (sym (of_more c t x)) ∙ e)

      go : (left : Later) → grow (one y) l ≡ grow c left → (code t ∷ []) ∷ (spell_item x ++ r) ≡ spell_later left ++ s → Front (more c t x) y l r s
      go none whole rest = absurd (joins t _ (subst Chain (sym rest) chain))
      go (next u z more_left) whole rest =
          let sign : t ≡ u = same_sign t u (sign_same _ _ _ _ rest) in
          let after = rest_same _ _ _ _ rest ∙ append_assoc (spell_item z) (spell_later more_left) s in
          let both = unique z r (spell_later more_left ++ s) item (later_item more_left s chain) after in
          record { left = more_left; whole = whole ∙ (λ i. grow (more c (sym sign i) (sym both.0 i)) more_left); rest = both.1 }

  -- no other chain ends the same way
  abbrev pub OneChain : C → Type 0
  OneChain c = (d : C) (r s : Tokens) → Chain r → Chain s → spell_chain c ++ r ≡ spell_chain d ++ s → (c ≡ d) × (r ≡ s)

  pub one_chain : (c : C) → Fronts c → ((d : C) → Parted d) → OneChain c
  unfolding grow spell_later
  one_chain c front parted d r s here there e =
      go f.left f.whole f.rest
    where
      p : Parted d
      p = parted d

      f : Front c p.first p.later r s
      f = front p.first p.later r s (ends r here) there (e ∙ ap (λ ts. ts ++ s) p.tokens ∙ append_assoc (spell_item p.first) (spell_later p.later) s)

      go : (left : Later) → grow (one p.first) p.later ≡ grow c left → r ≡ spell_later left ++ s → (c ≡ d) × (r ≡ s)
      go none whole rest = (sym whole ∙ p.whole, rest)
      go (next u z more_left) whole rest = absurd (joins u _ (subst Chain rest here))

  -- where no item goes on after a sign, no chain ends
  pub no_chain : (c : C) (t : S) (ts : Tokens) → Fronts c → ((d : C) → Parted d) → ((x : X) (r : Tokens) → ts ≡ spell_item x ++ r → Item r → ⊥)
      → (d : C) (s : Tokens) → Chain s → spell_chain c ++ ((code t ∷ []) ∷ ts) ≡ spell_chain d ++ s → ⊥
  unfolding spell_later
  no_chain c t ts front parted unread d s there e =
      go f.left f.rest
    where
      p : Parted d
      p = parted d

      f : Front c p.first p.later ((code t ∷ []) ∷ ts) s
      f = front p.first p.later _ s (parts t ts) there (e ∙ ap (λ us. us ++ s) p.tokens ∙ append_assoc (spell_item p.first) (spell_later p.later) s)

      go : (left : Later) → (code t ∷ []) ∷ ts ≡ spell_later left ++ s → ⊥
      go none rest = joins t ts (subst Chain (sym rest) there)
      go (next u z more_left) rest = unread z (spell_later more_left ++ s) (rest_same _ _ _ _ rest ∙ append_assoc (spell_item z) (spell_later more_left) s) (later_item more_left s there)

  -- where no item begins, no chain ends
  pub no_first : (ts : Tokens) → ((d : C) → Parted d) → ((x : X) (r : Tokens) → ts ≡ spell_item x ++ r → Item r → ⊥) → (d : C) (s : Tokens) → Chain s → ts ≡ spell_chain d ++ s → ⊥
  no_first ts parted unread d s there e =
      let p = parted d in
      unread p.first (spell_later p.later ++ s) (e ∙ ap (λ us. us ++ s) p.tokens ∙ append_assoc (spell_item p.first) (spell_later p.later) s) (later_item p.later s there)

  -- where a chain neither goes on nor ends, none does
  pub no_end : (c : C) (ts : Tokens) → Fronts c → ((d : C) → Parted d) → Item ts → (Chain ts → ⊥) → ((t : S) (r : Tokens) → ts ≡ (code t ∷ []) ∷ r → ⊥)
      → (d : C) (s : Tokens) → Chain s → spell_chain c ++ ts ≡ spell_chain d ++ s → ⊥
  unfolding spell_later
  no_end c ts front parted item unended unjoined d s there e =
      go f.left f.rest
    where
      p : Parted d
      p = parted d

      f : Front c p.first p.later ts s
      f = front p.first p.later ts s item there (e ∙ ap (λ us. us ++ s) p.tokens ∙ append_assoc (spell_item p.first) (spell_later p.later) s)

      go : (left : Later) → ts ≡ spell_later left ++ s → ⊥
      go none rest = unended (subst Chain (sym rest) there)
      go (next u z more_left) rest = unjoined u _ rest

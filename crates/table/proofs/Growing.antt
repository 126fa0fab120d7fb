-- What adding a key and taking the last one away write into the cells.
use Rattle.std.proofs.Common.{◌≡◌, ℕ, ◌<◌, cond, eqb, List, [], ◌∷◌, ◌++◌, length, get_or, set, Some, None, Option, sym, refl, ap, ◌∙◌, ⊎_elim, arith}
use Rattle.std.proofs.lemmas.List.{length-set, get_or-set_same, get_or-set_other, same_lists}
use Rattle.std.proofs.lemmas.Bool.{cases_eq, cond-true, cond-false, eq-eqb, ne_eqb}
use Rattle.std.specs.List.{slice_get}
use Rattle.table.specs.Filled.{home, latest, before, cell_of, filled}
use Rattle.table.specs.declared.cell.Cell.{Cell}
use Rattle.table.proofs.Chains.{length_filled, filled_at, cell_other, cell_new, cell_free}

-- a cell with a key, or with none, that begins a chain, or another one
abbrev pub cell : {K : Type 0} → Option K → Option ℕ → Option ℕ → Cell K
cell key first next = record { key = key; first = first; next = next }

-- the new key's cell is written, and then the cell at which its chain begins
abbrev pub chained : {K : Type 0} → List (Cell K) → ℕ → ℕ → Cell K → Cell K → List (Cell K)
chained cells n h own d = set (set cells n own) h (cell (get_or (set cells n own) h d).key (Some n) (get_or (set cells n own) h d).next)

-- the chain of the last key is mended, and then the key's cell is emptied
abbrev pub unchained : {K : Type 0} → List (Cell K) → ℕ → ℕ → Cell K → Cell K → List (Cell K)
unchained cells n h mended d = set (set cells h mended) n (cell None (get_or (set cells h mended) n d).first None)

-- two lists are equal if they are at each place, which may be one of two
by_places : {X : Type 0} (xs ys : List X) (a b : ℕ) (u v : X) → a < length xs → b < length xs → length ys ≡ length xs
    → ((d : X) → get_or ys b d ≡ v) → ((d : X) → (a ≡ b → ⊥) → get_or ys a d ≡ u)
    → ((i : ℕ) (d : X) → i < length xs → (i ≡ a → ⊥) → (i ≡ b → ⊥) → get_or ys i d ≡ get_or xs i d)
    → set (set xs a u) b v ≡ ys
by_places xs ys a b u v ina inb long at_b at_a other =
    let size : length (set (set xs a u) b v) ≡ length xs = length-set (set xs a u) b v ∙ length-set xs a u in
    same_lists (set (set xs a u) b v) ys (size ∙ sym long) (λ i d lt.
    ⊎_elim
    (λ e. ap (λ j. get_or (set (set xs a u) b v) j d) e ∙ get_or-set_same (set xs a u) b v d (omega (arith, length-set xs a u)) ∙ sym (at_b d) ∙ ap (λ j. get_or ys j d) (sym e))
    (λ ne.
    get_or-set_other (set xs a u) b i v d ne
    ∙ ⊎_elim
    (λ e. ap (λ j. get_or (set xs a u) j d) e ∙ get_or-set_same xs a u d ina ∙ sym (at_a d (λ ab. ne (e ∙ ab))) ∙ ap (λ j. get_or ys j d) (sym e))
    (λ na. get_or-set_other xs a i u d na ∙ sym (other i d (omega (arith, size)) na ne))
    (cases_eq i a))
    (cases_eq i b))

module _ {K : Type 0} (code : K → ℕ) (cap : ℕ) (keys : List K) (k : K) (room : length keys < cap) (inside : home code cap k < cap) where
  module _ (i : ℕ) where
    fresh : (i ≡ home code cap k → ⊥) → cond (eqb (home code cap k) i) (Some (length keys)) (latest code cap keys i (length keys)) ≡ latest code cap keys i (length keys)
    fresh ne = cond-false (eqb (home code cap k) i) (Some (length keys)) (latest code cap keys i (length keys)) (ne_eqb (home code cap k) i (λ e. ne (sym e)))

    begun : i ≡ home code cap k → cond (eqb (home code cap k) i) (Some (length keys)) (latest code cap keys i (length keys)) ≡ Some (length keys)
    begun e = cond-true (eqb (home code cap k) i) (Some (length keys)) (latest code cap keys i (length keys)) (eq-eqb (home code cap k) i (sym e))

  -- a cell that is neither the key's own nor the one on which its hash falls stays
  untouched : (i : ℕ) (d : Cell K) → i < cap → (i ≡ length keys → ⊥) → (i ≡ home code cap k → ⊥) → get_or (filled code cap (keys ++ (k ∷ []))) i d ≡ get_or (filled code cap keys) i d
  untouched i d lt ne nh =
      filled_at code cap (keys ++ (k ∷ [])) i d lt ∙ cell_other code cap keys k i ne ∙ ap (λ f. cell (slice_get keys i) f (before code cap keys i (slice_get keys i))) (fresh i nh) ∙ sym (filled_at code cap keys i d lt)

  -- the cell on which the key's hash falls, once it is added
  at_home : (d : Cell K) (head : Cell K) → head ≡ get_or (set (filled code cap keys) (length keys) (cell (Some k) (latest code cap keys (length keys) (length keys)) (latest code cap keys (home code cap k) (length keys)))) (home code cap k) head
      → get_or (filled code cap (keys ++ (k ∷ []))) (home code cap k) d ≡ cell head.key (Some (length keys)) head.next
  at_home d head is =
      filled_at code cap (keys ++ (k ∷ [])) (home code cap k) d inside
      ∙ ⊎_elim
      (λ e.
      let own : head ≡ cell (Some k) _ _ = is ∙ ap (λ j. get_or (set (filled code cap keys) (length keys) (cell (Some k) (latest code cap keys (length keys) (length keys)) (latest code cap keys (home code cap k) (length keys)))) j head) e ∙ get_or-set_same (filled code cap keys) (length keys) _ head (omega (arith, length_filled code cap keys)) in
      ap (cell_of code cap (keys ++ (k ∷ []))) e ∙ cell_new code cap keys k ∙ ap (λ f. cell (Some k) f (latest code cap keys (home code cap k) (length keys))) (begun (length keys) (sym e)) ∙ ap (λ c. cell c.key (Some (length keys)) c.next) (sym own))
      (λ ne.
      let old : head ≡ cell_of code cap keys (home code cap k) = is ∙ get_or-set_other (filled code cap keys) (length keys) (home code cap k) _ head ne ∙ filled_at code cap keys (home code cap k) head inside in
      cell_other code cap keys k (home code cap k) ne ∙ ap (λ f. cell (slice_get keys (home code cap k)) f (before code cap keys (home code cap k) (slice_get keys (home code cap k)))) (begun (home code cap k) refl) ∙ ap (λ c. cell c.key (Some (length keys)) c.next) (sym old))
      (cases_eq (home code cap k) (length keys))

  -- the key's own cell, where its hash falls on another
  at_own : (d : Cell K) → (length keys ≡ home code cap k → ⊥) → get_or (filled code cap (keys ++ (k ∷ []))) (length keys) d ≡ cell (Some k) (latest code cap keys (length keys) (length keys)) (latest code cap keys (home code cap k) (length keys))
  at_own d ne =
      filled_at code cap (keys ++ (k ∷ [])) (length keys) d room ∙ cell_new code cap keys k ∙ ap (λ f. cell (Some k) f (latest code cap keys (home code cap k) (length keys))) (fresh (length keys) ne)

  pub grown : (head : Cell K) → head ≡ get_or (set (filled code cap keys) (length keys) (cell (Some k) (latest code cap keys (length keys) (length keys)) (latest code cap keys (home code cap k) (length keys)))) (home code cap k) head
      → set (set (filled code cap keys) (length keys) (cell (Some k) (latest code cap keys (length keys) (length keys)) (latest code cap keys (home code cap k) (length keys)))) (home code cap k) (cell head.key (Some (length keys)) head.next) ≡ filled code cap (keys ++ (k ∷ []))
  grown head is =
      let long = length_filled code cap keys in
      by_places (filled code cap keys) (filled code cap (keys ++ (k ∷ []))) (length keys) (home code cap k) _ _ (omega arith) (omega arith) (length_filled code cap (keys ++ (k ∷ [])) ∙ sym long) (λ d. at_home d head is) at_own
      (λ i d lt. untouched i d (omega arith))

  -- the cell on which the hash fell, once the key is taken away again
  home_again : (d : Cell K) (head : Cell K) → head ≡ get_or (filled code cap (keys ++ (k ∷ []))) (home code cap k) head → (home code cap k ≡ length keys → ⊥)
      → get_or (filled code cap keys) (home code cap k) d ≡ cell head.key (latest code cap keys (home code cap k) (length keys)) head.next
  home_again d head is ne =
      let old = is ∙ filled_at code cap (keys ++ (k ∷ [])) (home code cap k) head inside ∙ cell_other code cap keys k (home code cap k) ne in
      filled_at code cap keys (home code cap k) d inside ∙ ap (λ c. cell c.key (latest code cap keys (home code cap k) (length keys)) c.next) (sym old)

  -- the chain that begins at the key's own cell, once that chain is mended
  own_first : (head own : Cell K) → own ≡ get_or (set (filled code cap (keys ++ (k ∷ []))) (home code cap k) (cell head.key (latest code cap keys (home code cap k) (length keys)) head.next)) (length keys) own
      → own.first ≡ latest code cap keys (length keys) (length keys)
  own_first head own is =
      let mended = cell head.key (latest code cap keys (home code cap k) (length keys)) head.next in
      let long = length_filled code cap (keys ++ (k ∷ [])) in
      ⊎_elim
      (λ e.
      let here : own ≡ mended = is ∙ ap (λ j. get_or (set (filled code cap (keys ++ (k ∷ []))) (home code cap k) mended) j own) e ∙ get_or-set_same (filled code cap (keys ++ (k ∷ []))) (home code cap k) mended own (omega arith) in
      ap (λ c. c.first) here ∙ ap (λ b. latest code cap keys b (length keys)) (sym e))
      (λ ne.
      let here = is ∙ get_or-set_other (filled code cap (keys ++ (k ∷ []))) (home code cap k) (length keys) mended own ne ∙ at_own own ne in
      ap (λ c. c.first) here)
      (cases_eq (length keys) (home code cap k))

  pub shrunk : (head own : Cell K) → head ≡ get_or (filled code cap (keys ++ (k ∷ []))) (home code cap k) head
      → own ≡ get_or (set (filled code cap (keys ++ (k ∷ []))) (home code cap k) (cell head.key (latest code cap keys (home code cap k) (length keys)) head.next)) (length keys) own
      → set (set (filled code cap (keys ++ (k ∷ []))) (home code cap k) (cell head.key (latest code cap keys (home code cap k) (length keys)) head.next)) (length keys) (cell None own.first None) ≡ filled code cap keys
  shrunk head own head-is own_is =
      let long = length_filled code cap (keys ++ (k ∷ [])) in
      by_places (filled code cap (keys ++ (k ∷ []))) (filled code cap keys) (home code cap k) (length keys) _ _ (omega arith) (omega arith) (length_filled code cap keys ∙ sym long)
      (λ d. filled_at code cap keys (length keys) d room ∙ cell_free code cap keys k ∙ ap (λ f. cell None f None) (sym (own_first head own own_is)))
      (λ d ne. home_again d head head-is ne)
      (λ i d lt nh ne. sym (untouched i d (omega arith) ne nh))

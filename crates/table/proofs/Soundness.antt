-- What a table's cells say of its keys, and what they are after a key has come or gone.
use Rattle.std.proofs.lemmas.Option.{same_Some, slice_get_within}
use Rattle.std.proofs.Common.{◌≡◌, ℕ, ◌<◌, ◌≤◌, Bool, List, [], ◌∷◌, ◌++◌, length, get_or, replicate, set, Some, sym, ap, ◌∙◌, ⊎_elim, arith}
use Rattle.std.proofs.lemmas.List.{get_or-replicate, length-replicate, length-set, length_push, get_or_default}
use Rattle.std.proofs.lemmas.List.FromFn.{fill_by_all}
use Rattle.std.proofs.lemmas.Bool.{cases_lt}
use Rattle.std.specs.List.{slice_get}
use Rattle.table.specs.Cells.{empty_cell, keys_in}
use Rattle.table.specs.Filled.{home, latest, cell_of, filled, Filled}
use Rattle.table.specs.Keys.{Absent, Apart}
use Rattle.table.specs.declared.cell.Cell.{Cell}
use Rattle.table.proofs.Chains.{length_filled, filled_at, keys_filled, cell_new}
use Rattle.table.proofs.Growing.{cell, chained, grown, shrunk, unchained}
use Rattle.table.proofs.Numbered.{nth_before, nth_here}

module _ {K : Type 0} (code : K → ℕ) where
  pub filled_cell : (cells : List (Cell K)) → Filled code cells → (i : ℕ) (d : Cell K) → i < length cells → get_or cells i d ≡ cell_of code (length cells) (keys_in cells) i
  filled_cell cells so i d lt = ap (λ cs. get_or cs i d) so.all ∙ filled_at code (length cells) (keys_in cells) i d lt

  -- the cells of a table of so many cells, and of these keys
  pub record Holds (cells : List (Cell K)) (cap : ℕ) (keys : List K) : Type 0 where
    pub long : length cells ≡ cap
    pub held : keys_in cells ≡ keys
    pub filled : Filled code cells

  pub holds : (cells : List (Cell K)) (cap : ℕ) (keys : List K) → cells ≡ filled code cap keys → length keys ≤ cap → Holds cells cap keys
  holds cells cap keys is few =
      let long = ap length is ∙ length_filled code cap keys in
      let held = ap keys_in is ∙ keys_filled code cap keys few in
      record { long = long; held = held; filled = record { few = omega (arith, ap length held); all = is ∙ (λ i. filled code (sym long i) (sym held i)) } }

  -- empty cells hold no keys
  pub holds_none : (cells : List (Cell K)) (n : ℕ) → cells ≡ replicate n empty_cell → Holds cells n []
  holds_none cells n is =
      holds cells n [] (is ∙ fill_by_all (cell_of code n []) (replicate n empty_cell) n empty_cell (length-replicate n empty_cell) (λ k lt. get_or-replicate n k empty_cell empty_cell lt)) (omega arith)

  -- ---- one key more

  pub one_more : (cells : List (Cell K)) (cap : ℕ) (keys : List K) (k : K) (n h : ℕ) (c d e : Cell K)
      → cells ≡ filled code cap keys → n ≡ length keys → h ≡ home code cap k → n < cap → h < cap
      → chained cells n h (cell (Some k) (get_or cells n c).first (get_or cells h d).first) e ≡ filled code cap (keys ++ (k ∷ []))
  one_more cells cap keys k n h c d e is at_n at-h inn inh =
      let old = filled code cap keys in
      let room : length keys < cap = omega arith in
      let inside : home code cap k < cap = omega arith in
      let own = cell (Some k) (latest code cap keys (length keys) (length keys)) (latest code cap keys (home code cap k) (length keys)) in
      let long : length (set old (length keys) own) ≡ cap = length-set old (length keys) own ∙ length_filled code cap keys in
      (λ i. chained (is i) (at_n i) (at-h i) (cell (Some k) (get_or (is i) (at_n i) c).first (get_or (is i) (at-h i) d).first) e)
      ∙ (λ i. chained old (length keys) (home code cap k) (cell (Some k) (filled_at code cap keys (length keys) c room i).first (filled_at code cap keys (home code cap k) d inside i).first) e)
      ∙ grown code cap keys k room inside (get_or (set old (length keys) own) (home code cap k) e) (get_or_default (set old (length keys) own) (home code cap k) e _ (omega arith))

  -- ---- the last key goes

  pub one_less : (cells : List (Cell K)) (cap : ℕ) (keys : List K) (k : K) (n h : ℕ) (c d e : Cell K)
      → cells ≡ filled code cap (keys ++ (k ∷ [])) → n ≡ length keys → h ≡ home code cap k → n < cap → h < cap
      → unchained cells n h (cell (get_or cells h d).key (get_or cells n c).next (get_or cells h d).next) e ≡ filled code cap keys
  one_less cells cap keys k n h c d e is at_n at-h inn inh =
      let old = filled code cap (keys ++ (k ∷ [])) in
      let room : length keys < cap = omega arith in
      let inside : home code cap k < cap = omega arith in
      let head = get_or old (home code cap k) d in
      let long = length_filled code cap (keys ++ (k ∷ [])) in
      let mended = cell head.key (latest code cap keys (home code cap k) (length keys)) head.next in
      let next : (get_or old (length keys) c).next ≡ latest code cap keys (home code cap k) (length keys) = ap (λ x. x.next) (filled_at code cap (keys ++ (k ∷ [])) (length keys) c room ∙ cell_new code cap keys k) in
      (λ i. unchained (is i) (at_n i) (at-h i) (cell (get_or (is i) (at-h i) d).key (get_or (is i) (at_n i) c).next (get_or (is i) (at-h i) d).next) e)
      ∙ ap (λ x. unchained old (length keys) (home code cap k) (cell head.key x head.next) e) next
      ∙ shrunk code cap keys k room inside head (get_or (set old (home code cap k) mended) (length keys) e)
      (get_or_default old (home code cap k) d head (omega arith))
      (get_or_default (set old (home code cap k) mended) (length keys) e _ (omega (arith, length-set old (home code cap k) mended)))

module _ {K : Type 0} (same : K → K → Bool) where
  pub apart_more : (keys : List K) (k : K) → Apart same keys → Absent same keys k → Apart same (keys ++ (k ∷ []))
  apart_more keys k apart none i j x y lt at_i at_j =
      let long = length_push keys k in
      let last : j < length (keys ++ (k ∷ [])) = slice_get_within (keys ++ (k ∷ [])) j y at_j in
      let old : slice_get keys i ≡ Some x = sym (nth_before keys (k ∷ []) i (omega arith)) ∙ at_i in
      ⊎_elim
      (λ inside. apart i j x y lt old (sym (nth_before keys (k ∷ []) j inside) ∙ at_j))
      (λ end.
      let here : k ≡ y = same_Some k y (sym (nth_here keys k [] j (omega arith)) ∙ at_j) in
      ap (same x) (sym here) ∙ none i x old)
      (cases_lt j (length keys))

  pub apart_less : (keys : List K) (k : K) → Apart same (keys ++ (k ∷ [])) → Apart same keys
  apart_less keys k apart i j x y lt at_i at_j =
      apart i j x y lt (nth_before keys (k ∷ []) i (slice_get_within keys i x at_i) ∙ at_i) (nth_before keys (k ∷ []) j (slice_get_within keys j y at_j) ∙ at_j)

  pub none_apart : (keys : List K) → keys ≡ [] → Apart same keys
  none_apart keys none i j x y lt at_i at_j = absurd (omega (arith, slice_get_within keys i x at_i, ap length none))

-- The chains of keys whose hashes fall on one cell, and the cells as keys come and go.
use Rattle.std.proofs.Common.{◌≡◌, ℕ, zero, suc, ◌+◌, ◌<◌, ◌≤◌, true, false, cond, eqb, List, [], ◌∷◌, ◌++◌, map, length, get_or, take, Some, None, Option, sym, refl, ap, ◌∙◌, ⊎_elim, arith}
use Rattle.std.proofs.lemmas.List.FromFn.{length-map-range_with_len, get_or-map-range_with_len, map-range_with_len_more}
use Rattle.std.proofs.lemmas.List.{length_push, take_more, take_all, append-nil}
use Rattle.std.proofs.lemmas.Option.{slice_get_past, slice_get-get_or, none-some, same_Some}
use Rattle.std.proofs.lemmas.Bool.{cases_Bool, cases_lt, cond-true, cond-false}
use Rattle.std.specs.List.{range_with_len, slice_get}
use Rattle.table.specs.Cells.{put_front, keys_in}
use Rattle.table.specs.Filled.{home, falls_on, latest, before, cell_of, filled}
use Rattle.table.specs.declared.cell.Cell.{Cell}
use Rattle.table.proofs.Numbered.{nth_some, nth_before, nth_here}

module _ {K : Type 0} (code : K → ℕ) (cap : ℕ) where
  -- what `latest` says: it is an earlier key of the chain, and none comes between
  pub record Latest (keys : List K) (b m n : ℕ) : Type 0 where
    pub earlier : n < m
    pub falls : falls_on code cap b (slice_get keys n) ≡ true
    pub none_between : (j : ℕ) → n < j → j < m → falls_on code cap b (slice_get keys j) ≡ false

  pub latest_some : (keys : List K) (b m n : ℕ) → latest code cap keys b m ≡ Some n → Latest keys b m n
  latest_some keys b zero n e = absurd (none-some n e)
  latest_some keys b (suc m) n e =
      let test = falls_on code cap b (slice_get keys m) in
      ⊎_elim
      (λ h.
      let same : m ≡ n = same_Some m n (sym (cond-true test (Some m) (latest code cap keys b m) h) ∙ e) in
      record {
        earlier = omega arith;
        falls = ap (λ k. falls_on code cap b (slice_get keys k)) (sym same) ∙ h;
        none_between = λ j lo hi. absurd (omega arith);
      })
      (λ h.
      let rest = latest_some keys b m n (sym (cond-false test (Some m) (latest code cap keys b m) h) ∙ e) in
      record {
        earlier = omega (arith, rest.earlier);
        falls = rest.falls;
        none_between = λ j lo hi. ⊎_elim (λ lt. rest.none_between j lo lt) (λ le. let last : j ≡ m = omega arith in ap (λ k. falls_on code cap b (slice_get keys k)) last ∙ h) (cases_lt j m);
      })
      (cases_Bool test)

  pub latest_none : (keys : List K) (b m : ℕ) → latest code cap keys b m ≡ None → (j : ℕ) → j < m → falls_on code cap b (slice_get keys j) ≡ false
  latest_none keys b zero e j lt = absurd (omega arith)
  latest_none keys b (suc m) e j lt =
      let test = falls_on code cap b (slice_get keys m) in
      ⊎_elim
      (λ h. absurd (none-some m (sym e ∙ cond-true test (Some m) (latest code cap keys b m) h)))
      (λ h.
      ⊎_elim
      (λ below. latest_none keys b m (sym (cond-false test (Some m) (latest code cap keys b m) h) ∙ e) j below)
      (λ le. let last : j ≡ m = omega arith in ap (λ k. falls_on code cap b (slice_get keys k)) last ∙ h)
      (cases_lt j m))
      (cases_Bool test)

  -- a key more does not change what stood before it
  pub latest_before : (keys more : List K) (b m : ℕ) → m ≤ length keys → latest code cap (keys ++ more) b m ≡ latest code cap keys b m
  latest_before keys more b zero le = refl
  latest_before keys more b (suc m) le =
      (λ i. cond (falls_on code cap b (nth_before keys more m (omega arith) i)) (Some m) (latest_before keys more b m (omega arith) i))

  -- ---- the cells of a list of keys

  pub length_filled : (keys : List K) → length (filled code cap keys) ≡ cap
  length_filled keys = length-map-range_with_len (cell_of code cap keys) 0 cap

  pub filled_at : (keys : List K) (i : ℕ) (d : Cell K) → i < cap → get_or (filled code cap keys) i d ≡ cell_of code cap keys i
  filled_at keys i d lt = get_or-map-range_with_len (cell_of code cap keys) 0 cap i i d lt (omega arith)

  front_append : (o : Option K) (xs ys : List K) → put_front o (xs ++ ys) ≡ put_front o xs ++ ys
  front_append None xs ys = refl
  front_append (Some k) xs ys = refl

  keys_in_append : (xs ys : List (Cell K)) → keys_in (xs ++ ys) ≡ keys_in xs ++ keys_in ys
  keys_in_append [] ys = refl
  keys_in_append (c ∷ xs) ys = ap (put_front c.key) (keys_in_append xs ys) ∙ front_append c.key (keys_in xs) (keys_in ys)

  keys_counted : (keys : List K) (n : ℕ) → keys_in (map (cell_of code cap keys) (range_with_len 0 n)) ≡ take n keys
  keys_counted keys zero = refl
  keys_counted keys (suc n) =
      let more : n + 1 ≡ suc n = omega arith in
      ap (λ k. keys_in (map (cell_of code cap keys) (range_with_len 0 k))) (sym more)
      ∙ ap keys_in (map-range_with_len_more (cell_of code cap keys) 0 n n (omega arith))
      ∙ keys_in_append (map (cell_of code cap keys) (range_with_len 0 n)) (cell_of code cap keys n ∷ [])
      ∙ ⊎_elim
      (λ lt.
      let here = nth_some keys n lt in
      let read : get_or keys n here.0 ≡ here.0 = same_Some _ _ (sym (slice_get-get_or keys n here.0 lt) ∙ here.1) in
      (λ i. keys_counted keys n i ++ put_front (here.1 i) []) ∙ ap (λ k. take n keys ++ (k ∷ [])) (sym read) ∙ sym (take_more keys n here.0 lt))
      (λ le.
      (λ i. keys_counted keys n i ++ put_front (slice_get_past keys n le i) []) ∙ append-nil (take n keys) ∙ take_all n keys le ∙ sym (take_all (n + 1) keys (omega arith)))
      (cases_lt n (length keys))
      ∙ ap (λ k. take k keys) more

  -- the keys that lie in the cells of a list of keys
  pub keys_filled : (keys : List K) → length keys ≤ cap → keys_in (filled code cap keys) ≡ keys
  keys_filled keys le = keys_counted keys cap ∙ take_all cap keys le

  -- ---- one key more

  module _ (keys : List K) (k : K) where
    last_first : (i : ℕ) → latest code cap (keys ++ (k ∷ [])) i (length (keys ++ (k ∷ []))) ≡ cond (eqb (home code cap k) i) (Some (length keys)) (latest code cap keys i (length keys))
    last_first i =
        let long : length (keys ++ (k ∷ [])) ≡ suc (length keys) = omega (arith, length_push keys k) in
        ap (latest code cap (keys ++ (k ∷ [])) i) long
        ∙ (λ j. cond (falls_on code cap i (nth_here keys k [] (length keys) refl j)) (Some (length keys)) (latest_before keys (k ∷ []) i (length keys) (omega arith) j))

    nth_other : (i : ℕ) → (i ≡ length keys → ⊥) → slice_get (keys ++ (k ∷ [])) i ≡ slice_get keys i
    nth_other i ne =
        ⊎_elim (nth_before keys (k ∷ []) i)
        (λ le.
        let past : length keys < i = ⊎_elim (λ h. h) (λ h. absurd (ne (omega arith))) (cases_lt (length keys) i) in
        slice_get_past (keys ++ (k ∷ [])) i (omega (arith, length_push keys k)) ∙ sym (slice_get_past keys i (omega arith)))
        (cases_lt i (length keys))

    before_same : (i : ℕ) (o : Option K) → i ≤ length keys → before code cap (keys ++ (k ∷ [])) i o ≡ before code cap keys i o
    before_same i None le = refl
    before_same i (Some x) le = latest_before keys (k ∷ []) (home code cap x) i le

    next_other : (i : ℕ) → (i ≡ length keys → ⊥) → before code cap (keys ++ (k ∷ [])) i (slice_get (keys ++ (k ∷ [])) i) ≡ before code cap keys i (slice_get keys i)
    next_other i ne =
        ap (before code cap (keys ++ (k ∷ [])) i) (nth_other i ne)
        ∙ ⊎_elim
        (λ lt. before_same i (slice_get keys i) (omega arith))
        (λ le. ap (before code cap (keys ++ (k ∷ [])) i) (slice_get_past keys i le) ∙ sym (ap (before code cap keys i) (slice_get_past keys i le)))
        (cases_lt i (length keys))

    -- a cell other than the new key's: only its chain may begin anew
    pub cell_other : (i : ℕ) → (i ≡ length keys → ⊥)
        → cell_of code cap (keys ++ (k ∷ [])) i ≡ record { key = slice_get keys i; first = cond (eqb (home code cap k) i) (Some (length keys)) (latest code cap keys i (length keys)); next = before code cap keys i (slice_get keys i) }
    cell_other i ne = λ j. record { key = nth_other i ne j; first = last_first i j; next = next_other i ne j }

    next_new : before code cap (keys ++ (k ∷ [])) (length keys) (slice_get (keys ++ (k ∷ [])) (length keys)) ≡ latest code cap keys (home code cap k) (length keys)
    next_new =
        ap (before code cap (keys ++ (k ∷ [])) (length keys)) (nth_here keys k [] (length keys) refl) ∙ latest_before keys (k ∷ []) (home code cap k) (length keys) (omega arith)

    pub cell_new : cell_of code cap (keys ++ (k ∷ [])) (length keys) ≡ record { key = Some k; first = cond (eqb (home code cap k) (length keys)) (Some (length keys)) (latest code cap keys (length keys) (length keys)); next = latest code cap keys (home code cap k) (length keys) }
    cell_new = λ j. record { key = nth_here keys k [] (length keys) refl j; first = last_first (length keys) j; next = next_new j }

    pub cell_free : cell_of code cap keys (length keys) ≡ record { key = None; first = latest code cap keys (length keys) (length keys); next = None }
    cell_free =
        let none = slice_get_past keys (length keys) (omega arith) in
        λ j. record { key = none j; first = latest code cap keys (length keys) (length keys); next = before code cap keys (length keys) (none j) }

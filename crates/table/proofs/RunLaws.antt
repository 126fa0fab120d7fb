-- The laws over whole runs of a table.
use Rattle.std.proofs.lemmas.Option.{same_Some, slice_get_within}
use Rattle.std.proofs.Common.{◌≡◌, ℕ, Bool, true, List, [], ◌∷◌, ◌++◌, length, take, Some, Ok, All, Result, sym, refl, ap, ◌∙◌, ⊎_elim, arith}
use Rattle.std.proofs.lemmas.List.{length-take}
use Rattle.std.proofs.lemmas.List.Elements.{All-head, All-tail}
use Rattle.std.proofs.lemmas.Bool.{cases_order, cases_lt, true≢false}
use Rattle.std.specs.List.{slice_get}
use Rattle.table.specs.Cells.{keys_in}
use Rattle.table.specs.Filled.{filled, Filled}
use Rattle.table.specs.Keys.{KeyLaws, Apart, Held}
use Rattle.table.specs.Runs.{Event, sought, Does, seeks, cuts, clears, Runs, stays, then, Spares, TableLaws}
use Rattle.table.specs.Tables.{FindsOrAdds, found, appended, refused}
use Rattle.table.specs.declared.cell.Cell.{Cell}
use Rattle.table.specs.declared.table.Full.{Full}
use Rattle.table.proofs.Numbered.{nth_before, nth_here, nth_take}
use Rattle.table.proofs.Soundness.{apart_more, none_apart}

module _ {K : Type 0} (same : K → K → Bool) (cap : ℕ) where
  -- ---- no two keys are equal after any run

  apart_sought : (keys : List K) (k : K) (r : Result ℕ Full) (after : List K) → Apart same keys → FindsOrAdds same cap keys k r after → Apart same after
  apart_sought keys k _ _ apart (found n held) = apart
  apart_sought keys k _ _ apart (appended none room) = apart_more same keys k apart none
  apart_sought keys k _ _ apart (refused full none long) = apart

  apart_cut : (keys : List K) (n : ℕ) → Apart same keys → Apart same (take n keys)
  apart_cut keys n apart i j x y lt at_i at_j =
      ⊎_elim
      (λ inside. apart i j x y lt (sym (nth_take n keys i (omega arith)) ∙ at_i) (sym (nth_take n keys j inside) ∙ at_j))
      (λ past. absurd (omega (arith, slice_get_within (take n keys) j y at_j, length-take n keys)))
      (cases_lt j n)

  apart_does : (keys after : List K) (e : Event K) → Apart same keys → Does same cap keys e after → Apart same after
  apart_does keys _ _ apart (seeks {k} {r} {after} s) = apart_sought keys k r after apart s
  apart_does keys _ _ apart (cuts n) = apart_cut keys n apart
  apart_does keys _ _ apart clears = none_apart same [] refl

  -- ---- runs, one after the other

  -- a run of two lists of calls stops between them
  pub record Split (keys : List K) (es fs : List (Event K)) (after : List K) : Type 0 where
    pub mid : List K
    pub front : Runs same cap keys es mid
    pub back : Runs same cap mid fs after

  split : (keys : List K) (es fs : List (Event K)) (after : List K) → Runs same cap keys (es ++ fs) after → Split keys es fs after
  split keys [] fs after run = record { mid = keys; front = stays; back = run }
  split keys (e ∷ es) fs after (then {mid = next} does run) =
      let rest = split next es fs after run in
      record { mid = rest.mid; front = then does rest.front; back = rest.back }

  apart_run : (keys : List K) (es : List (Event K)) (after : List K) → Apart same keys → Runs same cap keys es after → Apart same after
  apart_run keys _ _ apart stays = apart
  apart_run keys _ after apart (then {mid = mid} {e = e} {es = es} does run) = apart_run mid es after (apart_does keys mid e apart does) run

  -- ---- a number stays with its key

  kept_sought : (keys : List K) (k : K) (r : Result ℕ Full) (after : List K) (n : ℕ) (x : K) → slice_get keys n ≡ Some x → FindsOrAdds same cap keys k r after → slice_get after n ≡ Some x
  kept_sought keys k _ _ n x is (found m held) = is
  kept_sought keys k _ _ n x is (appended none room) = nth_before keys (k ∷ []) n (slice_get_within keys n x is) ∙ is
  kept_sought keys k _ _ n x is (refused full none long) = is

  kept_does : (keys after : List K) (e : Event K) (n : ℕ) (x : K) → Spares n e → slice_get keys n ≡ Some x → Does same cap keys e after → slice_get after n ≡ Some x
  kept_does keys _ _ n x spares is (seeks {k} {r} {after} s) = kept_sought keys k r after n x is s
  kept_does keys _ _ n x spares is (cuts m) = nth_take m keys n spares ∙ is
  kept_does keys _ _ n x spares is clears = absurd spares

  kept_run : (keys : List K) (es : List (Event K)) (after : List K) (n : ℕ) (x : K) → All (Spares n) es → slice_get keys n ≡ Some x → Runs same cap keys es after → slice_get after n ≡ Some x
  kept_run keys _ _ n x all is stays = is
  kept_run keys _ after n x all is (then {mid = mid} {e = e} {es = es} does run) = kept_run mid es after n x (All-tail (Spares n) e es all) (kept_does keys mid e n x (All-head (Spares n) e es all) is does) run

  module _ (code : K → ℕ) (laws : KeyLaws same code) where
    -- an answer is the number of an equal key
    answered : (keys : List K) (k : K) (n : ℕ) (after : List K) → FindsOrAdds same cap keys k (Ok n) after → Held same after k n
    answered keys k _ _ (found n held) = held
    answered keys k _ _ (appended none room) = (k, nth_here keys k [] (length keys) refl, laws.reflexive k)

    -- a later answer for j, where the number n has the key x
    later_same : (keys : List K) (j : K) (m : ℕ) (after : List K) (n : ℕ) (x : K) → slice_get keys n ≡ Some x → FindsOrAdds same cap keys j (Ok m) after → n ≡ m → same x j ≡ true
    later_same keys j _ _ n x is (found m (y, at-m, eq)) e = ap (λ z. same z j) (same_Some x y (sym is ∙ ap (slice_get keys) e ∙ at-m)) ∙ eq
    later_same keys j _ _ n x is (appended none room) e = absurd (omega (arith, slice_get_within keys n x is))

    later_number : (keys : List K) (j : K) (m : ℕ) (after : List K) (n : ℕ) (x : K) → Apart same keys → slice_get keys n ≡ Some x → FindsOrAdds same cap keys j (Ok m) after → same x j ≡ true → n ≡ m
    later_number keys j _ _ n x apart is (found m (y, at-m, eq)) h =
        let both : same x y ≡ true = laws.transitive x j y h (laws.symmetric y j eq) in
        ⊎_elim (λ e. e)
        (⊎_elim
        (λ lt. absurd (true≢false (sym both ∙ apart n m x y lt is at-m)))
        (λ gt. absurd (true≢false (sym (laws.symmetric x y both) ∙ apart m n y x gt at-m is))))
        (cases_order n m)
    later_number keys j _ _ n x apart is (appended none room) h = absurd (true≢false (sym h ∙ none n x is))

    last_call : (keys : List K) (k : K) (r : Result ℕ Full) (es : List (Event K)) (after : List K) → Runs same cap keys (sought k r ∷ es) after → (mid : List K) × FindsOrAdds same cap keys k r mid × Runs same cap mid es after
    last_call keys k r es after (then {mid = mid} (seeks s) run) = (mid, s, run)

    one_number : (before between : List (Event K)) (k j : K) (n m : ℕ) (after : List K)
        → Runs same cap [] (before ++ (sought k (Ok n) ∷ (between ++ (sought j (Ok m) ∷ [])))) after
        → All (Spares n) between → ((n ≡ m → same k j ≡ true) × (same k j ≡ true → n ≡ m))
    one_number before between k j n m after run spared =
        let first = split [] before (sought k (Ok n) ∷ (between ++ (sought j (Ok m) ∷ []))) after run in
        let call = last_call first.mid k (Ok n) (between ++ (sought j (Ok m) ∷ [])) after first.back in
        let held = answered first.mid k n call.0 call.1 in
        let x = held.0 in
        let second = split call.0 between (sought j (Ok m) ∷ []) after call.2 in
        let last = last_call second.mid j (Ok m) [] after second.back in
        let is = kept_run call.0 between second.mid n x spared held.1 second.front in
        let apart = apart_run call.0 between second.mid (apart_sought first.mid k (Ok n) call.0 (apart_run [] before first.mid (none_apart same [] refl) first.front) call.1) second.front in (
          λ e. laws.transitive k x j (laws.symmetric x k held.2) (later_same second.mid j m last.0 n x is last.1 e),
          λ h. later_number second.mid j m last.0 n x apart is last.1 (laws.transitive x k j held.2 h),
        )

    same_cells : (a b : List (Cell K)) → Filled code a → Filled code b → length a ≡ length b → keys_in a ≡ keys_in b → a ≡ b
    same_cells a b p q long keys = p.all ∙ (λ i. filled code (long i) (keys i)) ∙ sym q.all

    pub table_laws : TableLaws same code cap
    table_laws = record { one_number = one_number; same_cells = same_cells }

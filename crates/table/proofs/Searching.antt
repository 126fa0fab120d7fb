-- The search along a chain.
use Rattle.std.proofs.lemmas.Option.{slice_get_within}
use Rattle.std.proofs.Common.{◌≡◌, ℕ, suc, ◌%◌, ◌<◌, ◌≤◌, Bool, true, false, List, length, Some, None, Option, sym, refl, ap, ◌∙◌, ⊎_elim, arith}
use Rattle.std.proofs.lemmas.Bool.{cases_Bool, cases_lt, eqb-true, eq-eqb, true≢false}
use Rattle.std.specs.List.{slice_get}
use Rattle.table.specs.Filled.{home, falls_on, latest, before}
use Rattle.table.specs.Keys.{Absent, Held, has_same}
use Rattle.table.proofs.Chains.{Latest, latest_some, latest_none}
use Rattle.table.proofs.Numbered.{nth_some}

-- how far a chain can still go
abbrev pub reach : Option ℕ → ℕ
reach None = 0
reach (Some n) = suc n

module _ {K : Type 0} (same : K → K → Bool) (code : K → ℕ) (cap : ℕ) (keys : List K) (key : K) where
  -- the search goes on at a place: it is the chain of the key below m, and from m on no key is equal
  pub record Searching (m : ℕ) (at : Option ℕ) : Type 0 where
    pub chain : at ≡ latest code cap keys (home code cap key) m
    pub bound : m ≤ length keys
    pub passed : (j : ℕ) (x : K) → m ≤ j → slice_get keys j ≡ Some x → same x key ≡ false

  pub start : Searching (length keys) (latest code cap keys (home code cap key) (length keys))
  start = record { chain = refl; bound = omega arith; passed = λ j x le e. absurd (omega (arith, slice_get_within keys j x e)) }

  -- no cells, no keys
  pub none_held : length keys ≡ 0 → Absent same keys key
  none_held none j x is = absurd (omega (arith, slice_get_within keys j x is))

  -- what follows as equal keys have equal hashes
  module _ (same_code : (x y : K) → same x y ≡ true → code x ≡ code y) where
    -- a key of another chain is not equal
    other_chain : (j : ℕ) (x : K) → slice_get keys j ≡ Some x → falls_on code cap (home code cap key) (slice_get keys j) ≡ false → same x key ≡ false
    other_chain j x e off =
        ⊎_elim
        (λ h. absurd (true≢false (sym (eq-eqb (home code cap x) (home code cap key) (ap (λ c. c % cap) (same_code x key h))) ∙ sym (ap (falls_on code cap (home code cap key)) e) ∙ off)))
        (λ h. h)
        (cases_Bool (same x key))

    module _ (m n : ℕ) (so : Searching m (Some n)) where
      here : Latest code cap keys (home code cap key) m n
      here = latest_some code cap keys (home code cap key) m n (sym so.chain)

      pub number_inside : n < length keys
      number_inside = omega (arith, here.earlier, so.bound)

      pub found_here : has_same same key (slice_get keys n) ≡ true → Held same keys key n
      found_here h = let x = nth_some keys n number_inside in (x.0, x.1, sym (ap (has_same same key) x.1) ∙ h)

      next_chain : before code cap keys n (slice_get keys n) ≡ latest code cap keys (home code cap key) n
      next_chain =
          let x = nth_some keys n number_inside in
          let on : home code cap x.0 ≡ home code cap key = eqb-true _ _ (sym (ap (falls_on code cap (home code cap key)) x.1) ∙ here.falls) in
          ap (before code cap keys n) x.1 ∙ ap (λ b. latest code cap keys b n) on

      pub step : has_same same key (slice_get keys n) ≡ false → (at : Option ℕ) → at ≡ before code cap keys n (slice_get keys n) → Searching n at
      step h at e = record {
        chain = e ∙ next_chain;
        bound = omega (arith, number_inside);
        passed = λ j x le is.
            ⊎_elim
            (λ early.
            ⊎_elim
            (λ later. other_chain j x is (here.none_between j later early))
            (λ last. let same_place : j ≡ n = omega arith in sym (ap (has_same same key) (ap (slice_get keys) (sym same_place) ∙ is)) ∙ h)
            (cases_lt n j))
            (λ late. so.passed j x late is)
            (cases_lt j m);
      }

      pub falls : (at : Option ℕ) → at ≡ before code cap keys n (slice_get keys n) → reach at < reach (Some n)
      falls None e = omega arith
      falls (Some p) e = omega (arith, (latest_some code cap keys (home code cap key) n p (sym next_chain ∙ sym e)).earlier)

    pub finish : (m : ℕ) → Searching m None → Absent same keys key
    finish m so j x is =
        ⊎_elim
        (λ early. other_chain j x is (latest_none code cap keys (home code cap key) m (sym so.chain) j early))
        (λ late. so.passed j x late is)
        (cases_lt j m)

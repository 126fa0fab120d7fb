-- What names stand for that are numbered on as symbols.
use Rattle.std.proofs.Common.{◌≡◌, ℕ, zero, suc, ◌+◌, ◌<◌, false, List, [], ◌∷◌, ◌++◌, map, length, Some, None, sym, refl, ap, ◌∙◌, ⊎_elim, arith}
use Rattle.std.proofs.lemmas.Slice.Eq.{bytes_eq-Decides}
use Rattle.std.proofs.lemmas.List.{get_or_append_left, get_or_at, length-append}
use Rattle.std.proofs.lemmas.Bool.{cases_Bool, cond-false, cond-true}
use Rattle.std.specs.Str.{bytes_eq}
use Rattle.model.specs.Spelling.{spelling}
use Rattle.model.specs.declared.fact.Fact.{Fact}
use Rattle.model.specs.declared.name.Name.{Name}
use Rattle.sheets.specs.RuleLaws.{name_at}
use Rattle.sheets.specs.RuleSheets.{fact_symbols}
use Rattle.sheets.specs.Symbols.{signal_of, symbol}
use Rattle.sheets.specs.declared.symbol.Symbol.{Symbol}

-- each name stands for its place, from a first one on
abbrev pub numbered : ℕ → List Name → List Symbol
numbered place [] = []
numbered place (n ∷ ns) = symbol n place ∷ numbered (suc place) ns

pub facts_numbered : (place : ℕ) (fs : List Fact) → fact_symbols place fs ≡ numbered place (map (λ f. f.name) fs)
facts_numbered place [] = refl
facts_numbered place (f ∷ fs) = ap (λ ss. symbol f.name place ∷ ss) (facts_numbered (suc place) fs)

pub numbered_push : (place : ℕ) (ns : List Name) (n : Name) → numbered place ns ++ (symbol n (place + length ns) ∷ []) ≡ numbered place (ns ++ (n ∷ []))
numbered_push place [] n = ap (λ k. symbol n k ∷ []) (omega arith)
numbered_push place (m ∷ ns) n =
    let e : place + suc (length ns) ≡ suc place + length ns = omega arith in
    ap (λ ss. symbol m place ∷ ss) (ap (λ k. numbered (suc place) ns ++ (symbol n k ∷ [])) e ∙ numbered_push (suc place) ns n)

pub numbered_long : (place : ℕ) (ns : List Name) → length (numbered place ns) ≡ length ns
numbered_long place [] = refl
numbered_long place (n ∷ ns) = ap suc (numbered_long (suc place) ns)

-- ---- names that differ

abbrev pub Differ : List Name → Type 0
Differ ns = (i j : ℕ) → i < j → j < length ns → spelling (name_at ns i) ≡ spelling (name_at ns j) → ⊥

pub other_bytes : (xs ys : List ℕ) → (xs ≡ ys → ⊥) → bytes_eq xs ys ≡ false
other_bytes xs ys apart = ⊎_elim (λ same. absurd (apart ((bytes_eq-Decides xs ys).0 same))) (λ other. other) (cases_Bool (bytes_eq xs ys))

pub numbered_signal : (place : ℕ) (ns : List Name) → Differ ns → (s : ℕ) → s < length ns → signal_of (numbered place ns) (spelling (name_at ns s)) ≡ Some (place + s)
numbered_signal place [] differ s lt = absurd (omega arith)
numbered_signal place (n ∷ ns) differ zero lt =
    let e : place ≡ place + 0 = omega arith in
    cond-true (bytes_eq (spelling n) (spelling n)) _ _ ((bytes_eq-Decides (spelling n) (spelling n)).1 refl) ∙ ap Some e
numbered_signal place (n ∷ ns) differ (suc s) lt =
    let e : suc place + s ≡ place + suc s = omega arith in
    cond-false (bytes_eq (spelling n) (spelling (name_at ns s))) _ _ (other_bytes (spelling n) (spelling (name_at ns s)) (differ 0 (suc s) (omega arith) lt))
    ∙ numbered_signal (suc place) ns (λ i j less inside. differ (suc i) (suc j) (omega arith) (omega arith)) s (omega arith) ∙ ap Some e

pub numbered_absent : (place : ℕ) (ns : List Name) (word : List ℕ) → ((i : ℕ) → i < length ns → spelling (name_at ns i) ≡ word → ⊥) → signal_of (numbered place ns) word ≡ None
numbered_absent place [] word absent = refl
numbered_absent place (n ∷ ns) word absent =
    cond-false (bytes_eq (spelling n) word) _ _ (other_bytes (spelling n) word (absent 0 (omega arith)))
    ∙ numbered_absent (suc place) ns word (λ i lt. absent (suc i) (omega arith))

-- ---- the first of several names

module _ (ns before after : List Name) (is : before ++ after ≡ ns) where
  pub name_first : (s : ℕ) → s < length before → name_at before s ≡ name_at ns s
  name_first s lt = sym (get_or_append_left before after _ s lt) ∙ ap (λ l. name_at l s) is

  pub first_long : length before + length after ≡ length ns
  first_long = sym (length-append before after) ∙ ap length is

  pub first_differ : Differ ns → Differ before
  first_differ differ i j less inside same =
      differ i j less (omega (arith, first_long))
      (ap spelling (sym (name_first i (omega arith))) ∙ same ∙ ap spelling (name_first j inside))

  pub first_signal : Differ ns → (s : ℕ) → s < length before → signal_of (numbered 0 before) (spelling (name_at ns s)) ≡ Some s
  first_signal differ s lt =
      let e : 0 + s ≡ s = omega arith in
      ap (λ n. signal_of (numbered 0 before) (spelling n)) (sym (name_first s lt)) ∙ numbered_signal 0 before (first_differ differ) s lt ∙ ap Some e

-- the next name is new
here_is : (ns before after : List Name) (n : Name) → before ++ (n ∷ after) ≡ ns → name_at ns (length before) ≡ n
here_is ns before after n is = ap (λ l. name_at l (length before)) (sym is) ∙ get_or_at before n after _ (length before) refl

pub next_absent : (ns before after : List Name) (n : Name) → before ++ (n ∷ after) ≡ ns → Differ ns → signal_of (numbered 0 before) (spelling n) ≡ None
next_absent ns before after n is differ =
    let long = first_long ns before (n ∷ after) is in
    numbered_absent 0 before (spelling n)
    (λ i lt same.
    differ i (length before) lt (omega arith)
    (ap spelling (sym (name_first ns before (n ∷ after) is i lt)) ∙ same ∙ ap spelling (sym (here_is ns before after n is))))

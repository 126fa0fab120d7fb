-- What a search in the symbol table finds.
use Rattle.std.proofs.Common.{◌≡◌, ℕ, zero, suc, ◌+◌, ◌<◌, Bool, true, false, ◌||◌, List, [], ◌∷◌, ◌++◌, length, get_or, take, drop, is_some, Some, None, Option, Result, unwrap_or, sym, refl, ap, ◌∙◌, subst, ⊎_elim, arith}
use Rattle.std.proofs.lemmas.Option.{none-some}
use Rattle.std.proofs.lemmas.Slice.Eq.{bytes_eq-Decides}
use Rattle.std.proofs.lemmas.List.{length-take-le}
use Rattle.std.proofs.lemmas.Bool.{cond-true, cond-false, cases_Bool, true≢false}
use Rattle.std.proofs.lemmas.Bool.Decides.{same_from_decides}
use Rattle.std.specs.List.{list_any, slice_get}
use Rattle.std.specs.Str.{bytes_eq}
use Rattle.model.proofs.Spelling.{alike, alike_decides}
use Rattle.model.specs.Facts.{Different, names}
use Rattle.model.specs.Spelling.{spelling}
use Rattle.model.specs.declared.fact.Fact.{Fact}
use Rattle.model.specs.declared.name.Name.{Name}
use Rattle.model.specs.declared.output.Output.{Output}
use Rattle.table.specs.Keys.{Apart, Held}
use Rattle.table.specs.Tables.{FindsOrAdds, found, appended, refused}
use Rattle.table.specs.declared.table.Full.{Full}
use Rattle.sheets.specs.RuleSheets.{fact_symbols, lists}
use Rattle.sheets.specs.Symbols.{known, signal_of, signal_or_zero, symbol}
use Rattle.sheets.specs.declared.symbol.Symbol.{Symbol}
use Rattle.sheets.proofs.WrittenBack.{new_here}

pub same_some : {X : Type 0} {x y : X} → ◌≡◌ {A = Option X} (Some x) (Some y) → x ≡ y
same_some e = cc

-- how `==` tells symbols apart
abbrev pub same_key : Symbol → Symbol → Bool
same_key a b = alike a.name b.name

-- what `==` at two names answers
pub alike_bytes : (a b : Name) → alike a b ≡ bytes_eq (spelling a) (spelling b)
alike_bytes a b = same_from_decides _ _ (alike_decides a b) (bytes_eq-Decides (spelling a) (spelling b))

pub apart_tail : (s : Symbol) (ss : List Symbol) → Apart same_key (s ∷ ss) → Apart same_key ss
apart_tail s ss apart i j x y lt at_i at_j = apart (suc i) (suc j) x y (omega arith) at_i at_j

-- a name that is held stands for the signal beside it
pub held_signal : (ss : List Symbol) → Apart same_key ss → (word : List ℕ) (n : ℕ) (x : Symbol) → slice_get ss n ≡ Some x → bytes_eq (spelling x.name) word ≡ true → signal_of ss word ≡ Some x.signal
held_signal [] apart word n x at same = absurd (none-some _ at)
held_signal (s ∷ ss) apart word zero x at same =
    let e : s ≡ x = same_some at in
    cond-true (bytes_eq (spelling s.name) word) _ _ (ap (λ k. bytes_eq (spelling k.name) word) e ∙ same) ∙ ap (λ k. Some k.signal) e
held_signal (s ∷ ss) apart word (suc n) x at same =
    ⊎_elim
    (λ h.
    let is = (bytes_eq-Decides (spelling s.name) word).0 h in
    let was = (bytes_eq-Decides (spelling x.name) word).0 same in
    absurd (true≢false (sym ((alike_decides s.name x.name).1 (is ∙ sym was)) ∙ apart 0 (suc n) s x (omega arith) refl at)))
    (λ h. cond-false (bytes_eq (spelling s.name) word) _ _ h ∙ held_signal ss (apart_tail s ss apart) word n x at same)
    (cases_Bool (bytes_eq (spelling s.name) word))

-- a name that is not held is not known
pub absent_signal : (ss : List Symbol) (word : List ℕ) → ((i : ℕ) (x : Symbol) → slice_get ss i ≡ Some x → bytes_eq (spelling x.name) word ≡ false) → signal_of ss word ≡ None
absent_signal [] word absent = refl
absent_signal (s ∷ ss) word absent =
    cond-false (bytes_eq (spelling s.name) word) _ _ (absent 0 s refl) ∙ absent_signal ss word (λ i x at. absent (suc i) x at)

-- ---- facts

pub facts_long : (p : ℕ) (fs : List Fact) → length (fact_symbols p fs) ≡ length fs
facts_long p [] = refl
facts_long p (f ∷ fs) = ap suc (facts_long (suc p) fs)

pub facts_push : (p : ℕ) (fs : List Fact) (f : Fact) → fact_symbols p (fs ++ (f ∷ [])) ≡ fact_symbols p fs ++ (symbol f.name (p + length fs) ∷ [])
facts_push p [] f = ap (λ k. symbol f.name k ∷ []) (omega arith)
facts_push p (g ∷ fs) f =
    let e : suc p + length fs ≡ p + suc (length fs) = omega arith in
    ap (λ ss. symbol g.name p ∷ ss) (facts_push (suc p) fs f ∙ ap (λ k. fact_symbols (suc p) fs ++ (symbol f.name k ∷ [])) e)

pub fact_named : (p : ℕ) (fs : List Fact) (n : ℕ) (x : Symbol) → slice_get (fact_symbols p fs) n ≡ Some x → (n < length fs) × (spelling x.name ≡ get_or (names fs) n [])
fact_named p [] n x at = absurd (none-some _ at)
fact_named p (f ∷ fs) zero x at = (omega arith, ap (λ k. spelling k.name) (sym (same_some at)))
fact_named p (f ∷ fs) (suc n) x at = let rest = fact_named (suc p) fs n x at in (omega (arith, rest.0), rest.1)

-- what a search in the table answers
pub found_signal : (ss : List Symbol) → Apart same_key ss → (name : Name) (n : ℕ) (x : Symbol) → Held same_key ss (symbol name 0) n → slice_get ss n ≡ Some x → signal_of ss (spelling name) ≡ Some x.signal
found_signal ss apart name n x (y, at, same) at' =
    let e : y ≡ x = same_some (sym at ∙ at') in
    held_signal ss apart (spelling name) n x at' (sym (alike_bytes x.name name) ∙ ap (λ k. alike k.name name) (sym e) ∙ same)

-- a name that is not known is not held
pub fresh_held : (ss : List Symbol) → Apart same_key ss → (s : Symbol) (n : ℕ) → signal_of ss (spelling s.name) ≡ None → Held same_key ss s n → ⊥
fresh_held ss apart s n fresh (y, at, same) = none-some _ (sym fresh ∙ held_signal ss apart (spelling s.name) n y at (sym (alike_bytes y.name s.name) ∙ same))

-- what adding a new name does
pub adds_fresh : (cap : ℕ) (ss after : List Symbol) (s : Symbol) (r : Result ℕ Full) → Apart same_key ss → signal_of ss (spelling s.name) ≡ None → length ss < cap → FindsOrAdds same_key cap ss s r after → after ≡ ss ++ (s ∷ [])
adds_fresh cap ss _ s _ apart fresh room (found n held) = absurd (fresh_held ss apart s n fresh held)
adds_fresh cap ss _ s _ apart fresh room (appended absent more) = refl
adds_fresh cap ss _ s _ apart fresh room (refused full absent none) = absurd (omega arith)

-- the next fact's name is new, since all differ
pub fact_fresh : (fs gs : List Fact) (g : Fact) → Different (fs ++ (g ∷ gs)) → signal_of (fact_symbols 0 fs) (spelling g.name) ≡ None
fact_fresh fs gs g apart =
    absent_signal (fact_symbols 0 fs) (spelling g.name)
    (λ i x at.
    let found = fact_named 0 fs i x at in
    ⊎_elim
    (λ h.
    let same = (bytes_eq-Decides (spelling x.name) (spelling g.name)).0 h in
    absurd (new_here fs g gs apart (i, found.0, sym found.1 ∙ same)))
    (λ h. h)
    (cases_Bool (bytes_eq (spelling x.name) (spelling g.name))))

-- a list around the element at a place
pub nth_split : {X : Type 0} (xs : List X) (i : ℕ) (x : X) → slice_get xs i ≡ Some x → xs ≡ take i xs ++ (x ∷ drop (suc i) xs)
nth_split [] i x at = absurd (none-some _ at)
nth_split (y ∷ ys) zero x at = ap (λ z. z ∷ ys) (same_some at)
nth_split (y ∷ ys) (suc i) x at = ap (λ zs. y ∷ zs) (nth_split ys i x at)

pub nth_take : {X : Type 0} (xs : List X) (i : ℕ) (x : X) → slice_get xs i ≡ Some x → take (suc i) xs ≡ take i xs ++ (x ∷ [])
nth_take [] i x at = absurd (none-some _ at)
nth_take (y ∷ ys) zero x at = ap (λ z. z ∷ []) (same_some at)
nth_take (y ∷ ys) (suc i) x at = ap (λ zs. y ∷ zs) (nth_take ys i x at)

pub nth_below : {X : Type 0} (xs : List X) (i : ℕ) (x : X) → slice_get xs i ≡ Some x → i < length xs
nth_below [] i x at = absurd (none-some _ at)
nth_below (y ∷ ys) zero x at = omega arith
nth_below (y ∷ ys) (suc i) x at = omega (arith, nth_below ys i x at)

-- the fact at a place is the next to be entered
module _ (fs : List Fact) (i : ℕ) (f : Fact) (at : slice_get fs i ≡ Some f) where
  pub next_fresh : Different fs → signal_of (fact_symbols 0 (take i fs)) (spelling f.name) ≡ None
  next_fresh apart = fact_fresh (take i fs) (drop (suc i) fs) f (subst Different (nth_split fs i f at) apart)

  pub next_long : length (fact_symbols 0 (take i fs)) ≡ i
  next_long = facts_long 0 (take i fs) ∙ length-take-le i fs (omega (arith, nth_below fs i f at))

  pub next_entered : fact_symbols 0 (take i fs) ++ (symbol f.name i ∷ []) ≡ fact_symbols 0 (take (i + 1) fs)
  next_entered =
      let e : 0 + length (take i fs) ≡ i = omega (arith, length-take-le i fs (omega (arith, nth_below fs i f at))) in
      let one : suc i ≡ i + 1 = omega arith in
      ap (λ k. fact_symbols 0 (take i fs) ++ (symbol f.name k ∷ [])) (sym e) ∙ sym (facts_push 0 (take i fs) f)
      ∙ ap (fact_symbols 0) (sym (nth_take fs i f at)) ∙ ap (λ k. fact_symbols 0 (take k fs)) one

pub nth_at : {X : Type 0} (xs : List X) (i : ℕ) (x : X) → i < length xs → x ≡ get_or xs i x → slice_get xs i ≡ Some x
nth_at [] i x lt is = absurd (omega (arith, lt))
nth_at (y ∷ ys) zero x lt is = ap Some (sym is)
nth_at (y ∷ ys) (suc i) x lt is = nth_at ys i x (omega (arith, lt)) is

-- ---- names

-- an output is listed with a name if one of the outputs has it
pub lists_any : (os : List Output) (n : Name) → list_any (λ o. alike o.name n) os ≡ lists os (spelling n)
lists_any [] n = refl
lists_any (o ∷ os) n = λ i. alike_bytes o.name n i || lists_any os n i

-- a name that is known stands for the signal that was found
pub found_zero : (ss : List Symbol) (word : List ℕ) (n : ℕ) → Some n ≡ signal_of ss word → (known ss word ≡ true) × (n ≡ signal_or_zero ss word)
found_zero ss word n e = (ap is_some (sym e), ap (λ o. unwrap_or o 0) e)

-- How the tokens of a line begin.
use Rattle.std.proofs.Common.{◌≡◌, ℕ, suc, ◌+◌, ◌<◌, Some, None, Bool, true, false, eqb, List, [], ◌∷◌, ◌++◌, length, get_or, ◌≢◌, take, drop, sym, refl, ap, ◌∙◌, subst, ⊎_elim, arith}
use Rattle.std.proofs.lemmas.List.{take-append-drop}
use Rattle.std.proofs.lemmas.Bool.{and_parts, and_from, ne_eqb, cases_Bool, cond-true, cond-false, eqb-true, eqb-false, false≢true}
use Rattle.std.proofs.lemmas.Bool.Decides.{nat_tests}
use Rattle.std.specs.List.{prefix_len, slice_get}
use Rattle.model.specs.Names.{every, begins, is_word_byte}
use Rattle.sheets.specs.Lines.{says_nothing}
use Rattle.sheets.specs.Tokens.{tokens, joined_to}

-- no space belongs to a run
pub word_no_space : (b : ℕ) → is_word_byte b ≡ true → eqb b 32 ≡ false
word_no_space b h = grind (arith, nat_tests)

pub tokens_space : (b : ℕ) (bs : List ℕ) → b ≡ 32 → tokens (b ∷ bs) ≡ tokens bs
tokens_space b bs e = rw e

pub tokens_single : (b : ℕ) (bs : List ℕ) → (b ≡ 32 → ⊥) → is_word_byte b ≡ false → tokens (b ∷ bs) ≡ (b ∷ []) ∷ tokens bs
tokens_single b bs no-space no_word = rw (ne_eqb b 32 no-space, no_word)

pub tokens_joined : (b : ℕ) (bs : List ℕ) → is_word_byte b ≡ true → begins is_word_byte bs ≡ true → tokens (b ∷ bs) ≡ joined_to b (tokens bs)
tokens_joined b bs here next = rw (word_no_space b here, here, next)

pub tokens_last : (b : ℕ) (bs : List ℕ) → is_word_byte b ≡ true → begins is_word_byte bs ≡ false → tokens (b ∷ bs) ≡ (b ∷ []) ∷ tokens bs
tokens_last b bs here next = rw (word_no_space b here, here, next)

pub tokens_run : (word rest : List ℕ) → 0 < length word → every is_word_byte word ≡ true → begins is_word_byte rest ≡ false → tokens (word ++ rest) ≡ word ∷ tokens rest
tokens_run [] rest some all stop = absurd (omega arith)
tokens_run (b ∷ []) rest some all stop = tokens_last b rest (and_parts (is_word_byte b) true all).0 stop
tokens_run (b ∷ c ∷ word) rest some all stop =
    let both = and_parts (is_word_byte b) (every is_word_byte (c ∷ word)) all in
    let next = and_parts (is_word_byte c) (every is_word_byte word) both.1 in
    tokens_joined b ((c ∷ word) ++ rest) both.0 next.0 ∙ ap (joined_to b) (tokens_run (c ∷ word) rest (omega arith) both.1 stop)

-- the first that fails: where the prefix ends
pub prefix_more : (p : ℕ → Bool) (b : ℕ) (bs : List ℕ) → p b ≡ true → prefix_len p (b ∷ bs) ≡ suc (prefix_len p bs)
prefix_more p b bs h = cond-true (p b) (1 + prefix_len p bs) 0 h ∙ omega arith

pub prefix_none : (p : ℕ → Bool) (b : ℕ) (bs : List ℕ) → p b ≡ false → prefix_len p (b ∷ bs) ≡ 0
prefix_none p b bs h = cond-false (p b) (1 + prefix_len p bs) 0 h

-- spaces in front say nothing
pub tokens_skipped : (bs : List ℕ) → tokens (drop (prefix_len (λ b. eqb b 32) bs) bs) ≡ tokens bs
tokens_skipped [] = refl
tokens_skipped (b ∷ bs) =
    ⊎_elim
    (λ space. ap (λ n. tokens (drop n (b ∷ bs))) (prefix_more (λ c. eqb c 32) b bs space) ∙ tokens_skipped bs ∙ sym (tokens_space b bs (eqb-true b 32 space)))
    (λ other. ap (λ n. tokens (drop n (b ∷ bs))) (prefix_none (λ c. eqb c 32) b bs other))
    (cases_Bool (eqb b 32))

pub skipped_stops : (bs : List ℕ) → get_or (drop (prefix_len (λ b. eqb b 32) bs) bs) 0 0 ≢ 32
skipped_stops [] = λ e. omega (arith, e)
skipped_stops (b ∷ bs) =
    let S : ℕ → Type 0 = λ n. get_or (drop n (b ∷ bs)) 0 0 ≢ 32 in
    ⊎_elim
    (λ space. subst S (sym (prefix_more (λ c. eqb c 32) b bs space)) (skipped_stops bs))
    (λ other. subst S (sym (prefix_none (λ c. eqb c 32) b bs other)) (eqb-false b 32 other))
    (cases_Bool (eqb b 32))

-- a line that says nothing
pub skipped_nothing : (bs : List ℕ) → says_nothing (drop (prefix_len (λ b. eqb b 32) bs) bs) ≡ says_nothing bs
skipped_nothing [] = refl
skipped_nothing (b ∷ bs) =
    let S : ℕ → Type 0 = λ n. says_nothing (drop n (b ∷ bs)) ≡ says_nothing (b ∷ bs) in
    ⊎_elim
    (λ space. subst S (sym (prefix_more (λ c. eqb c 32) b bs space)) (skipped_nothing bs ∙ sym (cond-true (eqb b 32) (says_nothing bs) (eqb b 35) space)))
    (λ other. subst S (sym (prefix_none (λ c. eqb c 32) b bs other)) refl)
    (cases_Bool (eqb b 32))

pub nothing_left : (bs : List ℕ) → None ≡ slice_get bs 0 → true ≡ says_nothing bs
nothing_left [] e = refl
nothing_left (b ∷ bs) e = cc

pub comment_left : (bs : List ℕ) (b : ℕ) → Some b ≡ slice_get bs 0 → get_or bs 0 0 ≢ 32 → eqb b 35 ≡ says_nothing bs
comment_left [] b e stops = cc
comment_left (x ∷ bs) b e stops =
    let same : b ≡ x = cc in
    ap (λ y. eqb y 35) same ∙ sym (cond-false (eqb x 32) (says_nothing bs) (eqb x 35) (ne_eqb x 32 stops))

-- a line that begins with a run
record Ends (word rest : List ℕ) : Type 0 where
  all : every is_word_byte word ≡ true
  stops : begins is_word_byte rest ≡ false

run_ends : (bs : List ℕ) → Ends (take (prefix_len is_word_byte bs) bs) (drop (prefix_len is_word_byte bs) bs)
run_ends [] = record { all = refl; stops = refl }
run_ends (b ∷ bs) =
    let E : ℕ → Type 0 = λ n. Ends (take n (b ∷ bs)) (drop n (b ∷ bs)) in
    let tail = run_ends bs in
    ⊎_elim
    (λ more. subst E (sym (prefix_more is_word_byte b bs more)) (record { all = and_from (is_word_byte b) _ more tail.all; stops = tail.stops }))
    (λ last. subst E (sym (prefix_none is_word_byte b bs last)) (record { all = refl; stops = last }))
    (cases_Bool (is_word_byte b))

run_some : (bs : List ℕ) → begins is_word_byte bs ≡ true → (0 < length (take (prefix_len is_word_byte bs) bs)) × (begins is_word_byte (take (prefix_len is_word_byte bs) bs) ≡ true)
run_some [] h = absurd (false≢true h)
run_some (b ∷ bs) h =
    let S : ℕ → Type 0 = λ n. (0 < length (take n (b ∷ bs))) × (begins is_word_byte (take n (b ∷ bs)) ≡ true) in
    subst S (sym (prefix_more is_word_byte b bs h)) (omega arith, h)

pub record Run (bs word rest : List ℕ) : Type 0 where
  pub some : 0 < length word
  pub begun : begins is_word_byte word ≡ true
  pub next : tokens bs ≡ word ∷ tokens rest

pub first_run : (bs : List ℕ) → begins is_word_byte bs ≡ true → Run bs (take (prefix_len is_word_byte bs) bs) (drop (prefix_len is_word_byte bs) bs)
first_run bs h =
    let n = prefix_len is_word_byte bs in
    let some = run_some bs h in
    let ends = run_ends bs in
    record { some = some.0; begun = some.1; next = ap tokens (sym (take-append-drop n bs)) ∙ tokens_run (take n bs) (drop n bs) some.0 ends.all ends.stops }

-- Each `(` and `!` of a line is a token of its own.
use Rattle.std.specs.Prelude.{fold}
use Rattle.std.proofs.Common.{◌≡◌, ℕ, ◌+◌, ◌%◌, ◌^◌, ◌<◌, ◌≤◌, length, Bool, true, false, cond, eqb, List, [], ◌∷◌, sym, refl, ap, ◌∙◌, subst, ⊎_elim, arith}
use Rattle.std.proofs.lemmas.Bool.{cases_Bool, eqb-true, eqb-false, cond-true, cond-false}
use Rattle.std.proofs.lemmas.Bool.Decides.{nat_tests}
use Rattle.std.specs.List.{count_by}
use Rattle.std.proofs.lemmas.List.Sums.{sum_by-cons}
use Rattle.model.specs.Names.{begins, is_word_byte}
use Rattle.sheets.specs.Tokens.{tokens, joined_to, is_bracket, brackets, opens_deeper}
use Rattle.sheets.proofs.Words.{tokens_space, tokens_single, tokens_joined, tokens_last}

space_opens_none : (b : ℕ) → eqb b 32 ≡ true → opens_deeper b ≡ false
space_opens_none b h = grind (arith, nat_tests)

word_opens_none : (b : ℕ) → is_word_byte b ≡ true → opens_deeper b ≡ false
word_opens_none b h = grind (arith, nat_tests)

-- a token with a word byte in front is no bracket
word_no_bracket : (b : ℕ) (w : List ℕ) → is_word_byte b ≡ true → is_bracket (b ∷ w) ≡ false
word_no_bracket b [] h = word_opens_none b h
word_no_bracket b (c ∷ w) h = refl

-- the tokens begin with a run
abbrev RunFirst : List (List ℕ) → Type 0
RunFirst ts = (b : ℕ) × (w : List ℕ) × (ws : List (List ℕ)) × (ts ≡ (b ∷ w) ∷ ws) × (is_word_byte b ≡ true)

run_joined : (b : ℕ) (ts : List (List ℕ)) → is_word_byte b ≡ true → RunFirst (joined_to b ts)
run_joined b [] h = (b, [], [], refl, h)
run_joined b (w ∷ ws) h = (b, w, ws, refl, h)

run_first : (bs : List ℕ) → begins is_word_byte bs ≡ true → RunFirst (tokens bs)
run_first [] h = (0, [], [], ap (λ (t : Bool). cond t [] ((0 ∷ []) ∷ [])) (sym h), h)
run_first (b ∷ bs) h =
    ⊎_elim
    (λ more. subst RunFirst (sym (tokens_joined b bs h more)) (run_joined b (tokens bs) h))
    (λ last. subst RunFirst (sym (tokens_last b bs h last)) (b, [], tokens bs, refl, h))
    (cases_Bool (begins is_word_byte bs))

brackets_none : (w : List ℕ) (ws : List (List ℕ)) → is_bracket w ≡ false → brackets (w ∷ ws) ≡ brackets ws
brackets_none w ws h = cond-false (is_bracket w) (1 + brackets ws) (brackets ws) h

-- so one more word byte in front changes no count
joined_brackets : (b : ℕ) (ts : List (List ℕ)) → is_word_byte b ≡ true → RunFirst ts → brackets (joined_to b ts) ≡ brackets ts
joined_brackets b ts h (c, w, ws, e, k) =
    ap (λ us. brackets (joined_to b us)) e ∙ brackets_none (b ∷ c ∷ w) ws refl ∙ sym (brackets_none (c ∷ w) ws (word_no_bracket c w k)) ∙ ap brackets (sym e)

counted : (b : ℕ) (bs : List ℕ) → cond (opens_deeper b) (1 + count_by opens_deeper bs) (count_by opens_deeper bs) ≡ count_by opens_deeper (b ∷ bs)
counted b bs =
    let n = count_by opens_deeper bs in
    let total = sum_by-cons (λ c. cond (opens_deeper c) 1 0) b bs in
    ⊎_elim
    (λ yes. omega (arith, total, cond-true {A = ℕ} (opens_deeper b) 1 0 yes, cond-true (opens_deeper b) (1 + n) n yes))
    (λ no. omega (arith, total, cond-false {A = ℕ} (opens_deeper b) 1 0 no, cond-false (opens_deeper b) (1 + n) n no))
    (cases_Bool (opens_deeper b))

counted_not : (b : ℕ) (bs : List ℕ) → opens_deeper b ≡ false → count_by opens_deeper (b ∷ bs) ≡ count_by opens_deeper bs
counted_not b bs h = sym (counted b bs) ∙ cond-false (opens_deeper b) (1 + count_by opens_deeper bs) (count_by opens_deeper bs) h

pub brackets_bytes : (bs : List ℕ) → brackets (tokens bs) ≡ count_by opens_deeper bs
brackets_bytes [] = refl
brackets_bytes (b ∷ bs) =
    let none : opens_deeper b ≡ false → count_by opens_deeper (b ∷ bs) ≡ count_by opens_deeper bs = counted_not b bs in
    ⊎_elim
    (λ space. ap brackets (tokens_space b bs (eqb-true b 32 space)) ∙ brackets_bytes bs ∙ sym (none (space_opens_none b space)))
    (λ other.
    ⊎_elim
    (λ word.
    ⊎_elim
    (λ more. ap brackets (tokens_joined b bs word more) ∙ joined_brackets b (tokens bs) word (run_first bs more) ∙ brackets_bytes bs ∙ sym (none (word_opens_none b word)))
    (λ last. ap brackets (tokens_last b bs word last) ∙ brackets_none (b ∷ []) (tokens bs) (word_opens_none b word) ∙ brackets_bytes bs ∙ sym (none (word_opens_none b word)))
    (cases_Bool (begins is_word_byte bs)))
    (λ single.
    ap brackets (tokens_single b bs (eqb-false b 32 other) single)
    ∙ ap (λ n. cond (opens_deeper b) (1 + n) n) (brackets_bytes bs) ∙ counted b bs)
    (cases_Bool (is_word_byte b)))
    (cases_Bool (eqb b 32))

-- ---- adding up one for each, byte by byte

abbrev pub count_step : ℕ → ℕ → ℕ
count_step n b = (n + cond (opens_deeper b) 1 0) % 2 ^ 64

one_at_most : (t : Bool) → cond t 1 0 ≤ 1
one_at_most true = omega arith
one_at_most false = omega arith

pub counts_up : (bs : List ℕ) (n : ℕ) → n + length bs < 2 ^ 64 → fold count_step n bs ≡ n + count_by opens_deeper bs
counts_up [] n few = omega arith
counts_up (b ∷ bs) n few =
    let k = cond (opens_deeper b) 1 0 in
    let small : (n + k) % 2 ^ 64 ≡ n + k = omega (arith, few, one_at_most (opens_deeper b)) in
    ap (λ m. fold count_step m bs) small ∙ counts_up bs (n + k) (omega (arith, few, one_at_most (opens_deeper b))) ∙ omega (arith, sum_by-cons (λ x. cond (opens_deeper x) 1 0) b bs)

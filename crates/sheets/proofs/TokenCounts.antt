-- A line has at most as many tokens as bytes.
use Rattle.std.proofs.Common.{ℕ, ◌+◌, ◌≤◌, cond, ◌&&◌, eqb, List, [], ◌∷◌, length, ap, ◌∙◌, ⊎_elim, arith}
use Rattle.std.proofs.lemmas.Bool.{cases_Bool, cond-false, cond-true}
use Rattle.model.specs.Names.{begins, is_word_byte}
use Rattle.sheets.specs.Tokens.{joined_to, tokens}

joined_short : (b : ℕ) (ts : List (List ℕ)) (n : ℕ) → length ts ≤ n → length (joined_to b ts) ≤ n + 1
joined_short b [] n h = omega arith
joined_short b (w ∷ ws) n h = omega arith

pub tokens_short : (bs : List ℕ) → length (tokens bs) ≤ length bs
tokens_short [] = omega arith
tokens_short (b ∷ bs) =
    let more = tokens_short bs in
    let join = is_word_byte b && begins is_word_byte bs in
    let rest = cond join (joined_to b (tokens bs)) ((b ∷ []) ∷ tokens bs) in
    ⊎_elim
    (λ space. omega (arith, ap length (cond-true (eqb b 32) (tokens bs) rest space)))
    (λ other.
    ⊎_elim
    (λ j. omega (arith, ap length (cond-false (eqb b 32) (tokens bs) rest other ∙ cond-true join (joined_to b (tokens bs)) ((b ∷ []) ∷ tokens bs) j), joined_short b (tokens bs) (length bs) more))
    (λ j. omega (arith, ap length (cond-false (eqb b 32) (tokens bs) rest other ∙ cond-false join (joined_to b (tokens bs)) ((b ∷ []) ∷ tokens bs) j)))
    (cases_Bool join))
    (cases_Bool (eqb b 32))

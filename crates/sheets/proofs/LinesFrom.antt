-- The lines of a text whose first line is known.
use Rattle.std.proofs.Common.{◌≡◌, ℕ, ◌+◌, ◌-◌, ◌<◌, ◌≤◌, true, false, eqb, List, [], ◌∷◌, ◌++◌, length, get_or, take, drop, sym, ap, ◌∙◌, ⊎_elim, arith}
use Rattle.std.proofs.lemmas.Bool.{and_parts, cond-false, eqb-true, not-true, not-false}
use Rattle.std.proofs.lemmas.List.{drop_more, length-append, length-drop, take_all, take-append-drop}
use Rattle.model.specs.Names.{every}
use Rattle.sheets.specs.Lines.{line_at, in_front, inside_line, lines_from, heading, later, Parts}

pub line_cons : (p : ℕ) (xs ys : List ℕ) → every inside_line xs ≡ true → lines_from p (xs ++ (10 ∷ ys)) ≡ line_at p xs ∷ lines_from (p + length xs + 1) ys
line_cons p [] ys h = let e : p + 1 ≡ p + 0 + 1 = omega arith in ap (λ k. line_at p [] ∷ lines_from k ys) e
line_cons p (x ∷ xs) ys h =
    let both = and_parts (inside_line x) (every inside_line xs) h in
    let e : p + 1 + length xs + 1 ≡ p + length (x ∷ xs) + 1 = omega arith in
    cond-false (eqb x 10) _ _ (not-true (eqb x 10) both.0)
    ∙ ap (in_front p x) (line_cons (p + 1) xs ys both.1)
    ∙ ap (λ k. line_at p (x ∷ xs) ∷ lines_from k ys) e

-- a text without a newline is one line
last_line : (p : ℕ) (x : ℕ) (xs : List ℕ) → every inside_line (x ∷ xs) ≡ true → lines_from p (x ∷ xs) ≡ line_at p (x ∷ xs) ∷ []
last_line p x [] h = cond-false (eqb x 10) _ _ (not-true (eqb x 10) (and_parts (inside_line x) true h).0)
last_line p x (y ∷ xs) h =
    let both = and_parts (inside_line x) (every inside_line (y ∷ xs)) h in
    cond-false (eqb x 10) _ _ (not-true (eqb x 10) both.0) ∙ ap (in_front p x) (last_line (p + 1) y xs both.1)

one_line : (p : ℕ) (xs : List ℕ) → 0 < length xs → every inside_line xs ≡ true → lines_from p xs ≡ line_at p xs ∷ []
one_line p [] some h = absurd (omega (arith, some))
one_line p (x ∷ xs) some h = last_line p x xs h

-- a text whose first newline is at a place
pub cut_at : (text : List ℕ) (i : ℕ) → i < length text → inside_line (get_or text i 0) ≡ false → text ≡ take i text ++ (10 ∷ take (length text - (i + 1)) (drop (i + 1) text))
cut_at text i lt ends =
    let newline : get_or text i 0 ≡ 10 = eqb-true (get_or text i 0) 10 (not-false (eqb (get_or text i 0) 10) ends) in
    let rest : take (length text - (i + 1)) (drop (i + 1) text) ≡ drop (i + 1) text = take_all (length text - (i + 1)) (drop (i + 1) text) (omega (arith, length-drop (i + 1) text)) in
    sym (take-append-drop i text) ∙ ap (λ bs. take i text ++ bs) (drop_more text i 0 lt ∙ ap (λ b. b ∷ drop (i + 1) text) newline ∙ ap (λ bs. 10 ∷ bs) (sym rest))

-- what is taken of a text with its first line
pub parts_length : (text line rest : List ℕ) → Parts text line rest → length line + length rest ≤ length text
parts_length text line rest parts =
    ⊎_elim (λ cut. omega (arith, ap length cut, length-append line (10 ∷ rest))) (λ all. omega (arith, ap length all.0, ap length all.1)) parts.joined

pub parts_shorter : (text line rest : List ℕ) → Parts text line rest → length rest ≤ length text
parts_shorter text line rest parts =
    ⊎_elim
    (λ cut. omega (arith, ap length cut, length-append line (10 ∷ rest)))
    (λ all. omega (arith, ap length all.1))
    parts.joined

pub parts_lines : (p : ℕ) (text line rest : List ℕ) → Parts text line rest → 0 < length text → lines_from p text ≡ line_at p line ∷ lines_from (p + (length text - length rest)) rest
parts_lines p text line rest parts some =
    ⊎_elim
    (λ cut.
    let long : length text ≡ length line + (1 + length rest) = ap length cut ∙ length-append line (10 ∷ rest) ∙ omega arith in
    let at : p + length line + 1 ≡ p + (length text - length rest) = omega (arith, long) in
    ap (lines_from p) cut ∙ line_cons p line rest parts.inside ∙ ap (λ k. line_at p line ∷ lines_from k rest) at)
    (λ all.
    ap (lines_from p) all.0 ∙ one_line p line (omega (arith, ap length all.0, some)) parts.inside
    ∙ ap (λ bs. line_at p line ∷ lines_from (p + (length text - length rest)) bs) (sym all.1))
    parts.joined

-- the first line, also of an empty text
first_parts : (text line rest : List ℕ) → Parts text line rest → (heading (lines_from 0 text) ≡ line) × (later (lines_from 0 text) ≡ lines_from (length text - length rest) rest)
first_parts [] line rest parts =
    ⊎_elim
    (λ cut. absurd (omega (arith, ap length cut, length-append line (10 ∷ rest))))
    (λ all. (all.0, ap (λ bs. lines_from (0 - length rest) bs) (sym all.1)))
    parts.joined
first_parts (b ∷ bs) line rest parts =
    let ls = parts_lines 0 (b ∷ bs) line rest parts (omega arith) in
    let at : 0 + (length (b ∷ bs) - length rest) ≡ length (b ∷ bs) - length rest = omega arith in
    (ap heading ls, ap later ls ∙ ap (λ k. lines_from k rest) at)

pub parts_heading : (text line rest : List ℕ) → Parts text line rest → heading (lines_from 0 text) ≡ line
parts_heading text line rest parts = (first_parts text line rest parts).0

pub parts_later : (text line rest : List ℕ) → Parts text line rest → later (lines_from 0 text) ≡ lines_from (length text - length rest) rest
parts_later text line rest parts = (first_parts text line rest parts).1

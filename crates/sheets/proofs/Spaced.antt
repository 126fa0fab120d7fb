-- Lines whose tokens are parted by single spaces are read as these tokens.
use Rattle.std.proofs.Common.{◌≡◌, ℕ, ◌+◌, ◌<◌, ◌≤◌, Bool, true, false, ◌&&◌, eqb, leb, List, [], ◌∷◌, ◌++◌, length, Ok, All, Result, sym, refl, ap, ◌∙◌, subst, arith}
use Rattle.std.proofs.lemmas.List.{append_assoc, append-nil, length-append}
use Rattle.std.proofs.lemmas.List.Elements.{All-cons, All-head, All-tail}
use Rattle.std.proofs.lemmas.Bool.{and_from, and_parts, cond-false, eqb-false}
use Rattle.std.proofs.lemmas.Bool.Decides.{nat_tests}
use Rattle.std.specs.List.{flat_map}
use Rattle.model.proofs.Bytes.{every_append}
use Rattle.model.specs.Names.{begins, every, is_word_byte}
use Rattle.model.specs.declared.fault.Refusal.{Refusal}
use Rattle.sheets.specs.Lines.{inside_line, Line, line_at, lines_from, says_nothing, speaking}
use Rattle.sheets.specs.RuleLaws.{line_text, spaced}
use Rattle.sheets.specs.Sheets.{allowed, Reads, done, goes_on}
use Rattle.sheets.specs.Tokens.{tokens}
use Rattle.sheets.proofs.LinesFrom.{line_cons}
use Rattle.sheets.proofs.Words.{tokens_run, tokens_single, tokens_space}
use Rattle.sheets.proofs.WrittenBack.{weaker}

-- ---- tokens

-- a run of word bytes
pub record Run (w : List ℕ) : Type 0 where
  pub some : 0 < length w
  pub all : every is_word_byte w ≡ true

-- a token: a run, or another character that is seen
pub data Parted : List ℕ → Type 0 where
  run : {w : List ℕ} → Run w → Parted w
  single : (c : ℕ) → is_word_byte c ≡ false → (leb 33 c && leb c 126) ≡ true → Parted (c ∷ [])

-- a line: it begins with a run
pub data Speaks : List (List ℕ) → Type 0 where
  speaks : {w : List ℕ} {ws : List (List ℕ)} → Run w → All Parted ws → Speaks (w ∷ ws)

-- ---- their bytes

-- a character of a line
abbrev printable : ℕ → Bool
printable b = leb 32 b && leb b 126

printable_inside : (b : ℕ) → printable b ≡ true → inside_line b ≡ true
printable_inside b h = grind (arith, nat_tests)

printable_allowed : (b : ℕ) → printable b ≡ true → allowed b ≡ true
printable_allowed b h = grind (arith, nat_tests)

word_printable : (b : ℕ) → is_word_byte b ≡ true → printable b ≡ true
word_printable b h = grind (arith, nat_tests)

seen_printable : (b : ℕ) → (leb 33 b && leb b 126) ≡ true → printable b ≡ true
seen_printable b h = grind (arith, nat_tests)

seen_no_space : (b : ℕ) → (leb 33 b && leb b 126) ≡ true → eqb b 32 ≡ false
seen_no_space b h = grind (arith, nat_tests)

token_printable : (w : List ℕ) → Parted w → every printable w ≡ true
token_printable w (run r) = weaker is_word_byte printable word_printable w r.all
token_printable _ (single c no_word seen) = and_from (printable c) true (seen_printable c seen) refl

spaced_printable : (ts : List (List ℕ)) → All Parted ts → every printable (spaced ts) ≡ true
spaced_printable [] all = refl
spaced_printable (w ∷ []) all = token_printable w (All-head Parted w [] all)
spaced_printable (w ∷ v ∷ ws) all =
    every_append printable w (32 ∷ spaced (v ∷ ws)) (token_printable w (All-head Parted w (v ∷ ws) all)) (spaced_printable (v ∷ ws) (All-tail Parted w (v ∷ ws) all))

-- ---- their tokens

token_front : (w rest : List ℕ) → Parted w → begins is_word_byte rest ≡ false → tokens (w ++ rest) ≡ w ∷ tokens rest
token_front w rest (run r) stop = tokens_run w rest r.some r.all stop
token_front _ rest (single c no_word seen) stop = tokens_single c rest (eqb-false c 32 (seen_no_space c seen)) no_word

spaced_tokens : (ts : List (List ℕ)) → All Parted ts → tokens (spaced ts) ≡ ts
spaced_tokens [] all = refl
spaced_tokens (w ∷ []) all = ap tokens (sym (append-nil w)) ∙ token_front w [] (All-head Parted w [] all) refl
spaced_tokens (w ∷ v ∷ ws) all =
    token_front w (32 ∷ spaced (v ∷ ws)) (All-head Parted w (v ∷ ws) all) refl
    ∙ ap (λ us. w ∷ us) (tokens_space 32 (spaced (v ∷ ws)) refl ∙ spaced_tokens (v ∷ ws) (All-tail Parted w (v ∷ ws) all))

-- ---- lines

all_parted : (ts : List (List ℕ)) → Speaks ts → All Parted ts
all_parted _ (speaks {w = w} {ws = ws} r all) = All-cons Parted w ws (run r) all

word_speaks : (b : ℕ) (bs : List ℕ) → is_word_byte b ≡ true → says_nothing (b ∷ bs) ≡ false
word_speaks b bs h = grind (arith, nat_tests)

run_speaks : (w rest : List ℕ) → Run w → says_nothing (w ++ rest) ≡ false
run_speaks [] rest r = absurd (omega (arith, r.some))
run_speaks (b ∷ w) rest r = word_speaks b (w ++ rest) (and_parts (is_word_byte b) (every is_word_byte w) r.all).0

front_speaks : (w : List ℕ) (ws : List (List ℕ)) → Run w → says_nothing (spaced (w ∷ ws)) ≡ false
front_speaks w [] r = ap says_nothing (sym (append-nil w)) ∙ run_speaks w [] r
front_speaks w (v ∷ ws) r = run_speaks w (32 ∷ spaced (v ∷ ws)) r

spaced_speaks : (ts : List (List ℕ)) → Speaks ts → says_nothing (spaced ts) ≡ false
spaced_speaks _ (speaks {w = w} {ws = ws} r all) = front_speaks w ws r

-- the lines of a text that begins with such a line
first_line : (p : ℕ) (ts : List (List ℕ)) (rest : List ℕ) → Speaks ts → speaking (lines_from p (line_text ts ++ rest)) ≡ line_at p (spaced ts) ∷ speaking (lines_from (p + length (spaced ts) + 1) rest)
first_line p ts rest s =
    ap speaking (ap (lines_from p) (append_assoc (spaced ts) (10 ∷ []) rest) ∙ line_cons p (spaced ts) rest (weaker printable inside_line printable_inside (spaced ts) (spaced_printable ts (all_parted ts s))))
    ∙ cond-false (says_nothing (spaced ts)) _ _ (spaced_speaks ts s)

-- ---- whole texts

abbrev pub text_of : List (List (List ℕ)) → List ℕ
text_of tss = flat_map line_text tss

pub text_allowed : (tss : List (List (List ℕ))) → All Speaks tss → every allowed (text_of tss) ≡ true
text_allowed [] all = refl
text_allowed (ts ∷ tss) all =
    every_append allowed (line_text ts) (text_of tss)
    (every_append allowed (spaced ts) (10 ∷ []) (weaker printable allowed printable_allowed (spaced ts) (spaced_printable ts (all_parted ts (All-head Speaks ts tss all)))) refl)
    (text_allowed tss (All-tail Speaks ts tss all))

-- each line has its newline
pub text_long : (tss : List (List (List ℕ))) → length tss ≤ length (text_of tss)
text_long [] = omega arith
text_long (ts ∷ tss) = omega (arith, length-append (line_text ts) (text_of tss), length-append (spaced ts) (10 ∷ []), text_long tss)

module _ {S : Type 0} (Step : S → List (List ℕ) → Result S Refusal → Type 0) where
  -- each line is taken
  pub data Taken : S → List (List (List ℕ)) → S → Type 0 where
    none : {s : S} → Taken s [] s
    more : {s u : S} {ts : List (List ℕ)} {tss : List (List (List ℕ))} → (t : S) → Step s ts (Ok t) → Taken t tss u → Taken s (ts ∷ tss) u

  pub taken_then : (s t u : S) (xs ys : List (List (List ℕ))) → Taken s xs t → Taken t ys u → Taken s (xs ++ ys) u
  taken_then s _ u _ ys none after = after
  taken_then s t u _ ys (more {tss = xs} s' step rest) after = more s' step (taken_then s' t u xs ys rest after)

  pub reads_text : (s t : S) (tss : List (List (List ℕ))) (p : ℕ) → Taken s tss t → All Speaks tss → Reads Step s (speaking (lines_from p (text_of tss))) (Ok t)
  reads_text s _ _ p none all = done
  reads_text s t _ p (more {ts = ts} {tss = tss} s' step rest) all =
      let here = All-head Speaks ts tss all in
      let L : List Line → Type 0 = λ ls. Reads Step s ls (Ok t) in
      let T : List (List ℕ) → Type 0 = λ us. Step s us (Ok s') in
      subst L (sym (first_line p ts (text_of tss) here))
      (goes_on s' (subst T (sym (spaced_tokens ts (all_parted ts here))) step) (reads_text s' t tss (p + length (spaced ts) + 1) rest (All-tail Speaks ts tss all)))

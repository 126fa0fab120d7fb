-- An order that is written out is read back.
use Rattle.std.proofs.Common.{◌≡◌, ℕ, suc, ◌+◌, ◌*◌, ◌<◌, ◌≤◌, Bool, true, false, List, [], ◌∷◌, ◌++◌, length, is_err, Ok, Err, codes, decimal, Result, sym, refl, ap, ◌∙◌, subst, ⊎_elim, arith}
use Rattle.std.proofs.lemmas.Fmt.{decimal_digit}
use Rattle.std.proofs.lemmas.List.{append-nil, append_assoc, length-append, length_push}
use Rattle.std.proofs.lemmas.Bool.{and_parts, and_from, cond-true, cond-false, cases_Bool, false≢true}
use Rattle.std.proofs.lemmas.Bool.Decides.{nat_tests}
use Rattle.std.specs.List.{flat_map}
use Rattle.model.proofs.Bytes.{every_append}
use Rattle.model.proofs.Names.{name_bytes, name_short}
use Rattle.model.proofs.Orders.{length_facts, name_before, name_here}
use Rattle.model.proofs.Spelling.{spelling_is_name}
use Rattle.model.specs.Facts.{AllNamed, Different, Named}
use Rattle.model.specs.Letters.{letter_of}
use Rattle.model.specs.Names.{every, is_word_byte}
use Rattle.model.specs.Orders.{facts_of, added}
use Rattle.model.specs.Spelling.{spelling}
use Rattle.model.specs.declared.decomposition.Decomposition.{Decomposition}
use Rattle.model.specs.declared.decomposition.Decomposition.TheVariants.{Shannon, PositiveDavio, NegativeDavio}
use Rattle.model.specs.declared.fact.Fact.{Fact}
use Rattle.model.specs.declared.fault.Fault.{Fault}
use Rattle.model.specs.declared.order.Order.{Order}
use Rattle.sheets.specs.Lines.{inside_line, Line, line_at, lines_from, heading, later, says_nothing, speaking}
use Rattle.sheets.specs.OrderLaws.{fact_text, order_text}
use Rattle.sheets.specs.OrderSheets.{FactStep, taken, OrderSheet}
use Rattle.sheets.specs.Sheets.{allowed, opens, Plain, Reads, done, goes_on, opened, verdict}
use Rattle.sheets.specs.Tokens.{brackets, is_bracket, tokens}
use Rattle.sheets.proofs.LinesFrom.{line_cons}
use Rattle.sheets.proofs.NextToken.{letter_plain}
use Rattle.sheets.proofs.OrderVerdicts.{order_laws}
use Rattle.sheets.proofs.Verdicts.{ok_or_err, same_ok}
use Rattle.sheets.proofs.Words.{tokens_single, tokens_run}

-- a test that every byte passes which passes another
pub weaker : (p q : ℕ → Bool) → ((b : ℕ) → p b ≡ true → q b ≡ true) → (xs : List ℕ) → every p xs ≡ true → every q xs ≡ true
weaker p q so [] h = refl
weaker p q so (x ∷ xs) h =
    let both = and_parts (p x) (every p xs) h in
    and_from (q x) (every q xs) (so x both.0) (weaker p q so xs both.1)

-- ---- lines

-- ---- the line of a fact

letter_inside : (t : Decomposition) → inside_line (letter_of t) ≡ true
letter_inside Shannon = refl
letter_inside PositiveDavio = refl
letter_inside NegativeDavio = refl

letter_allowed : (t : Decomposition) → allowed (letter_of t) ≡ true
letter_allowed Shannon = refl
letter_allowed PositiveDavio = refl
letter_allowed NegativeDavio = refl

letter_no_space : (t : Decomposition) → letter_of t ≡ 32 → ⊥
letter_no_space Shannon e = omega arith
letter_no_space PositiveDavio e = omega arith
letter_no_space NegativeDavio e = omega arith

word_inside : (b : ℕ) → is_word_byte b ≡ true → inside_line b ≡ true
word_inside b h = grind (arith, nat_tests)

word_allowed : (b : ℕ) → is_word_byte b ≡ true → allowed b ≡ true
word_allowed b h = grind (arith, nat_tests)

abbrev fact_bytes : Fact → List ℕ
fact_bytes f = letter_of f.decomposition ∷ 32 ∷ spelling f.name

module _ (f : Fact) (some : 0 < length (spelling f.name)) where
  all_word : every is_word_byte (spelling f.name) ≡ true
  all_word = name_bytes (spelling f.name) (spelling_is_name f.name some)

  fact_inside : every inside_line (fact_bytes f) ≡ true
  fact_inside =
      and_from _ _ (letter_inside f.decomposition) (weaker is_word_byte inside_line word_inside (spelling f.name) all_word)

  fact_allowed : every allowed (fact_text f) ≡ true
  fact_allowed =
      and_from _ _ (letter_allowed f.decomposition)
      (every_append allowed (spelling f.name) (10 ∷ []) (weaker is_word_byte allowed word_allowed (spelling f.name) all_word) refl)

  fact_tokens : tokens (fact_bytes f) ≡ (letter_of f.decomposition ∷ []) ∷ (spelling f.name ∷ [])
  fact_tokens =
      tokens_single (letter_of f.decomposition) (32 ∷ spelling f.name) (letter_no_space f.decomposition) (letter_plain f.decomposition)
      ∙ ap (λ ws. (letter_of f.decomposition ∷ []) ∷ ws) (ap tokens (sym (append-nil (spelling f.name))) ∙ tokens_run (spelling f.name) [] some all_word refl)

  fact_length : length (fact_text f) ≤ 19
  fact_length = omega (arith, length_push (spelling f.name) 10, name_short (spelling f.name) (spelling_is_name f.name some))

letter_speaks : (t : Decomposition) (bs : List ℕ) → says_nothing (letter_of t ∷ bs) ≡ false
letter_speaks Shannon bs = refl
letter_speaks PositiveDavio bs = refl
letter_speaks NegativeDavio bs = refl

-- there are no more brackets than tokens
pub brackets_few : (ts : List (List ℕ)) → brackets ts ≤ length ts
brackets_few [] = omega arith
brackets_few (w ∷ ws) =
    ⊎_elim
    (λ h. let e = cond-true (is_bracket w) (1 + brackets ws) (brackets ws) h in omega (arith, brackets_few ws))
    (λ h. let e = cond-false (is_bracket w) (1 + brackets ws) (brackets ws) h in omega (arith, brackets_few ws))
    (cases_Bool (is_bracket w))

-- ---- the facts one by one

-- the name after the facts fs
module _ (fs : List Fact) (g : Fact) (gs : List Fact) where
  inside : length fs < length (fs ++ (g ∷ gs))
  inside = omega (arith, length-append fs (g ∷ gs))

  named_here : AllNamed (fs ++ (g ∷ gs)) → 0 < length (spelling g.name)
  named_here all = subst (λ n. 0 < length n) (name_here fs g gs (length fs) refl) (all (length fs) inside)

  pub new_here : Different (fs ++ (g ∷ gs)) → Named fs (spelling g.name) → ⊥
  new_here apart (i, lt, same) = apart i (length fs) lt inside (name_before fs g gs i lt ∙ same ∙ sym (name_here fs g gs (length fs) refl))

  taken_here : AllNamed (fs ++ (g ∷ gs)) → Different (fs ++ (g ∷ gs)) → length (fs ++ (g ∷ gs)) ≤ 40 → FactStep fs (tokens (fact_bytes g)) (Ok (fs ++ (g ∷ [])))
  taken_here all apart room =
      let some = named_here all in
      let words = fact_tokens g some in
      let few : brackets (tokens (fact_bytes g)) ≤ 32 = omega (arith, brackets_few (tokens (fact_bytes g)), ap length words) in
      taken few g (fs ++ (g ∷ [])) (record { written = words; named = some }) (added some (new_here apart) (omega (arith, inside)))

reads_back : (fs gs : List Fact) (p : ℕ) → AllNamed (fs ++ gs) → Different (fs ++ gs) → length (fs ++ gs) ≤ 40 → Reads FactStep fs (speaking (lines_from p (flat_map fact_text gs))) (Ok (fs ++ gs))
reads_back fs [] p all apart room = subst (λ hs. Reads FactStep fs [] (Ok hs)) (sym (append-nil fs)) done
reads_back fs (g ∷ gs) p all apart room =
    let some = named_here fs g gs all in
    let rest = flat_map fact_text gs in
    let next = p + length (fact_bytes g) + 1 in
    let again : (fs ++ (g ∷ [])) ++ gs ≡ fs ++ (g ∷ gs) = append_assoc fs (g ∷ []) gs in
    let text : flat_map fact_text (g ∷ gs) ≡ fact_bytes g ++ (10 ∷ rest) = append_assoc (fact_bytes g) (10 ∷ []) rest in
    let lines : lines_from p (flat_map fact_text (g ∷ gs)) ≡ line_at p (fact_bytes g) ∷ lines_from next rest = ap (lines_from p) text ∙ line_cons p (fact_bytes g) rest (fact_inside g some) in
    let spoken : speaking (lines_from p (flat_map fact_text (g ∷ gs))) ≡ line_at p (fact_bytes g) ∷ speaking (lines_from next rest) = ap speaking lines ∙ cond-false (says_nothing (fact_bytes g)) _ _ (letter_speaks g.decomposition (32 ∷ spelling g.name)) in
    let more : Reads FactStep (fs ++ (g ∷ [])) (speaking (lines_from next rest)) (Ok ((fs ++ (g ∷ [])) ++ gs)) = reads_back (fs ++ (g ∷ [])) gs next (subst AllNamed (sym again) all) (subst Different (sym again) apart) (subst (λ hs. length hs ≤ 40) (sym again) room) in
    let R : List Fact → Type 0 = λ hs. Reads FactStep (fs ++ (g ∷ [])) (speaking (lines_from next rest)) (Ok hs) in
    let L : List Line → Type 0 = λ ls. Reads FactStep fs ls (Ok (fs ++ (g ∷ gs))) in
    subst L (sym spoken) (goes_on (fs ++ (g ∷ [])) (taken_here fs g gs all apart room) (subst R again more))

-- ---- the whole sheet

pub all_tail : (g : Fact) (gs : List Fact) → AllNamed (g ∷ gs) → AllNamed gs
all_tail g gs all i lt = all (suc i) (omega arith)

text_allowed : (gs : List Fact) → AllNamed gs → every allowed (flat_map fact_text gs) ≡ true
text_allowed [] all = refl
text_allowed (g ∷ gs) all =
    every_append allowed (fact_text g) (flat_map fact_text gs) (fact_allowed g (all 0 (omega arith))) (text_allowed gs (all_tail g gs all))

text_length : (gs : List Fact) → AllNamed gs → length (flat_map fact_text gs) ≤ 19 * length gs
text_length [] all = omega arith
text_length (g ∷ gs) all =
    omega (arith, length-append (fact_text g) (flat_map fact_text gs), fact_length g (all 0 (omega arith)), text_length gs (all_tail g gs all))

pub written_back : (order : Order) → OrderSheet (order_text (facts_of order)) (Ok (facts_of order))
written_back order =
    let fs = facts_of order in
    let long = length_facts order in
    let rest = flat_map fact_text fs in
    let first : lines_from 0 (order_text fs) ≡ line_at 0 (codes "ORD 1") ∷ lines_from 6 rest = line_cons 0 (codes "ORD 1") rest refl in
    let one : codes "ORD 1" ≡ codes "ORD" ++ (32 ∷ decimal 1) = ap (λ ds. codes "ORD" ++ (32 ∷ ds)) (sym (decimal_digit 1 (omega arith))) in
    let plain : Plain (order_text fs) = record {
      short = omega (arith, length-append (codes "ORD 1") (10 ∷ rest), text_length fs order.named, order.short);
      printable = text_allowed fs order.named;
    } in
    opened (opens plain (omega arith, ap heading first ∙ one))
    (subst (λ ls. Reads FactStep [] (speaking ls) (Ok fs)) (sym (ap later first)) (reads_back [] fs 6 order.named order.different (omega (arith, order.short))))

-- so whoever reads what was written gets the order back
pub read_back : (text : List ℕ) (r : Result (Unit {0}) Fault) (fs : List Fact) → OrderSheet text (verdict r fs) → (o : Order) → text ≡ order_text (facts_of o) → (r ≡ Ok tt) × (fs ≡ facts_of o)
read_back text (Ok tt) fs said o e =
    (refl, same_ok (order_laws.one_verdict text _ _ said (subst (λ t. OrderSheet t (Ok (facts_of o))) (sym e) (written_back o))))
read_back text (Err f) fs said o e =
    absurd (ok_or_err (order_laws.one_verdict text _ _ (subst (λ t. OrderSheet t (Ok (facts_of o))) (sym e) (written_back o)) said))

-- a refusal is the same verdict, whatever is left
pub same_refusal : (r : Result (Unit {0}) Fault) (fs gs : List Fact) → is_err r ≡ true → verdict r fs ≡ verdict r gs
same_refusal (Ok x) fs gs h = absurd (false≢true h)
same_refusal (Err f) fs gs h = refl

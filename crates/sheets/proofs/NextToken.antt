-- A line goes on with one token, or is stuck.
use Rattle.std.proofs.Common.{◌≡◌, ◌≢◌, MatchOption, MatchResult, None, Option, Result, Some, ℕ, ◌^◌, ◌<◌, true, false, List, [], ◌∷◌, length, get_or, decimal, sym, refl, ap, ◌∙◌, subst, arith}
use Rattle.std.proofs.lemmas.Fmt.{decimal_injective, decimal_nonempty, decimal_is_IsNumeral}
use Rattle.std.proofs.lemmas.Str.Parse.{digit_at}
use Rattle.std.proofs.lemmas.Bool.{and_parts, true≢false}
use Rattle.std.proofs.lemmas.Bool.Decides.{nat_tests}
use Rattle.std.specs.Int.{IsInRange}
use Rattle.std.specs.Option.{ok_or}
use Rattle.model.specs.declared.fault.Fault.{Fault}
use Rattle.model.specs.Letters.{letter_of}
use Rattle.model.specs.Names.{begins, is_letter, is_name, is_word_byte}
use Rattle.model.specs.Spelling.{spelling}
use Rattle.model.specs.declared.decomposition.Decomposition.{Decomposition}
use Rattle.model.specs.declared.decomposition.Decomposition.TheVariants.{Shannon, PositiveDavio, NegativeDavio}
use Rattle.model.specs.declared.name.Name.{Name}
use Rattle.model.proofs.Spelling.{same_name, spelling_is_name}
use Rattle.sheets.specs.Tokens.{sign, Next, Stuck}
use Rattle.sheets.specs.declared.token.Token.{Token}
use Rattle.sheets.specs.declared.token.Token.TheVariants.{LineEnd, Identifier, Number, TypeLetter, Equals, Or, Plus, Minus, Times, Not, Open, Close, Other}

-- the four ways in which a line goes on
data View (ts : List (List ℕ)) (rest : List (List ℕ)) : Token → Type 0 where
  at_end : ts ≡ [] → View ts rest LineEnd
  at_name : (n : Name) → ts ≡ spelling n ∷ rest → 0 < length (spelling n) → View ts rest (Identifier n)
  at_number : (v : ℕ) → ts ≡ decimal v ∷ rest → v < 2 ^ 32 → View ts rest (Number v)
  at_sign : (t : Token) (c : ℕ) → ts ≡ (c ∷ []) ∷ rest → is_word_byte c ≡ false → t ≡ sign c → View ts rest t

letter_sign : (t : Decomposition) → TypeLetter t ≡ sign (letter_of t)
letter_sign Shannon = refl
letter_sign PositiveDavio = refl
letter_sign NegativeDavio = refl

pub letter_plain : (t : Decomposition) → is_word_byte (letter_of t) ≡ false
letter_plain Shannon = refl
letter_plain PositiveDavio = refl
letter_plain NegativeDavio = refl

view : (ts rest : List (List ℕ)) (t : Token) → Next ts t rest → View ts rest t
view ts rest LineEnd h = at_end h.0
view ts rest (Identifier n) h = at_name n h.0 h.1
view ts rest (Number v) h = at_number v h.0 h.1
view ts rest (TypeLetter t) h = at_sign (TypeLetter t) (letter_of t) h (letter_plain t) (letter_sign t)
view ts rest Equals h = at_sign Equals 61 h refl refl
view ts rest Or h = at_sign Or 124 h refl refl
view ts rest Plus h = at_sign Plus 43 h refl refl
view ts rest Minus h = at_sign Minus 45 h refl refl
view ts rest Times h = at_sign Times 42 h refl refl
view ts rest Not h = at_sign Not 33 h refl refl
view ts rest Open h = at_sign Open 40 h refl refl
view ts rest Close h = at_sign Close 41 h refl refl
view ts rest (Other c) h = at_sign (Other c) c h.0 h.1 (sym h.2)

-- the first token and its first byte
abbrev head_word : List (List ℕ) → List ℕ
head_word ts = get_or ts 0 []

abbrev head_byte : List (List ℕ) → ℕ
head_byte ts = get_or (head_word ts) 0 0

-- names begin with a letter, numbers with a digit
name_first : (word : List ℕ) → is_name word ≡ true → is_letter (get_or word 0 0) ≡ true
name_first [] h = absurd (true≢false (sym h))
name_first (b ∷ bs) h = (and_parts _ _ (and_parts _ _ h).0).0

number_first : (v : ℕ) → v < 2 ^ 32 → IsInRange 48 57 (get_or (decimal v) 0 0)
number_first v small = digit_at (decimal v) 0 (decimal_is_IsNumeral v (omega arith)).0.1 (decimal_nonempty v (omega arith))

letter_word : (b : ℕ) → is_letter b ≡ true → is_word_byte b ≡ true
letter_word b h = grind (arith, nat_tests)

digit_word : (b : ℕ) → IsInRange 48 57 b → is_word_byte b ≡ true
digit_word b h = grind (arith, nat_tests)

digit_no_letter : (b : ℕ) → IsInRange 48 57 b → is_letter b ≡ true → ⊥
digit_no_letter b h k = grind (arith, nat_tests)

module _ (ts rest : List (List ℕ)) where
  no_token : {w : List ℕ} → ts ≡ w ∷ rest → ts ≡ [] → ⊥
  no_token e none = omega (arith, ap length (sym e ∙ none))

  name_letter : (n : Name) → ts ≡ spelling n ∷ rest → 0 < length (spelling n) → is_letter (head_byte ts) ≡ true
  name_letter n e some = ap (λ us. is_letter (head_byte us)) e ∙ name_first (spelling n) (spelling_is_name n some)

  number_digit : (v : ℕ) → ts ≡ decimal v ∷ rest → v < 2 ^ 32 → IsInRange 48 57 (head_byte ts)
  number_digit v e small = subst (λ us. IsInRange 48 57 (head_byte us)) (sym e) (number_first v small)

  sign_plain : (c : ℕ) → ts ≡ (c ∷ []) ∷ rest → is_word_byte c ≡ false → is_word_byte (head_byte ts) ≡ false
  sign_plain c e plain = ap (λ us. is_word_byte (head_byte us)) e ∙ plain

clash : (b : ℕ) → is_word_byte b ≡ true → is_word_byte b ≡ false → ⊥
clash b h k = true≢false (sym h ∙ k)

unique : (ts r s : List (List ℕ)) (t u : Token) → View ts r t → View ts s u → t ≡ u
unique ts r s _ _ (at_end e) (at_end f) = refl
unique ts r s _ _ (at_end e) (at_name n f some) = absurd (no_token ts s f e)
unique ts r s _ _ (at_end e) (at_number v f small) = absurd (no_token ts s f e)
unique ts r s _ _ (at_end e) (at_sign u c f plain q) = absurd (no_token ts s f e)
unique ts r s _ _ (at_name n e some) (at_end f) = absurd (no_token ts r e f)
unique ts r s _ _ (at_name n e some) (at_name m f more) = ap Identifier (same_name n m (ap head_word (sym e ∙ f)))
unique ts r s _ _ (at_name n e some) (at_number v f small) = absurd (digit_no_letter (head_byte ts) (number_digit ts s v f small) (name_letter ts r n e some))
unique ts r s _ _ (at_name n e some) (at_sign u c f plain q) = absurd (clash (head_byte ts) (letter_word (head_byte ts) (name_letter ts r n e some)) (sign_plain ts s c f plain))
unique ts r s _ _ (at_number v e small) (at_end f) = absurd (no_token ts r e f)
unique ts r s _ _ (at_number v e small) (at_name n f some) = absurd (digit_no_letter (head_byte ts) (number_digit ts r v e small) (name_letter ts s n f some))
unique ts r s _ _ (at_number v e small) (at_number w f slight) = ap Number (decimal_injective v w (omega arith) (omega arith) (ap head_word (sym e ∙ f)))
unique ts r s _ _ (at_number v e small) (at_sign u c f plain q) = absurd (clash (head_byte ts) (digit_word (head_byte ts) (number_digit ts r v e small)) (sign_plain ts s c f plain))
unique ts r s _ _ (at_sign t c e plain p) (at_end f) = absurd (no_token ts r e f)
unique ts r s _ _ (at_sign t c e plain p) (at_name n f some) = absurd (clash (head_byte ts) (letter_word (head_byte ts) (name_letter ts s n f some)) (sign_plain ts r c e plain))
unique ts r s _ _ (at_sign t c e plain p) (at_number v f small) = absurd (clash (head_byte ts) (digit_word (head_byte ts) (number_digit ts s v f small)) (sign_plain ts r c e plain))
unique ts r s _ _ (at_sign t c e plain p) (at_sign u d f even q) = p ∙ ap sign (ap head_byte (sym e ∙ f)) ∙ sym q

pub one_next : (ts r s : List (List ℕ)) (t u : Token) → Next ts t r → Next ts u s → t ≡ u
one_next ts r s t u h k = unique ts r s t u (view ts r t h) (view ts s u k)

never_stuck : (ts rest : List (List ℕ)) (t : Token) → View ts rest t → Stuck ts → ⊥
never_stuck ts rest _ (at_end e) (word, more, f, bad) = no_token ts more f e
never_stuck ts rest _ (at_name n e some) (word, more, f, bad) =
    true≢false (sym (spelling_is_name n some) ∙ ap is_name (ap head_word (sym e ∙ f)) ∙ bad.no_name)
never_stuck ts rest _ (at_number v e small) (word, more, f, bad) = bad.no_number v small (ap head_word (sym f ∙ e))
never_stuck ts rest _ (at_sign t c e plain p) (word, more, f, bad) =
    true≢false (sym bad.run ∙ ap (begins is_word_byte) (ap head_word (sym f ∙ e)) ∙ plain)

-- a line that is stuck goes on with no token
pub stuck_none : (ts rest : List (List ℕ)) (t : Token) → Stuck ts → Next ts t rest → ⊥
stuck_none ts rest t stuck h = never_stuck ts rest t (view ts rest t h) stuck

-- what follows the first token
pub same_rest : {a b : List ℕ} (ts r s : List (List ℕ)) → ts ≡ a ∷ r → ts ≡ b ∷ s → r ≡ s
same_rest ts r s e f = cc

pub same_word : {a b : List ℕ} (ts r s : List (List ℕ)) → ts ≡ a ∷ r → ts ≡ b ∷ s → a ≡ b
same_word ts r s e f = cc

-- what a token was taken for
pub taken_for : {T : Type 0} (token_of : T → Token) (ts rest : List (List ℕ)) (t : Token) (held : Option T) (r : Result T Fault) (f : Fault)
    → Next ts t rest → MatchOption held ((v : T) → t ≢ token_of v) (λ v. t ≡ token_of v) → r ≡ ok_or held f
    → MatchResult r (λ v. Next ts (token_of v) rest) (λ g. (g ≡ f) × ((v : T) (rest' : List (List ℕ)) → Next ts (token_of v) rest' → ⊥))
taken_for {T} token_of ts rest t (Some v) r f next is e = rw e (subst (λ u. Next ts u rest) is next)
taken_for {T} token_of ts rest t None r f next other e = rw e (refl, λ v rest' h. other v (one_next ts rest rest' t (token_of v) next h))

rest_is : (ts r s : List (List ℕ)) (t : Token) → Next ts t r → Next ts t s → r ≡ s
rest_is ts r s LineEnd h k = h.1 ∙ sym k.1
rest_is ts r s (Identifier n) h k = same_rest ts r s h.0 k.0
rest_is ts r s (Number v) h k = same_rest ts r s h.0 k.0
rest_is ts r s (TypeLetter t) h k = same_rest ts r s h k
rest_is ts r s Equals h k = same_rest ts r s h k
rest_is ts r s Or h k = same_rest ts r s h k
rest_is ts r s Plus h k = same_rest ts r s h k
rest_is ts r s Minus h k = same_rest ts r s h k
rest_is ts r s Times h k = same_rest ts r s h k
rest_is ts r s Not h k = same_rest ts r s h k
rest_is ts r s Open h k = same_rest ts r s h k
rest_is ts r s Close h k = same_rest ts r s h k
rest_is ts r s (Other c) h k = same_rest ts r s h.0 k.0

-- if one reading ends the line, the other does too
pub only_left : (ts r : List (List ℕ)) (t u : Token) → Next ts t r → Next ts u [] → r ≡ []
only_left ts r t u h k = rest_is ts r [] t h (subst (λ w. Next ts w []) (sym (one_next ts r [] t u h k)) k)

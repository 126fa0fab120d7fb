-- The tokens of a line, each as it is written.
use Rattle.std.specs.Prelude.{◌≡◌, ℕ, ◌+◌, ◌^◌, ◌<◌, Bool, true, false, cond, ◌&&◌, ◌||◌, List, [], ◌∷◌, length, Some, None, decimal, Option, ◌==◌, ◌≢◌}
use Rattle.model.specs.Letters.{letter_of}
use Rattle.model.specs.Names.{begins, is_name, is_word_byte}
use Rattle.model.specs.Spelling.{spelling}
use Rattle.model.specs.declared.decomposition.Decomposition.TheVariants.{Shannon, PositiveDavio, NegativeDavio}
use Rattle.sheets.specs.declared.token.Token.{Token}
use Rattle.sheets.specs.declared.token.Token.TheVariants.{LineEnd, Identifier, Number, TypeLetter, Equals, Or, Plus, Minus, Times, Not, Open, Close, Other}

-- the tokens that follow a byte, with that byte in front of the first
abbrev pub joined_to : ℕ → List (List ℕ) → List (List ℕ)
joined_to b [] = (b ∷ []) ∷ []
joined_to b (w ∷ ws) = (b ∷ w) ∷ ws

-- spaces only part tokens; a run of a to z, 0 to 9 and _ is one token, and any other character is one
abbrev pub tokens : List ℕ → List (List ℕ)
tokens [] = []
tokens (b ∷ bs) =
    cond (b == 32) (tokens bs) (cond (is_word_byte b && begins is_word_byte bs) (joined_to b (tokens bs)) ((b ∷ []) ∷ tokens bs))

-- `(` or `!`
abbrev pub is_bracket : List ℕ → Bool
is_bracket [] = false
is_bracket (b ∷ []) = b == 40 || b == 33
is_bracket (b ∷ c ∷ bs) = false

-- a byte that is such a token
abbrev pub opens_deeper : ℕ → Bool
opens_deeper b = is_bracket (b ∷ [])

abbrev pub brackets : List (List ℕ) → ℕ
brackets [] = 0
brackets (w ∷ ws) = cond (is_bracket w) (1 + brackets ws) (brackets ws)

-- the token that a character makes which belongs to no run
abbrev pub sign : ℕ → Token
sign c =
    cond (c == 83) (TypeLetter Shannon) (cond (c == 80) (TypeLetter PositiveDavio) (cond (c == 78) (TypeLetter NegativeDavio)
    (cond (c == 61) Equals (cond (c == 124) Or (cond (c == 43) Plus (cond (c == 45) Minus (cond (c == 42) Times
    (cond (c == 33) Not (cond (c == 40) Open (cond (c == 41) Close (Other c)))))))))))

-- the line goes on with a token, and the rest comes after it
abbrev pub Next : List (List ℕ) → Token → List (List ℕ) → Type 0
Next ts LineEnd rest = (ts ≡ []) × (rest ≡ [])
Next ts (Identifier n) rest = (ts ≡ spelling n ∷ rest) × (0 < length (spelling n))
Next ts (Number v) rest = (ts ≡ decimal v ∷ rest) × (v < 2 ^ 32)
Next ts (TypeLetter t) rest = ts ≡ (letter_of t ∷ []) ∷ rest
Next ts Equals rest = ts ≡ (61 ∷ []) ∷ rest
Next ts Or rest = ts ≡ (124 ∷ []) ∷ rest
Next ts Plus rest = ts ≡ (43 ∷ []) ∷ rest
Next ts Minus rest = ts ≡ (45 ∷ []) ∷ rest
Next ts Times rest = ts ≡ (42 ∷ []) ∷ rest
Next ts Not rest = ts ≡ (33 ∷ []) ∷ rest
Next ts Open rest = ts ≡ (40 ∷ []) ∷ rest
Next ts Close rest = ts ≡ (41 ∷ []) ∷ rest
Next ts (Other c) rest = (ts ≡ (c ∷ []) ∷ rest) × (is_word_byte c ≡ false) × (sign c ≡ Other c)

-- a run that is neither a name nor a number
pub record Malformed (word : List ℕ) : Type 0 where
  pub run : begins is_word_byte word ≡ true
  pub no_name : is_name word ≡ false
  pub no_number : (v : ℕ) → v < 2 ^ 32 → word ≢ decimal v

-- the line goes on with such a run
abbrev pub Stuck : List (List ℕ) → Type 0
Stuck ts = (word : List ℕ) × (rest : List (List ℕ)) × (ts ≡ word ∷ rest) × Malformed word

-- the number that a word is, if it is one of 32 bits
abbrev pub Numbered : List ℕ → Option ℕ → Type 0
Numbered word None = (v : ℕ) → v < 2 ^ 32 → word ≢ decimal v
Numbered word (Some v) = (v < 2 ^ 32) × (word ≡ decimal v)

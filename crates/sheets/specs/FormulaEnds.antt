-- Where a term, a part and a formula end: at a token that joins nothing more to them.
use Rattle.std.specs.Prelude.{◌≡◌, ℕ, List, ◌++◌, ◌≢◌}
use Rattle.sheets.specs.Formulas.{Formula, Part, Term, Factor, spell, spell_part, spell_term, spell_factor}
use Rattle.sheets.specs.Tokens.{Next}
use Rattle.sheets.specs.declared.token.Token.{Token}
use Rattle.sheets.specs.declared.token.Token.TheVariants.{Or, Plus, Minus, Times}

abbrev pub EndsTerm : Token → Type 0
EndsTerm t = t ≡ Times → ⊥

abbrev pub EndsPart : Token → Type 0
EndsPart t = EndsTerm t × (t ≢ Plus) × (t ≢ Minus)

abbrev pub EndsFormula : Token → Type 0
EndsFormula t = EndsPart t × (t ≢ Or)

-- the line goes on with such a token
pub record GoesOn (Ends : Token → Type 0) (ts : List (List ℕ)) : Type 0 where
  pub token : Token
  pub rest : List (List ℕ)
  pub next : Next ts token rest
  pub ends : Ends token

-- no factor stands here
abbrev pub NoFactor : List (List ℕ) → Type 0
NoFactor ts = (f : Factor) (r : List (List ℕ)) → ts ≢ spell_factor f ++ r

-- no term, part or formula stands here with such a token after it
abbrev pub NoTerm : List (List ℕ) → Type 0
NoTerm ts = (t : Term) (r : List (List ℕ)) → GoesOn EndsTerm r → ts ≢ spell_term t ++ r

abbrev pub NoPart : List (List ℕ) → Type 0
NoPart ts = (p : Part) (r : List (List ℕ)) → GoesOn EndsPart r → ts ≢ spell_part p ++ r

abbrev pub NoFormula : List (List ℕ) → Type 0
NoFormula ts = (f : Formula) (r : List (List ℕ)) → GoesOn EndsFormula r → ts ≢ spell f ++ r

-- A spelling has one formula.
use Rattle.std.proofs.Common.{◌≡◌, ℕ, List, [], ◌∷◌, ◌++◌, sym, refl, ap, ◌∙◌, subst, arith}
use Rattle.std.proofs.lemmas.List.{append_assoc, append-nil}
use Rattle.model.specs.declared.name.Name.{Name}
use Rattle.sheets.specs.FormulaEnds.{EndsFormula, EndsPart, EndsTerm, GoesOn, NoFactor, NoFormula, NoPart, NoTerm}
use Rattle.sheets.specs.Formulas.{Formula, Part, Term, Factor, one_part, either, one_term, plus, less, one_factor, times, negated, bracketed, word, numeral, spell, spell_part, spell_term, spell_factor}
use Rattle.sheets.specs.Sides.{Numeral, Word}
use Rattle.sheets.specs.Tokens.{Next, Stuck}
use Rattle.sheets.specs.declared.token.Token.{Token}
use Rattle.sheets.specs.declared.token.Token.TheVariants.{LineEnd, Identifier, Number, Or, Plus, Minus, Times, Not, Open, Close}
use Rattle.sheets.proofs.Atoms.{one_numeral, one_word}
use Rattle.sheets.proofs.Chains.{Fronts, front_more, front_one, Joining, no_chain, no_end, no_first, one_chain, OneChain, Parted, parted_more, parted_one, Tokens}
use Rattle.sheets.proofs.NextToken.{one_next, stuck_none}

-- ---- what signs join

-- a sign is none of the tokens that end what it joins
follows : {Ends : Token → Type 0} (ts rest : Tokens) (t : Token) → Next ts t rest → GoesOn Ends ts → Ends t
follows {Ends} ts rest t h g = subst Ends (one_next ts g.rest rest g.token t g.next h) g.ends

abbrev terms : Joining
terms = record {
  X = Factor;
  C = Term;
  S = Unit {0};
  spell_item = spell_factor;
  spell_chain = spell_term;
  code = λ _. 42;
  one = one_factor;
  more = λ t _ f. times t f;
  Item = λ _. Unit {0};
  Chain = GoesOn EndsTerm;
  of_one = λ f. refl;
  of_more = λ t s f. refl;
  same_sign = λ s t e. refl;
  ends = λ r h. tt;
  parts = λ s r. tt;
  joins = λ s r h. follows _ r Times refl h refl;
}

-- `+` or `-`
data Sign : Type 0 where
  plus_sign : Sign
  minus_sign : Sign

abbrev sign_code : Sign → ℕ
sign_code plus_sign = 43
sign_code minus_sign = 45

abbrev join_term : Part → Sign → Term → Part
join_term p plus_sign t = plus p t
join_term p minus_sign t = less p t

join_spelled : (p : Part) (s : Sign) (t : Term) → spell_part (join_term p s t) ≡ spell_part p ++ ((sign_code s ∷ []) ∷ spell_term t)
join_spelled p plus_sign t = refl
join_spelled p minus_sign t = refl

one_sign : (s t : Sign) → sign_code s ≡ sign_code t → s ≡ t
one_sign plus_sign plus_sign e = refl
one_sign plus_sign minus_sign e = absurd (omega arith)
one_sign minus_sign plus_sign e = absurd (omega arith)
one_sign minus_sign minus_sign e = refl

apart : {t u : Token} → (t ≡ u → ◌≡◌ {A = ℕ} 0 1) → t ≡ u → ⊥
apart h e = let z = h e in omega arith

after_sign : (s : Sign) (r : Tokens) → GoesOn EndsTerm ((sign_code s ∷ []) ∷ r)
after_sign plus_sign r = record { token = Plus; rest = r; next = refl; ends = λ e. apart (λ e. cc) e }
after_sign minus_sign r = record { token = Minus; rest = r; next = refl; ends = λ e. apart (λ e. cc) e }

sign_joins : (s : Sign) (r : Tokens) → GoesOn EndsPart ((sign_code s ∷ []) ∷ r) → ⊥
sign_joins plus_sign r h = (follows _ r Plus refl h).1 refl
sign_joins minus_sign r h = (follows _ r Minus refl h).2 refl

abbrev parts : Joining
parts = record {
  X = Term;
  C = Part;
  S = Sign;
  spell_item = spell_term;
  spell_chain = spell_part;
  code = sign_code;
  one = one_term;
  more = join_term;
  Item = GoesOn EndsTerm;
  Chain = GoesOn EndsPart;
  of_one = λ t. refl;
  of_more = join_spelled;
  same_sign = one_sign;
  ends = λ r h. record { token = h.token; rest = h.rest; next = h.next; ends = h.ends.0 };
  parts = after_sign;
  joins = sign_joins;
}

after_or : (r : Tokens) → GoesOn EndsPart ((124 ∷ []) ∷ r)
after_or r = record { token = Or; rest = r; next = refl; ends = (apart (λ e. cc), apart (λ e. cc), apart (λ e. cc)) }

abbrev formulas : Joining
formulas = record {
  X = Part;
  C = Formula;
  S = Unit {0};
  spell_item = spell_part;
  spell_chain = spell;
  code = λ _. 124;
  one = one_part;
  more = λ f _ p. either f p;
  Item = GoesOn EndsPart;
  Chain = GoesOn EndsFormula;
  of_one = λ p. refl;
  of_more = λ f s p. refl;
  same_sign = λ s t e. refl;
  ends = λ r h. record { token = h.token; rest = h.rest; next = h.next; ends = h.ends.0 };
  parts = λ s r. after_or r;
  joins = λ s r h. (follows _ r Or refl h).1 refl;
}

-- ---- factors

-- the token with which a factor begins, and what follows it
abbrev first_token : Factor → Token
first_token (negated f) = Not
first_token (bracketed f) = Open
first_token (word w) = Identifier w.name
first_token (numeral n) = Number n.value

abbrev after_first : Factor → Tokens → Tokens
after_first (negated f) r = spell_factor f ++ r
after_first (bracketed f) r = spell f ++ ((41 ∷ []) ∷ r)
after_first (word w) r = r
after_first (numeral n) r = r

begins_factor : (f : Factor) (r : Tokens) → Next (spell_factor f ++ r) (first_token f) (after_first f r)
begins_factor (negated f) r = refl
begins_factor (bracketed f) r = ap (λ ts. (40 ∷ []) ∷ ts) (append_assoc (spell f) ((41 ∷ []) ∷ []) r)
begins_factor (word w) r = (refl, w.some)
begins_factor (numeral n) r = (refl, n.small)

same_first : (f g : Factor) (r s : Tokens) → spell_factor f ++ r ≡ spell_factor g ++ s → first_token f ≡ first_token g
same_first f g r s e = one_next (spell_factor g ++ s) _ _ _ _ (subst (λ ts. Next ts (first_token f) (after_first f r)) e (begins_factor f r)) (begins_factor g s)

head_same : {a b : List ℕ} (r s : Tokens) → a ∷ r ≡ b ∷ s → a ≡ b
head_same r s e = cc

tail_same : {a b : List ℕ} (r s : Tokens) → a ∷ r ≡ b ∷ s → r ≡ s
tail_same r s e = cc

clash : {A : Type 0} (t u : Token) → (t ≡ u → ◌≡◌ {A = ℕ} 0 1) → t ≡ u → A
clash t u h e = absurd (apart h e)

abbrev OneFactor : Factor → Type 0
OneFactor f = (g : Factor) (r s : Tokens) → spell_factor f ++ r ≡ spell_factor g ++ s → (f ≡ g) × (r ≡ s)

one_negated : (f : Factor) → OneFactor f → OneFactor (negated f)
one_negated f unique (negated g) r s e = let both = unique g r s (tail_same _ _ e) in (ap negated both.0, both.1)
one_negated f unique (bracketed g) r s e = clash _ _ (λ q. cc) (same_first (negated f) (bracketed g) r s e)
one_negated f unique (word w) r s e = clash _ _ (λ q. cc) (same_first (negated f) (word w) r s e)
one_negated f unique (numeral n) r s e = clash _ _ (λ q. cc) (same_first (negated f) (numeral n) r s e)

closed : (r : Tokens) → GoesOn EndsFormula ((41 ∷ []) ∷ r)
closed r = record { token = Close; rest = r; next = refl; ends = ((apart (λ e. cc), apart (λ e. cc), apart (λ e. cc)), apart (λ e. cc)) }

one_bracketed : (f : Formula) → OneChain formulas f → OneFactor (bracketed f)
one_bracketed f unique (negated g) r s e = clash _ _ (λ q. cc) (same_first (bracketed f) (negated g) r s e)
one_bracketed f unique (bracketed g) r s e =
    let inside = sym (append_assoc (spell f) ((41 ∷ []) ∷ []) r) ∙ tail_same _ _ e ∙ append_assoc (spell g) ((41 ∷ []) ∷ []) s in
    let both = unique g ((41 ∷ []) ∷ r) ((41 ∷ []) ∷ s) (closed r) (closed s) inside in
    (ap bracketed both.0, tail_same _ _ both.1)
one_bracketed f unique (word w) r s e = clash _ _ (λ q. cc) (same_first (bracketed f) (word w) r s e)
one_bracketed f unique (numeral n) r s e = clash _ _ (λ q. cc) (same_first (bracketed f) (numeral n) r s e)

one_of_word : (v : Word) → OneFactor (word v)
one_of_word v (negated g) r s e = clash _ _ (λ q. cc) (same_first (word v) (negated g) r s e)
one_of_word v (bracketed g) r s e = clash _ _ (λ q. cc) (same_first (word v) (bracketed g) r s e)
one_of_word v (word w) r s e =
    (ap word (one_word v w (head_same r s e)), tail_same r s e)
one_of_word v (numeral n) r s e = clash _ _ (λ q. cc) (same_first (word v) (numeral n) r s e)

one_of_numeral : (m : Numeral) → OneFactor (numeral m)
one_of_numeral m (negated g) r s e = clash _ _ (λ q. cc) (same_first (numeral m) (negated g) r s e)
one_of_numeral m (bracketed g) r s e = clash _ _ (λ q. cc) (same_first (numeral m) (bracketed g) r s e)
one_of_numeral m (word w) r s e = clash _ _ (λ q. cc) (same_first (numeral m) (word w) r s e)
one_of_numeral m (numeral n) r s e =
    (ap numeral (one_numeral m n (head_same r s e)), tail_same r s e)

-- ---- all together

parted_term : (t : Term) → Parted terms t
parted_term (one_factor f) = parted_one terms f
parted_term (times t f) = parted_more terms t tt f (parted_term t)

parted_part : (p : Part) → Parted parts p
parted_part (one_term t) = parted_one parts t
parted_part (plus p t) = parted_more parts p plus_sign t (parted_part p)
parted_part (less p t) = parted_more parts p minus_sign t (parted_part p)

parted_formula : (f : Formula) → Parted formulas f
parted_formula (one_part p) = parted_one formulas p
parted_formula (either f p) = parted_more formulas f tt p (parted_formula f)

mutual
  fronts_formula : (f : Formula) → Fronts formulas f
  fronts_formula (one_part p) = front_one formulas p (one_chain parts p (fronts_part p) parted_part)
  fronts_formula (either f p) = front_more formulas f tt p (one_chain parts p (fronts_part p) parted_part) (fronts_formula f)

  fronts_part : (p : Part) → Fronts parts p
  fronts_part (one_term t) = front_one parts t (one_chain terms t (fronts_term t) parted_term)
  fronts_part (plus p t) = front_more parts p plus_sign t (one_chain terms t (fronts_term t) parted_term) (fronts_part p)
  fronts_part (less p t) = front_more parts p minus_sign t (one_chain terms t (fronts_term t) parted_term) (fronts_part p)

  fronts_term : (t : Term) → Fronts terms t
  fronts_term (one_factor f) = front_one terms f (λ g r s _ _ e. factor_alone f g r s e)
  fronts_term (times t f) = front_more terms t tt f (λ g r s _ _ e. factor_alone f g r s e) (fronts_term t)

  pub factor_alone : (f : Factor) → (g : Factor) (r s : Tokens) → spell_factor f ++ r ≡ spell_factor g ++ s → (f ≡ g) × (r ≡ s)
  factor_alone (negated f) = one_negated f (factor_alone f)
  factor_alone (bracketed f) = one_bracketed f (one_chain formulas f (fronts_formula f) parted_formula)
  factor_alone (word w) = one_of_word w
  factor_alone (numeral n) = one_of_numeral n

-- what begins the same tokens, and is followed by a token that ends it, is the same formula
pub formula_alone : (f g : Formula) (r s : Tokens) → GoesOn EndsFormula r → GoesOn EndsFormula s → spell f ++ r ≡ spell g ++ s → (f ≡ g) × (r ≡ s)
formula_alone f = one_chain formulas f (fronts_formula f) parted_formula

finished : GoesOn EndsFormula []
finished = record { token = LineEnd; rest = []; next = (refl, refl); ends = ((apart (λ q. cc), apart (λ q. cc), apart (λ q. cc)), apart (λ q. cc)) }

-- a spelling has one formula
pub one_formula : (f g : Formula) → spell f ≡ spell g → f ≡ g
one_formula f g e = (formula_alone f g [] [] finished finished (ap (λ ts. ts ++ []) e)).0

-- ---- where no formula is to be found

module _ (ts : Tokens) where
  pub no_first_factor : NoFactor ts → NoTerm ts
  no_first_factor none t r ends e = no_first terms ts parted_term (λ f s is _. none f s is) t r ends e

  pub no_first_term : NoTerm ts → NoPart ts
  no_first_term none p r ends e = no_first parts ts parted_part (λ t s is ends. none t s ends is) p r ends e

  pub no_first_part : NoPart ts → NoFormula ts
  no_first_part none f r ends e = no_first formulas ts parted_formula (λ p s is ends. none p s ends is) f r ends e

  pub no_later_factor : (t : Term) → NoFactor ts → NoTerm (spell_term t ++ ((42 ∷ []) ∷ ts))
  no_later_factor t none u r ends e = no_chain terms t tt ts (fronts_term t) parted_term (λ f s is _. none f s is) u r ends e

  pub no_later_plus : (p : Part) → NoTerm ts → NoPart (spell_part p ++ ((43 ∷ []) ∷ ts))
  no_later_plus p none q r ends e = no_chain parts p plus_sign ts (fronts_part p) parted_part (λ t s is ends. none t s ends is) q r ends e

  pub no_later_minus : (p : Part) → NoTerm ts → NoPart (spell_part p ++ ((45 ∷ []) ∷ ts))
  no_later_minus p none q r ends e = no_chain parts p minus_sign ts (fronts_part p) parted_part (λ t s is ends. none t s ends is) q r ends e

  pub no_later_part : (f : Formula) → NoPart ts → NoFormula (spell f ++ ((124 ∷ []) ∷ ts))
  no_later_part f none g r ends e = no_chain formulas f tt ts (fronts_formula f) parted_formula (λ p s is ends. none p s ends is) g r ends e

  -- a run that is neither a name nor a number ends no term
  pub no_term_stuck : (t : Term) → Stuck ts → NoTerm (spell_term t ++ ts)
  no_term_stuck t stuck u r ends e =
      no_end terms t ts (fronts_term t) parted_term tt (λ goes. stuck_none ts goes.rest goes.token stuck goes.next) (λ s rest is. stuck_none ts rest Times stuck is) u r ends e

  pub no_factor_stuck : Stuck ts → NoFactor ts
  no_factor_stuck stuck f r e = stuck_none ts (after_first f r) (first_token f) stuck (subst (λ us. Next us (first_token f) (after_first f r)) (sym e) (begins_factor f r))

  pub no_negated : NoFactor ts → NoFactor ((33 ∷ []) ∷ ts)
  no_negated none (negated f) r e = none f r (tail_same _ _ e)
  no_negated none (bracketed f) r e = absurd (apart (λ q. cc) (one_next ((33 ∷ []) ∷ ts) ts _ Not Open refl (e ∙ begins_factor (bracketed f) r)))
  no_negated none (word w) r e = absurd (apart (λ q. cc) (one_next ((33 ∷ []) ∷ ts) ts r Not (Identifier w.name) refl (e, w.some)))
  no_negated none (numeral n) r e = absurd (apart (λ q. cc) (one_next ((33 ∷ []) ∷ ts) ts r Not (Number n.value) refl (e, n.small)))

  inside : (f : Formula) (r : Tokens) → (40 ∷ []) ∷ ts ≡ spell_factor (bracketed f) ++ r → ts ≡ spell f ++ ((41 ∷ []) ∷ r)
  inside f r e = tail_same _ _ (e ∙ begins_factor (bracketed f) r)

  pub no_bracketed : ((f : Formula) (r : Tokens) → ts ≡ spell f ++ ((41 ∷ []) ∷ r) → ⊥) → NoFactor ((40 ∷ []) ∷ ts)
  no_bracketed none (negated f) r e = absurd (apart (λ q. cc) (one_next ((40 ∷ []) ∷ ts) ts _ Open Not refl e))
  no_bracketed none (bracketed f) r e = none f r (inside f r e)
  no_bracketed none (word w) r e = absurd (apart (λ q. cc) (one_next ((40 ∷ []) ∷ ts) ts r Open (Identifier w.name) refl (e, w.some)))
  no_bracketed none (numeral n) r e = absurd (apart (λ q. cc) (one_next ((40 ∷ []) ∷ ts) ts r Open (Number n.value) refl (e, n.small)))

  pub no_inside : NoFormula ts → (f : Formula) (r : Tokens) → ts ≡ spell f ++ ((41 ∷ []) ∷ r) → ⊥
  no_inside none f r e = none f ((41 ∷ []) ∷ r) (closed r) e

  -- another token than `)` comes after the formula
  pub no_close : (f : Formula) (after rest : Tokens) (t : Token) → Next after t rest → EndsFormula t → (t ≡ Close → ⊥) → ts ≡ spell f ++ after → (g : Formula) (r : Tokens) → ts ≡ spell g ++ ((41 ∷ []) ∷ r) → ⊥
  no_close f after rest t next ends other is g r e =
      let same = formula_alone f g after ((41 ∷ []) ∷ r) (record { token = t; rest = rest; next = next; ends = ends }) (closed r) (sym is ∙ e) in
      other (one_next after rest r t Close next same.1)

  -- another token than the end of the line comes after the formula
  pub no_line_end : (f : Formula) (after rest : Tokens) (t : Token) → Next after t rest → EndsFormula t → (t ≡ LineEnd → ⊥) → ts ≡ spell f ++ after → (g : Formula) → ts ≡ spell g → ⊥
  no_line_end f after rest t next ends other is g e =
      let same = formula_alone f g after [] (record { token = t; rest = rest; next = next; ends = ends }) finished (sym is ∙ e ∙ sym (append-nil (spell g))) in
      other (one_next after rest [] t LineEnd next (same.1, refl))

  pub no_whole : NoFormula ts → (g : Formula) → ts ≡ spell g → ⊥
  no_whole none g e = none g [] finished (e ∙ sym (append-nil (spell g)))

-- no factor begins with another token
pub no_start : (ts rest : Tokens) (t : Token) → Next ts t rest → (t ≡ Not → ⊥) → (t ≡ Open → ⊥) → ((n : Name) → t ≡ Identifier n → ⊥) → ((v : ℕ) → t ≡ Number v → ⊥) → NoFactor ts
no_start ts rest t next a b c d f r e = other f (one_next ts rest (after_first f r) t (first_token f) next (subst (λ us. Next us (first_token f) (after_first f r)) (sym e) (begins_factor f r)))
  where
    other : (g : Factor) → t ≡ first_token g → ⊥
    other (negated g) q = a q
    other (bracketed g) q = b q
    other (word w) q = c w.name q
    other (numeral n) q = d n.value q

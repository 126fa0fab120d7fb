-- The steps of the readers of formulas, each from what the readers before it have read.
use Rattle.std.proofs.Common.{◌≡◌, ℕ, ◌+◌, ◌*◌, ◌^◌, ◌<◌, ◌≤◌, List, [], ◌∷◌, ◌++◌, length, sym, ap, ◌∙◌, ⊎_elim, arith}
use Rattle.std.proofs.lemmas.List.{append_assoc, length-append}
use Rattle.std.proofs.lemmas.Bool.{cases_Bool, cond-false, cond-true}
use Rattle.model.specs.Gates.{one_argument, two_arguments}
use Rattle.model.specs.declared.gate.GateKind.{GateKind}
use Rattle.model.specs.declared.gate.GateKind.TheVariants.{Sum as SumGate, Times as TimesGate, Minus as MinusGate, Not as NotGate, Or as OrGate}
use Rattle.sheets.specs.FormulaReads.{Drawn, over, ReadFactor, ReadFormula, ReadPart, ReadTerm, Signals}
use Rattle.sheets.specs.Formulas.{Formula, Part, Term, Factor, one_part, either, one_term, plus, less, one_factor, times, negated, bracketed, word, numeral, spell, spell_part, spell_term, spell_factor}
use Rattle.sheets.specs.Formulas.{formula_made, part_made, term_made, factor_made, formula_names, part_names, term_names, factor_names, after_one, after_two, Making}
use Rattle.sheets.specs.Sides.{Word}
use Rattle.sheets.specs.Symbols.{signal_or_zero}
use Rattle.sheets.specs.Tokens.{brackets, is_bracket, Next}
use Rattle.sheets.specs.declared.draft.Draft.{Draft}
use Rattle.sheets.specs.declared.symbol.Symbol.{Symbol}
use Rattle.sheets.specs.declared.token.Token.{Token}
use Rattle.sheets.specs.declared.token.Token.TheVariants.{LineEnd, Identifier, Number, TypeLetter, Equals, Or, Plus, Minus, Times, Not, Open, Close, Other}
use Rattle.sheets.proofs.FormulaDrafts.{drawn_one, drawn_two, Put}

abbrev Tokens : Type 0
Tokens = List (List ℕ)

-- ---- how many tokens, brackets and gates there are

pub brackets_append : (xs ys : Tokens) → brackets (xs ++ ys) ≡ brackets xs + brackets ys
brackets_append [] ys = omega arith
brackets_append (x ∷ xs) ys =
    ⊎_elim
    (λ b. omega (arith, brackets_append xs ys, cond-true (is_bracket x) (1 + brackets (xs ++ ys)) (brackets (xs ++ ys)) b, cond-true (is_bracket x) (1 + brackets xs) (brackets xs) b))
    (λ b. omega (arith, brackets_append xs ys, cond-false (is_bracket x) (1 + brackets (xs ++ ys)) (brackets (xs ++ ys)) b, cond-false (is_bracket x) (1 + brackets xs) (brackets xs) b))
    (cases_Bool (is_bracket x))

-- a token less
pub record Fewer (ts rest : Tokens) : Type 0 where
  pub short : length rest ≤ length ts
  pub few : brackets rest ≤ brackets ts

tail_fewer : (ts : Tokens) (w : List ℕ) (rest : Tokens) → ts ≡ w ∷ rest → Fewer ts rest
tail_fewer ts w rest e = record { short = omega (arith, ap length e); few = omega (arith, ap brackets e, brackets_append (w ∷ []) rest) }

pub next_fewer : (ts rest : Tokens) (t : Token) → Next ts t rest → Fewer ts rest
next_fewer ts rest LineEnd (e, f) = record { short = omega (arith, ap length e, ap length f); few = omega (arith, ap brackets e, ap brackets f) }
next_fewer ts rest (Identifier n) (e, some) = tail_fewer ts _ rest e
next_fewer ts rest (Number v) (e, small) = tail_fewer ts _ rest e
next_fewer ts rest (TypeLetter d) e = tail_fewer ts _ rest e
next_fewer ts rest Equals e = tail_fewer ts _ rest e
next_fewer ts rest Or e = tail_fewer ts _ rest e
next_fewer ts rest Plus e = tail_fewer ts _ rest e
next_fewer ts rest Minus e = tail_fewer ts _ rest e
next_fewer ts rest Times e = tail_fewer ts _ rest e
next_fewer ts rest Not e = tail_fewer ts _ rest e
next_fewer ts rest Open e = tail_fewer ts _ rest e
next_fewer ts rest Close e = tail_fewer ts _ rest e
next_fewer ts rest (Other c) (e, plain, is) = tail_fewer ts _ rest e

-- each token makes at most two gates
module _ (signal : List ℕ → ℕ) where
  few_one : (k : GateKind) (a : Making) (next m : ℕ) → length (a next).gates ≤ 2 * m → length (after_one k a next).gates ≤ 2 * m + 1
  few_one k a next m h = omega (arith, length-append (a next).gates (one_argument k (a next).signal ∷ []))

  few_two : (k : GateKind) (a b : Making) (next m n : ℕ) → ((i : ℕ) → length (a i).gates ≤ m) → ((i : ℕ) → length (b i).gates ≤ n) → length (after_two k a b next).gates ≤ m + n + 1
  few_two k a b next m n f g =
      let e = a next in
      let h = b (next + length e.gates) in
      let gate = two_arguments k e.signal h.signal in
      omega (arith, f next, g (next + length e.gates), length-append e.gates (h.gates ++ (gate ∷ [])), length-append h.gates (gate ∷ []))

  mutual
    pub few_formula : (f : Formula) (next : ℕ) → length (formula_made signal f next).gates ≤ 2 * length (spell f)
    few_formula (one_part p) next = few_part p next
    few_formula (either f p) next =
        omega (arith, few_two OrGate (formula_made signal f) (part_made signal p) next (2 * length (spell f)) (2 * length (spell_part p)) (few_formula f) (few_part p), length-append (spell f) ((124 ∷ []) ∷ spell_part p))

    pub few_part : (p : Part) (next : ℕ) → length (part_made signal p next).gates ≤ 2 * length (spell_part p)
    few_part (one_term t) next = few_term t next
    few_part (plus p t) next =
        omega (arith, few_two SumGate (part_made signal p) (term_made signal t) next (2 * length (spell_part p)) (2 * length (spell_term t)) (few_part p) (few_term t), length-append (spell_part p) ((43 ∷ []) ∷ spell_term t))
    few_part (less p t) next =
        omega (arith, few_two SumGate (part_made signal p) (after_one MinusGate (term_made signal t)) next (2 * length (spell_part p)) (2 * length (spell_term t) + 1) (few_part p) (λ i. few_one MinusGate (term_made signal t) i (length (spell_term t)) (few_term t i)), length-append (spell_part p) ((45 ∷ []) ∷ spell_term t))

    pub few_term : (t : Term) (next : ℕ) → length (term_made signal t next).gates ≤ 2 * length (spell_term t)
    few_term (one_factor f) next = few_factor f next
    few_term (times t f) next =
        omega (arith, few_two TimesGate (term_made signal t) (factor_made signal f) next (2 * length (spell_term t)) (2 * length (spell_factor f)) (few_term t) (few_factor f), length-append (spell_term t) ((42 ∷ []) ∷ spell_factor f))

    pub few_factor : (f : Factor) (next : ℕ) → length (factor_made signal f next).gates ≤ 2 * length (spell_factor f)
    few_factor (negated f) next = omega (arith, few_one NotGate (factor_made signal f) next (length (spell_factor f)) (few_factor f next))
    few_factor (bracketed f) next = omega (arith, few_formula f next, length-append (spell f) ((41 ∷ []) ∷ []))
    few_factor (word w) next = omega arith
    few_factor (numeral n) next = omega arith

-- a factor has a token
pub factor_some : (f : Factor) → 0 < length (spell_factor f)
factor_some (negated f) = omega arith
factor_some (bracketed f) = omega arith
factor_some (word w) = omega arith
factor_some (numeral n) = omega arith

pub term_some : (t : Term) → 0 < length (spell_term t)
term_some (one_factor f) = factor_some f
term_some (times t f) = omega (arith, length-append (spell_term t) ((42 ∷ []) ∷ spell_factor f))

pub part_some : (p : Part) → 0 < length (spell_part p)
part_some (one_term t) = term_some t
part_some (plus p t) = omega (arith, length-append (spell_part p) ((43 ∷ []) ∷ spell_term t))
part_some (less p t) = omega (arith, length-append (spell_part p) ((45 ∷ []) ∷ spell_term t))

-- ---- what is left is enough

-- for what follows a sign, and two gates more
pub record Enough (before : Tokens) (d : Draft) (ts : Tokens) : Type 0 where
  pub few : brackets ts ≤ brackets before
  pub signals : d.facts + d.gate_count + 2 * length ts + 2 < 2 ^ 32

module _ (ss : List Symbol) (d : Draft) (ts : Tokens) (signals : Signals d ts) where
  still : (made : Making) (ws : List Word) (s : ℕ) (d₁ : Draft) (spelled after : Tokens) → Drawn ss d made ws s d₁ → length (over d made).gates ≤ 2 * length spelled → ts ≡ spelled ++ after → Signals d₁ after
  still made ws s d₁ spelled after drawn small e = omega (arith, signals, drawn.count, drawn.others.facts, small, ap length e ∙ length-append spelled after)

  after_sign : (made : Making) (ws : List Word) (s c : ℕ) (d₁ : Draft) (spelled after rest : Tokens) → Drawn ss d made ws s d₁ → length (over d made).gates ≤ 2 * length spelled → ts ≡ spelled ++ after → after ≡ (c ∷ []) ∷ rest → Enough ts d₁ rest
  after_sign made ws s c d₁ spelled after rest drawn small e is =
      let all = ap brackets e ∙ brackets_append spelled after in
      let fewer = tail_fewer after (c ∷ []) rest is in
      record { few = omega (arith, all, fewer.few); signals = omega (arith, still made ws s d₁ spelled after drawn small e, ap length is) }

  module _ (s : ℕ) (rest : Tokens) (d₁ : Draft) where
    pub enough_times : ReadTerm ss d ts s Times rest d₁ → Enough ts d₁ rest
    enough_times read = after_sign _ _ s 42 d₁ (spell_term read.term) read.after rest read.drawn (few_term (signal_or_zero ss) read.term _) read.tokens read.next

    pub enough_plus : ReadPart ss d ts s Plus rest d₁ → Enough ts d₁ rest
    enough_plus read = after_sign _ _ s 43 d₁ (spell_part read.part) read.after rest read.drawn (few_part (signal_or_zero ss) read.part _) read.tokens read.next

    pub enough_minus : ReadPart ss d ts s Minus rest d₁ → Enough ts d₁ rest
    enough_minus read = after_sign _ _ s 45 d₁ (spell_part read.part) read.after rest read.drawn (few_part (signal_or_zero ss) read.part _) read.tokens read.next

    pub enough_or : ReadFormula ss d ts s Or rest d₁ → Enough ts d₁ rest
    enough_or read = after_sign _ _ s 124 d₁ (spell read.formula) read.after rest read.drawn (few_formula (signal_or_zero ss) read.formula _) read.tokens read.next

-- reading on makes at most two gates for each token
pub record Grown (d : Draft) (ts : Tokens) (d₁ : Draft) (rest : Tokens) : Type 0 where
  pub shorter : length rest < length ts
  pub gates : d₁.facts + d₁.gate_count + 2 * length rest ≤ d.facts + d.gate_count + 2 * length ts

module _ (ss : List Symbol) (d : Draft) (ts : Tokens) (s : ℕ) (rest : Tokens) (d₁ : Draft) where
  grown : (made : Making) (ws : List Word) (spelled after : Tokens) → Drawn ss d made ws s d₁ → length (over d made).gates ≤ 2 * length spelled → 0 < length spelled → ts ≡ spelled ++ after → length rest ≤ length after → Grown d ts d₁ rest
  grown made ws spelled after drawn small some e le =
      let long = ap length e ∙ length-append spelled after in
      record { shorter = omega (arith, long, le, some); gates = omega (arith, drawn.count, drawn.others.facts, small, long, le) }

  pub grown_factor : ReadFactor ss d ts s rest d₁ → Grown d ts d₁ rest
  grown_factor read = grown _ _ (spell_factor read.factor) rest read.drawn (few_factor (signal_or_zero ss) read.factor _) (factor_some read.factor) read.tokens (omega arith)

  pub grown_term : (t : Token) → ReadTerm ss d ts s t rest d₁ → Grown d ts d₁ rest
  grown_term t read = grown _ _ (spell_term read.term) read.after read.drawn (few_term (signal_or_zero ss) read.term _) (term_some read.term) read.tokens (next_fewer read.after rest t read.next).short

  pub grown_part : (t : Token) → ReadPart ss d ts s t rest d₁ → Grown d ts d₁ rest
  grown_part t read = grown _ _ (spell_part read.part) read.after read.drawn (few_part (signal_or_zero ss) read.part _) (part_some read.part) read.tokens (next_fewer read.after rest t read.next).short

-- ---- one thing more is read

pub joined : (ts spelled more after rest : Tokens) (c : ℕ) → ts ≡ spelled ++ after → after ≡ (c ∷ []) ∷ rest → (r : Tokens) → rest ≡ more ++ r → ts ≡ (spelled ++ ((c ∷ []) ∷ more)) ++ r
joined ts spelled more after rest c e is r f =
    e ∙ ap (λ us. spelled ++ us) (is ∙ ap (λ us. (c ∷ []) ∷ us) f) ∙ sym (append_assoc spelled ((c ∷ []) ∷ more) r)

module _ (ss : List Symbol) (d : Draft) (ts : Tokens) where
  abbrev sig : List ℕ → ℕ
  sig = signal_or_zero ss

  pub term_first : (s : ℕ) (rest rest₂ : Tokens) (t : Token) (d₁ : Draft) → ReadFactor ss d ts s rest d₁ → Next rest t rest₂ → ReadTerm ss d ts s t rest₂ d₁
  term_first s rest rest₂ t d₁ read next = record { term = one_factor read.factor; after = rest; tokens = read.tokens; next = next; drawn = read.drawn }

  pub part_first : (s : ℕ) (rest : Tokens) (t : Token) (d₁ : Draft) → ReadTerm ss d ts s t rest d₁ → ReadPart ss d ts s t rest d₁
  part_first s rest t d₁ read = record { part = one_term read.term; after = read.after; tokens = read.tokens; next = read.next; drawn = read.drawn }

  pub formula_first : (s : ℕ) (rest : Tokens) (t : Token) (d₁ : Draft) → ReadPart ss d ts s t rest d₁ → ReadFormula ss d ts s t rest d₁
  formula_first s rest t d₁ read = record { formula = one_part read.part; after = read.after; tokens = read.tokens; next = read.next; drawn = read.drawn }

  module _ (s u v : ℕ) (rest rest₂ : Tokens) (t : Token) (d₁ d₂ d₃ : Draft) where
    pub term_more : (rest₃ : Tokens) → ReadTerm ss d ts s Times rest d₁ → ReadFactor ss d₁ rest u rest₂ d₂ → Put d₂ (two_arguments TimesGate s u) v d₃ → Next rest₂ t rest₃ → ReadTerm ss d ts v t rest₃ d₃
    term_more rest₃ read more put next = record {
      term = times read.term more.factor;
      after = rest₂;
      tokens = joined ts (spell_term read.term) (spell_factor more.factor) read.after rest 42 read.tokens read.next rest₂ more.tokens;
      next = next;
      drawn = drawn_two ss d (term_made sig read.term) (term_names read.term) s d₁ read.drawn (factor_made sig more.factor) (factor_names more.factor) u d₂ more.drawn TimesGate v d₃ put;
    }

    pub part_plus : ReadPart ss d ts s Plus rest d₁ → ReadTerm ss d₁ rest u t rest₂ d₂ → Put d₂ (two_arguments SumGate s u) v d₃ → ReadPart ss d ts v t rest₂ d₃
    part_plus read more put = record {
      part = plus read.part more.term;
      after = more.after;
      tokens = joined ts (spell_part read.part) (spell_term more.term) read.after rest 43 read.tokens read.next more.after more.tokens;
      next = more.next;
      drawn = drawn_two ss d (part_made sig read.part) (part_names read.part) s d₁ read.drawn (term_made sig more.term) (term_names more.term) u d₂ more.drawn SumGate v d₃ put;
    }

    pub part_minus : (m : ℕ) (d₄ : Draft) → ReadPart ss d ts s Minus rest d₁ → ReadTerm ss d₁ rest u t rest₂ d₂ → Put d₂ (one_argument MinusGate u) m d₃ → Put d₃ (two_arguments SumGate s m) v d₄ → ReadPart ss d ts v t rest₂ d₄
    part_minus m d₄ read more turned put = record {
      part = less read.part more.term;
      after = more.after;
      tokens = joined ts (spell_part read.part) (spell_term more.term) read.after rest 45 read.tokens read.next more.after more.tokens;
      next = more.next;
      drawn = drawn_two ss d (part_made sig read.part) (part_names read.part) s d₁ read.drawn (after_one MinusGate (term_made sig more.term)) (term_names more.term) m d₃
          (drawn_one ss d₁ (term_made sig more.term) (term_names more.term) u d₂ more.drawn MinusGate m d₃ turned) SumGate v d₄ put;
    }

    pub formula_or : ReadFormula ss d ts s Or rest d₁ → ReadPart ss d₁ rest u t rest₂ d₂ → Put d₂ (two_arguments OrGate s u) v d₃ → ReadFormula ss d ts v t rest₂ d₃
    formula_or read more put = record {
      formula = either read.formula more.part;
      after = more.after;
      tokens = joined ts (spell read.formula) (spell_part more.part) read.after rest 124 read.tokens read.next more.after more.tokens;
      next = more.next;
      drawn = drawn_two ss d (formula_made sig read.formula) (formula_names read.formula) s d₁ read.drawn (part_made sig more.part) (part_names more.part) u d₂ more.drawn OrGate v d₃ put;
    }

  pub factor_not : (u v : ℕ) (rest rest₂ : Tokens) (d₁ d₂ : Draft) → Next ts Not rest → ReadFactor ss d rest u rest₂ d₁ → Put d₁ (one_argument NotGate u) v d₂ → ReadFactor ss d ts v rest₂ d₂
  factor_not u v rest rest₂ d₁ d₂ e read put = record {
    factor = negated read.factor;
    tokens = e ∙ ap (λ us. (33 ∷ []) ∷ us) read.tokens;
    drawn = drawn_one ss d (factor_made sig read.factor) (factor_names read.factor) u d₁ read.drawn NotGate v d₂ put;
  }

  pub factor_brackets : (s : ℕ) (rest rest₂ : Tokens) (d₁ : Draft) → Next ts Open rest → ReadFormula ss d rest s Close rest₂ d₁ → ReadFactor ss d ts s rest₂ d₁
  factor_brackets s rest rest₂ d₁ e read = record {
    factor = bracketed read.formula;
    tokens = e ∙ ap (λ us. (40 ∷ []) ∷ us) (read.tokens ∙ ap (λ us. spell read.formula ++ us) read.next ∙ sym (append_assoc (spell read.formula) ((41 ∷ []) ∷ []) rest₂));
    drawn = read.drawn;
  }

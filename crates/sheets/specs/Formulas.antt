-- Formulas: how they are written, which names they use, what they are worth and which gates they make.
-- A formula is parts joined by `|`, a part is terms joined by `+` or `-`, a term is factors joined by `*`. All group to the left.
use Rattle.std.specs.Prelude.{ℕ, ◌+◌, List, [], ◌∷◌, ◌++◌, length, decimal}
use Rattle.model.specs.Gates.{constant_gate, one_argument, two_arguments}
use Rattle.model.specs.Rings.{Ring}
use Rattle.model.specs.declared.gate.GateKind.{GateKind}
use Rattle.model.specs.declared.gate.GateKind.TheVariants.{Sum, Times, Minus, Not, Or}
use Rattle.sheets.specs.Sides.{Emitted, emitted, Numeral, Word, written}

mutual
  pub data Formula : Type 0 where
    one_part : Part → Formula
    either : Formula → Part → Formula

  pub data Part : Type 0 where
    one_term : Term → Part
    plus : Part → Term → Part
    less : Part → Term → Part

  pub data Term : Type 0 where
    one_factor : Factor → Term
    times : Term → Factor → Term

  pub data Factor : Type 0 where
    negated : Factor → Factor
    bracketed : Formula → Factor
    word : Word → Factor
    numeral : Numeral → Factor

-- the tokens that write a formula, with a sign between: | + - * ! ( )
abbrev mutual
  pub spell : Formula → List (List ℕ)
  spell (one_part p) = spell_part p
  spell (either f p) = spell f ++ ((124 ∷ []) ∷ spell_part p)

  pub spell_part : Part → List (List ℕ)
  spell_part (one_term t) = spell_term t
  spell_part (plus p t) = spell_part p ++ ((43 ∷ []) ∷ spell_term t)
  spell_part (less p t) = spell_part p ++ ((45 ∷ []) ∷ spell_term t)

  pub spell_term : Term → List (List ℕ)
  spell_term (one_factor f) = spell_factor f
  spell_term (times t f) = spell_term t ++ ((42 ∷ []) ∷ spell_factor f)

  pub spell_factor : Factor → List (List ℕ)
  spell_factor (negated f) = (33 ∷ []) ∷ spell_factor f
  spell_factor (bracketed f) = (40 ∷ []) ∷ (spell f ++ ((41 ∷ []) ∷ []))
  spell_factor (word w) = written w ∷ []
  spell_factor (numeral n) = decimal n.value ∷ []

-- the names that a formula uses, left to right
abbrev mutual
  pub formula_names : Formula → List Word
  formula_names (one_part p) = part_names p
  formula_names (either f p) = formula_names f ++ part_names p

  pub part_names : Part → List Word
  part_names (one_term t) = term_names t
  part_names (plus p t) = part_names p ++ term_names t
  part_names (less p t) = part_names p ++ term_names t

  pub term_names : Term → List Word
  term_names (one_factor f) = factor_names f
  term_names (times t f) = term_names t ++ factor_names f

  pub factor_names : Factor → List Word
  factor_names (negated f) = factor_names f
  factor_names (bracketed f) = formula_names f
  factor_names (word w) = w ∷ []
  factor_names (numeral n) = []

-- ---- what a formula is worth in an arithmetic, where it is known what the names are worth

module _ (R : Ring) (name-value : List ℕ → ℕ) where
  abbrev mutual
    pub formula_value : Formula → ℕ
    formula_value (one_part p) = part_value p
    formula_value (either f p) = R.sum (R.sum (formula_value f) (part_value p)) (R.minus (R.product (formula_value f) (part_value p)))

    pub part_value : Part → ℕ
    part_value (one_term t) = term_value t
    part_value (plus p t) = R.sum (part_value p) (term_value t)
    part_value (less p t) = R.sum (part_value p) (R.minus (term_value t))

    pub term_value : Term → ℕ
    term_value (one_factor f) = factor_value f
    term_value (times t f) = R.product (term_value t) (factor_value f)

    pub factor_value : Factor → ℕ
    factor_value (negated f) = R.sum R.one (R.minus (factor_value f))
    factor_value (bracketed f) = formula_value f
    factor_value (word w) = name-value (written w)
    factor_value (numeral n) = n.value

-- ---- the gates that a formula makes, and its signal, from the first number that is no signal yet

abbrev pub Making : Type 0
Making = ℕ → Emitted

-- a signal that is there already
abbrev pub standing : ℕ → Making
standing signal next = emitted [] signal

-- a number: a gate of its own
abbrev pub constant : ℕ → Making
constant n next = emitted (constant_gate n ∷ []) next

-- the operand's gates, then one of its signal
abbrev pub after_one : GateKind → Making → Making
after_one k a next = emitted ((a next).gates ++ (one_argument k (a next).signal ∷ [])) (next + length (a next).gates)

-- the left operand's gates, the right operand's, then one of their signals
abbrev pub after_two : GateKind → Making → Making → Making
after_two k a b next =
    let left = a next in
    let right = b (next + length left.gates) in
    emitted (left.gates ++ (right.gates ++ (two_arguments k left.signal right.signal ∷ []))) (next + length left.gates + length right.gates)

module _ (signal : List ℕ → ℕ) where
  abbrev mutual
    pub formula_made : Formula → Making
    formula_made (one_part p) = part_made p
    formula_made (either f p) = after_two Or (formula_made f) (part_made p)

    pub part_made : Part → Making
    part_made (one_term t) = term_made t
    part_made (plus p t) = after_two Sum (part_made p) (term_made t)
    part_made (less p t) = after_two Sum (part_made p) (after_one Minus (term_made t))

    pub term_made : Term → Making
    term_made (one_factor f) = factor_made f
    term_made (times t f) = after_two Times (term_made t) (factor_made f)

    pub factor_made : Factor → Making
    factor_made (negated f) = after_one Not (factor_made f)
    factor_made (bracketed f) = formula_made f
    factor_made (word w) = standing (signal (written w))
    factor_made (numeral n) = constant n.value

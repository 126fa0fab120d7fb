-- What the readers of formulas make of a draft, where ss are the names that are known.
use Rattle.std.specs.Prelude.{◌≡◌, ℕ, ◌+◌, ◌*◌, ◌^◌, ◌<◌, not, ◌||◌, List, ◌++◌, length}
use Rattle.sheets.specs.Drafts.{Others, written_from}
use Rattle.sheets.specs.Formulas.{Formula, Part, Term, Factor, spell, spell_part, spell_term, spell_factor}
use Rattle.sheets.specs.Formulas.{formula_made, formula_names, part_made, part_names, term_made, term_names, factor_made, factor_names, Making}
use Rattle.sheets.specs.RuleSheets.{all_known}
use Rattle.sheets.specs.Sides.{Emitted, Word}
use Rattle.sheets.specs.Symbols.{signal_or_zero}
use Rattle.sheets.specs.Tokens.{Next}
use Rattle.sheets.specs.declared.draft.Draft.{Draft}
use Rattle.sheets.specs.declared.symbol.Symbol.{Symbol}
use Rattle.sheets.specs.declared.token.Token.{Token}

-- what is made over a draft
abbrev pub over : Draft → Making → Emitted
over d made = made (d.facts + d.gate_count)

-- gates were put into a draft, and names that are not known noted
pub record Drawn (ss : List Symbol) (d : Draft) (made : Making) (ws : List Word) (signal : ℕ) (d' : Draft) : Type 0 where
  pub signal_is : signal ≡ (over d made).signal
  pub gates : d'.gates.now ≡ written_from d.gate_count (over d made).gates d.gates.now
  pub count : d'.gate_count ≡ d.gate_count + length (over d made).gates
  pub unknown : d'.unknown ≡ (d.unknown || not (all_known ss ws))
  pub others : Others d d'

-- a factor was read, up to the rest
pub record ReadFactor (ss : List Symbol) (d : Draft) (ts : List (List ℕ)) (signal : ℕ) (rest : List (List ℕ)) (d' : Draft) : Type 0 where
  pub factor : Factor
  pub tokens : ts ≡ spell_factor factor ++ rest
  pub drawn : Drawn ss d (factor_made (signal_or_zero ss) factor) (factor_names factor) signal d'

-- a term was read and the token after it, up to the rest
pub record ReadTerm (ss : List Symbol) (d : Draft) (ts : List (List ℕ)) (signal : ℕ) (token : Token) (rest : List (List ℕ)) (d' : Draft) : Type 0 where
  pub term : Term
  pub after : List (List ℕ)
  pub tokens : ts ≡ spell_term term ++ after
  pub next : Next after token rest
  pub drawn : Drawn ss d (term_made (signal_or_zero ss) term) (term_names term) signal d'

pub record ReadPart (ss : List Symbol) (d : Draft) (ts : List (List ℕ)) (signal : ℕ) (token : Token) (rest : List (List ℕ)) (d' : Draft) : Type 0 where
  pub part : Part
  pub after : List (List ℕ)
  pub tokens : ts ≡ spell_part part ++ after
  pub next : Next after token rest
  pub drawn : Drawn ss d (part_made (signal_or_zero ss) part) (part_names part) signal d'

pub record ReadFormula (ss : List Symbol) (d : Draft) (ts : List (List ℕ)) (signal : ℕ) (token : Token) (rest : List (List ℕ)) (d' : Draft) : Type 0 where
  pub formula : Formula
  pub after : List (List ℕ)
  pub tokens : ts ≡ spell formula ++ after
  pub next : Next after token rest
  pub drawn : Drawn ss d (formula_made (signal_or_zero ss) formula) (formula_names formula) signal d'

-- each token makes at most two gates, and their signals have 32 bits
abbrev pub Signals : Draft → List (List ℕ) → Type 0
Signals d ts = d.facts + d.gate_count + 2 * length ts < 2 ^ 32

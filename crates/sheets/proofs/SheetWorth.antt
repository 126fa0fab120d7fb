-- The gates and outputs of a rule sheet mean what its lines say.
use Rattle.std.proofs.Common.{◌≡◌, ℕ, suc, ◌+◌, ◌<◌, Bool, true, false, cond, ltb, List, [], ◌∷◌, ◌++◌, map, length, take, is_some, IfOk, Some, None, Ok, Err, All, Result, unwrap_or, sym, refl, ap, ◌∙◌, subst, ⊎_elim, arith}
use Rattle.std.proofs.lemmas.List.Elements.{All-cons, All-head, All-nil, All-push, All-tail, All-weaker}
use Rattle.std.proofs.lemmas.Slice.Eq.{bytes_eq-Decides}
use Rattle.std.proofs.lemmas.List.{append_assoc, append-nil, length-append, map-append, take_at}
use Rattle.std.proofs.lemmas.Bool.{and_parts, cases_Bool, cond-false, cond-true, lt-ltb, true≢false}
use Rattle.std.specs.Str.{bytes_eq}
use Rattle.model.specs.Nets.{fact_value, gate_values, operation, output_value, signal_value, values_after}
use Rattle.model.specs.Outputs.{output_of}
use Rattle.model.specs.Rings.{Ring}
use Rattle.model.specs.Spelling.{spelling}
use Rattle.model.specs.declared.fact.Fact.{Fact}
use Rattle.model.specs.declared.fault.Fault.{Fault}
use Rattle.model.specs.declared.fault.Refusal.{Refusal}
use Rattle.model.specs.declared.gate.Gate.{Gate}
use Rattle.model.specs.declared.gate.GateKind.{GateKind}
use Rattle.model.specs.declared.gate.GateKind.TheVariants.{Const, Sum, Times, Minus, Not, Or}
use Rattle.model.specs.declared.output.Output.{Output}
use Rattle.sheets.specs.Lines.{later, Line, lines_from, speaking}
use Rattle.sheets.specs.Notations.{emit, Side, side_names}
use Rattle.sheets.specs.RuleSheets.{all_known, before_lines, counted, definition, fact_symbols, Form, gates_left, line_names, line_tokens, made, output, outputs_left, ReadsRules, repeats, Room, RuleLine, Rules, RuleSheet, RuleStep, with_line}
use Rattle.sheets.specs.SheetWorth.{fact_worths, listed_names, listed_worths, Means, ReadMeaning, side_worth, with_name, Worths}
use Rattle.sheets.specs.Sheets.{Reads, done, goes_on, stops}
use Rattle.sheets.specs.Sides.{arity_of, binary, constant, Emitted, unary, Word, written}
use Rattle.sheets.specs.Symbols.{known, signal_of, signal_or_zero, symbol}
use Rattle.sheets.specs.Tokens.{tokens}
use Rattle.sheets.specs.declared.counts.Counts.{Counts}
use Rattle.sheets.specs.declared.notation.Notation.{Notation}
use Rattle.sheets.specs.declared.notation.Notation.TheVariants.{Gates, Formulas}
use Rattle.sheets.specs.declared.symbol.Symbol.{Symbol}
use Rattle.sheets.proofs.FormulaWorth.{formula_worth, Stands, Worth}
use Rattle.sheets.proofs.GrownNets.{after_append, after_length, constant_worth, one_worth, signal_after, signal_last, two_worth}
use Rattle.sheets.proofs.Verdicts.{ok_or_err, same_ok}

-- ---- looking up one name more

found_before : (ss : List Symbol) (s : Symbol) (name : List ℕ) → known ss name ≡ true → signal_of (ss ++ (s ∷ [])) name ≡ signal_of ss name
found_before [] s name k = absurd (true≢false (sym k))
found_before (z ∷ ss) s name k =
    ⊎_elim
    (λ h. cond-true (bytes_eq (spelling z.name) name) (Some z.signal) _ h ∙ sym (cond-true (bytes_eq (spelling z.name) name) (Some z.signal) _ h))
    (λ h.
    let skip = cond-false (bytes_eq (spelling z.name) name) (Some z.signal) (signal_of ss name) h in
    cond-false (bytes_eq (spelling z.name) name) (Some z.signal) _ h ∙ found_before ss s name (sym (ap is_some skip) ∙ k) ∙ sym skip)
    (cases_Bool (bytes_eq (spelling z.name) name))

found_last : (ss : List Symbol) (s : Symbol) (name : List ℕ) → known ss name ≡ false → signal_of (ss ++ (s ∷ [])) name ≡ cond (bytes_eq (spelling s.name) name) (Some s.signal) None
found_last [] s name k = refl
found_last (z ∷ ss) s name k =
    ⊎_elim
    (λ h. absurd (true≢false (sym (ap is_some (cond-true (bytes_eq (spelling z.name) name) (Some z.signal) (signal_of ss name) h)) ∙ k)))
    (λ h.
    cond-false (bytes_eq (spelling z.name) name) (Some z.signal) _ h
    ∙ found_last ss s name (sym (ap is_some (cond-false (bytes_eq (spelling z.name) name) (Some z.signal) (signal_of ss name) h)) ∙ k))
    (cases_Bool (bytes_eq (spelling z.name) name))

all_from_known : (ss : List Symbol) (ws : List Word) → all_known ss ws ≡ true → All (λ w. known ss (written w) ≡ true) ws
all_from_known ss [] h = All-nil (λ w. known ss (written w) ≡ true)
all_from_known ss (w ∷ ws) h = let both = and_parts (known ss (written w)) (all_known ss ws) h in All-cons (λ w. known ss (written w) ≡ true) w ws both.0 (all_from_known ss ws both.1)

-- a kind of one argument looks at no other
one_argument_worth : (R : Ring) (k : GateKind) → arity_of k ≡ 1 → (a b c : ℕ) → operation R (Some k) 0 a b ≡ operation R (Some k) 0 a c
one_argument_worth R Const one a b c = absurd (omega arith)
one_argument_worth R Sum one a b c = absurd (omega arith)
one_argument_worth R Times one a b c = absurd (omega arith)
one_argument_worth R Minus one a b c = refl
one_argument_worth R Not one a b c = refl
one_argument_worth R Or one a b c = absurd (omega arith)

-- ---- lines, where the arithmetic and the facts are given

module _ (R : Ring) (facts : ℕ) (x : ℕ → Bool) where
  -- each name that is known stands for a signal of the value that the name is worth
  abbrev pub Agree : Rules → Worths → Type 0
  Agree rules worths = (name : List ℕ) → known rules.symbols name ≡ true
      → (signal_or_zero rules.symbols name < facts + length rules.gates) × (signal_value R facts x (gate_values R facts x rules.gates) (signal_or_zero rules.symbols name) ≡ worths name)

  module _ (rules : Rules) (worths : Worths) (agree : Agree rules worths) where
    abbrev vs : List ℕ
    vs = gate_values R facts x rules.gates

    abbrev sig : List ℕ → ℕ
    sig = signal_or_zero rules.symbols

    long : length vs ≡ length rules.gates
    long = after_length R facts x [] rules.gates ∙ (omega arith)

    stands : (w : Word) → known rules.symbols (written w) ≡ true → Stands R facts x vs sig worths w
    stands w k = let a = agree (written w) k in (omega (arith, a.0, long), a.1)

    all_stand : (ws : List Word) → all_known rules.symbols ws ≡ true → All (Stands R facts x vs sig worths) ws
    all_stand ws k = All-weaker _ (Stands R facts x vs sig worths) stands ws (all_from_known rules.symbols ws k)

    gate_worths : (side : Side Gates) → All (Stands R facts x vs sig worths) (side_names Gates side) → Worth R facts x vs (emit Gates sig (facts + length vs) side) (side_worth R x Gates worths side)
    gate_worths (constant n) stand = record { there = omega arith; worth = signal_last R facts x vs _ _ refl ∙ constant_worth R facts x vs n.value }
    gate_worths (unary k one a) stand = record { there = omega arith; worth = signal_last R facts x vs _ _ refl ∙ one_worth R facts x vs k (sig (written a)) (worths (written a)) (All-head (Stands R facts x vs sig worths) a [] stand).1 ∙ one_argument_worth R k one (worths (written a)) _ 0 }
    gate_worths (binary k two a b) stand =
        let first = All-head (Stands R facts x vs sig worths) a (b ∷ []) stand in
        let second = All-head (Stands R facts x vs sig worths) b [] (All-tail (Stands R facts x vs sig worths) a (b ∷ []) stand) in
        record { there = omega arith; worth = signal_last R facts x vs _ _ refl ∙ two_worth R facts x vs k (sig (written a)) (sig (written b)) (worths (written a)) (worths (written b)) first.1 second.1 }

    side_means : (notation : Notation) (side : Side notation) → All (Stands R facts x vs sig worths) (side_names notation side) → Worth R facts x vs (emit notation sig (facts + length vs) side) (side_worth R x notation worths side)
    side_means Gates side stand = gate_worths side stand
    side_means Formulas f stand = formula_worth R facts x vs sig worths f stand

    module _ (notation : Notation) (w : Word) (side : Side notation) (all : all_known rules.symbols (side_names notation side) ≡ true) (new : known rules.symbols (written w) ≡ false) where
      abbrev e : Emitted
      e = made notation facts rules side

      abbrev then_rules : Rules
      then_rules = with_line notation facts rules (definition w side)

      abbrev value : ℕ
      value = side_worth R x notation worths side

      side_made : Worth R facts x vs e value
      side_made = subst (λ n. Worth R facts x vs (emit notation sig (facts + n) side) value) long (side_means notation side (all_stand (side_names notation side) all))

      values_then : gate_values R facts x then_rules.gates ≡ values_after R facts x vs e.gates
      values_then = after_append R facts x [] rules.gates e.gates

      gates_then : length then_rules.gates ≡ length rules.gates + length e.gates
      gates_then = length-append rules.gates e.gates

      -- what was a signal keeps its value
      pub value_stays : (s : ℕ) → s < facts + length rules.gates → signal_value R facts x (gate_values R facts x then_rules.gates) s ≡ signal_value R facts x vs s
      value_stays s lt = ap (λ us. signal_value R facts x us s) values_then ∙ signal_after R facts x vs e.gates s (omega (arith, lt, long))

      by_name : (name : List ℕ) → known then_rules.symbols name ≡ true → (b : Bool) → known rules.symbols name ≡ b
          → (signal_or_zero then_rules.symbols name < facts + length then_rules.gates) × (signal_value R facts x (gate_values R facts x then_rules.gates) (signal_or_zero then_rules.symbols name) ≡ with_name (written w) value worths name)
      by_name name k true old =
          let a = agree name old in
          let same : signal_or_zero then_rules.symbols name ≡ sig name = ap (λ o. unwrap_or o 0) (found_before rules.symbols (symbol w.name e.signal) name old) in
          let other : bytes_eq (written w) name ≡ false = ⊎_elim (λ h. absurd (true≢false (sym old ∙ ap (known rules.symbols) (sym ((bytes_eq-Decides (written w) name).0 h)) ∙ new))) (λ h. h) (cases_Bool (bytes_eq (written w) name)) in (
            omega (arith, a.0, same, gates_then),
            ap (λ s. signal_value R facts x (gate_values R facts x then_rules.gates) s) same ∙ value_stays (sig name) a.0 ∙ a.1 ∙ sym (cond-false (bytes_eq (written w) name) value (worths name) other),
          )
      by_name name k false old =
          let last = found_last rules.symbols (symbol w.name e.signal) name old in
          ⊎_elim
          (λ h.
          let same : signal_or_zero then_rules.symbols name ≡ e.signal = ap (λ o. unwrap_or o 0) (last ∙ cond-true (bytes_eq (written w) name) (Some e.signal) None h) in (
            omega (arith, side_made.there, same, gates_then, long),
            (λ i. signal_value R facts x (values_then i) (same i)) ∙ side_made.worth ∙ sym (cond-true (bytes_eq (written w) name) value (worths name) h),
          ))
          (λ h. absurd (true≢false (sym k ∙ ap is_some (last ∙ cond-false (bytes_eq (written w) name) (Some e.signal) None h))))
          (cases_Bool (bytes_eq (written w) name))

      pub agree_then : Agree then_rules (with_name (written w) value worths)
      agree_then name k = by_name name k (known rules.symbols name) refl

-- ---- line by line

map_same : {X : Type 0} {Y : Type 0} (f g : X → Y) (xs : List X) → All (λ x. f x ≡ g x) xs → map f xs ≡ map g xs
map_same f g [] h = refl
map_same f g (x ∷ xs) h =
    let here = All-head (λ x. f x ≡ g x) x xs h in
    λ i. here i ∷ map_same f g xs (All-tail (λ x. f x ≡ g x) x xs h) i

abbrev output_name : Output → List ℕ
output_name o = spelling o.name

-- every output is a signal that is there
abbrev Within : ℕ → Rules → Type 0
Within facts rules = All (λ o. o.signal < facts + length rules.gates) rules.outputs

-- what lines add, by what they say
record Continued (notation : Notation) (facts : ℕ) (rules : Rules) (ls : List Line) (final : Rules) : Type 0 where
  lines : List (RuleLine notation)
  written_so : map (λ l. tokens l.bytes) ls ≡ map (λ l. line_tokens l) lines
  names : map output_name final.outputs ≡ map output_name rules.outputs ++ listed_names lines
  values : (R : Ring) (x : ℕ → Bool) (worths : Worths) → Agree R facts x rules worths → Within facts rules
      → map (λ o. output_value R facts x final.gates o) final.outputs ≡ map (λ o. output_value R facts x rules.gates o) rules.outputs ++ listed_worths R x worths lines

module _ (notation : Notation) (facts : ℕ) (rules : Rules) (l : Line) (ls : List Line) (final : Rules) where
  one_defined : (w : Word) (side : Side notation) → Form {notation = notation} (tokens l.bytes) (definition w side) → all_known rules.symbols (side_names notation side) ≡ true → known rules.symbols (written w) ≡ false
      → Continued notation facts (with_line notation facts rules (definition w side)) ls final → Continued notation facts rules (l ∷ ls) final
  one_defined w side form all new c = record {
    lines = definition w side ∷ c.lines;
    written_so = λ i. form.tokens i ∷ c.written_so i;
    names = c.names;
    values = λ R x worths agree within.
        let stays = value_stays R facts x rules worths agree notation w side all new in
        let gates = (with_line notation facts rules (definition w side)).gates in
        let longer : (o : Output) → o.signal < facts + length rules.gates → o.signal < facts + length gates = λ o h. omega (arith, h, length-append rules.gates (made notation facts rules side).gates) in
        c.values R x _ (agree_then R facts x rules worths agree notation w side all new) (All-weaker _ _ longer rules.outputs within)
        ∙ ap (λ us. us ++ listed_worths R x worths (definition w side ∷ c.lines)) (map_same _ _ rules.outputs (All-weaker _ _ (λ o h. stays o.signal h) rules.outputs within));
  }

  one_listed : (w : Word) → Form {notation = notation} (tokens l.bytes) (output w) → known rules.symbols (written w) ≡ true
      → Continued notation facts (with_line notation facts rules (output w)) ls final → Continued notation facts rules (l ∷ ls) final
  one_listed w form k c =
      let o = output_of w.name (signal_or_zero rules.symbols (written w)) in
      record {
        lines = output w ∷ c.lines;
        written_so = λ i. form.tokens i ∷ c.written_so i;
        names = c.names ∙ ap (λ us. us ++ listed_names c.lines) (map-append output_name rules.outputs (o ∷ [])) ∙ append_assoc (map output_name rules.outputs) (written w ∷ []) (listed_names c.lines);
        values = λ R x worths agree within.
            let a = agree (written w) k in
            let f : Output → ℕ = λ p. output_value R facts x rules.gates p in
            c.values R x worths agree (All-push (λ p. p.signal < facts + length rules.gates) rules.outputs o within a.0)
            ∙ ap (λ us. us ++ listed_worths R x worths c.lines) (map-append f rules.outputs (o ∷ []) ∙ ap (λ v. map f rules.outputs ++ (v ∷ [])) a.1)
            ∙ append_assoc (map f rules.outputs) (worths (written w) ∷ []) (listed_worths R x worths c.lines);
      }

-- a line that is taken
record Took (notation : Notation) (facts : ℕ) (rules : Rules) (ts : List (List ℕ)) (after : Rules) : Type 0 where
  line : RuleLine notation
  form : Form ts line
  all : all_known rules.symbols (line_names line) ≡ true
  new : repeats rules line ≡ false
  is : with_line notation facts rules line ≡ after

took : (notation : Notation) (facts : ℕ) (room : Room) (rules : Rules) (ts : List (List ℕ)) (r : Result Rules Refusal) → RuleStep notation facts room rules ts r → IfOk r (λ after. Took notation facts rules ts after)
took notation facts room rules ts _ (RuleStep.crowded many) = tt
took notation facts room rules ts _ (RuleStep.formless few none) = tt
took notation facts room rules ts _ (RuleStep.unknown few line form h) = tt
took notation facts room rules ts _ (RuleStep.repeated few line form h k) = tt
took notation facts room rules ts _ (RuleStep.too_large few line form h k none) = tt
took notation facts room rules ts _ (RuleStep.taken few line form h k fits) = record { line = line; form = form; all = h; new = k; is = refl }

module _ (notation : Notation) (facts : ℕ) (room : Room) where
  one_line : (rules : Rules) (l : Line) (ls : List Line) (final : Rules) (line : RuleLine notation) → Form (tokens l.bytes) line → all_known rules.symbols (line_names line) ≡ true → repeats rules line ≡ false
      → Continued notation facts (with_line notation facts rules line) ls final → Continued notation facts rules (l ∷ ls) final
  one_line rules l ls final (output w) form all new c = one_listed notation facts rules l ls final w form (and_parts (known rules.symbols (written w)) true all).0 c
  one_line rules l ls final (definition w side) form all new c = one_defined notation facts rules l ls final w side form all new c

  line_more : (rules after : Rules) (l : Line) (ls : List Line) (r : Result Rules Fault) → Took notation facts rules (tokens l.bytes) after
      → IfOk r (λ final. Continued notation facts after ls final) → IfOk r (λ final. Continued notation facts rules (l ∷ ls) final)
  line_more rules after l ls (Ok final) t c = one_line rules l ls final t.line t.form t.all t.new (subst (λ s. Continued notation facts s ls final) (sym t.is) c)
  line_more rules after l ls (Err f) t c = tt

  continued : (rules : Rules) (ls : List Line) (r : Result Rules Fault) → Reads (RuleStep notation facts room) rules ls r → IfOk r (λ final. Continued notation facts rules ls final)
  continued rules _ _ done = record { lines = []; written_so = refl; names = sym (append-nil _); values = λ R x worths agree within. sym (append-nil _) }
  continued rules _ r (goes_on {l = l} {ls = ls} after step more) = line_more rules after l ls r (took notation facts room rules (tokens l.bytes) (Ok after) step) (continued after ls r more)
  continued rules _ _ (stops refusal step) = tt

-- ---- the facts

module _ (R : Ring) (x : ℕ → Bool) where
  fact_agrees : (place : ℕ) (fs : List Fact) (name : List ℕ) → known (fact_symbols place fs) name ≡ true
      → (signal_or_zero (fact_symbols place fs) name < place + length fs) × (fact_value R (x (signal_or_zero (fact_symbols place fs) name)) ≡ fact_worths R x place fs name)
  fact_agrees place [] name k = absurd (true≢false (sym k))
  fact_agrees place (f ∷ fs) name k =
      let b = bytes_eq (spelling f.name) name in
      let rest = signal_of (fact_symbols (suc place) fs) name in
      ⊎_elim
      (λ h.
      let here : signal_or_zero (fact_symbols place (f ∷ fs)) name ≡ place = ap (λ o. unwrap_or o 0) (cond-true b (Some place) rest h) in
      (omega (arith, here), ap (λ s. fact_value R (x s)) here ∙ sym (cond-true b (fact_value R (x place)) _ h)))
      (λ h.
      let skip = cond-false b (Some place) rest h in
      let there : signal_or_zero (fact_symbols place (f ∷ fs)) name ≡ signal_or_zero (fact_symbols (suc place) fs) name = ap (λ o. unwrap_or o 0) skip in
      let more = fact_agrees (suc place) fs name (sym (ap is_some skip) ∙ k) in
      (omega (arith, there, more.0), ap (λ s. fact_value R (x s)) there ∙ more.1 ∙ sym (cond-false b (fact_value R (x place)) _ h)))
      (cases_Bool b)

  facts_agree : (fs : List Fact) → Agree R (length fs) x (before_lines fs) (fact_worths R x 0 fs)
  facts_agree fs name k =
      let a = fact_agrees 0 fs name k in
      let s = signal_or_zero (fact_symbols 0 fs) name in
      (omega (arith, a.0), cond-true (ltb s (length fs)) (fact_value R (x s)) _ (lt-ltb s (length fs) (omega (arith, a.0))) ∙ a.1)

-- ---- whole sheets

sheet_means : (notation : Notation) (facts : List Fact) (room : Room) (text : List ℕ) (r : Result Rules Fault) → RuleSheet notation facts room text r → IfOk r (λ rules. Means notation facts text rules.gates rules.outputs)
sheet_means notation facts room text _ (RuleSheet.unopened f h) = tt
sheet_means notation facts room text _ (RuleSheet.cramped h few) = tt
sheet_means notation facts room text r (RuleSheet.opened h fits reads) = whole r (continued notation (length facts) room (before_lines facts) (speaking (later (lines_from 0 text))) r reads)
  where
    whole : (q : Result Rules Fault) → IfOk q (λ final. Continued notation (length facts) (before_lines facts) (speaking (later (lines_from 0 text))) final)
        → IfOk q (λ rules. Means notation facts text rules.gates rules.outputs)
    whole (Ok final) c = record { lines = c.lines; tokens = c.written_so; names = c.names; values = λ R x. c.values R x (fact_worths R x 0 facts) (facts_agree R x facts) (All-nil (λ o. o.signal < length facts + 0)) }
    whole (Err f) c = tt

-- what reading leaves in the lent lists
module _ (notation : Notation) (facts : List Fact) (room : Room) (text : List ℕ) (r : Result Counts Fault) (gates : List Gate) (outputs : List Output) where
  by_verdict : (verdict : Result Rules Fault) → RuleSheet notation facts room text verdict → r ≡ counted verdict → gates ≡ gates_left room.gates verdict → outputs ≡ outputs_left room.outputs verdict → ReadMeaning notation facts text r gates outputs
  by_verdict (Ok rules) judged answer gates_are outputs_are counts is =
      let same : ◌≡◌ {A = Counts} (record { gates = length rules.gates; outputs = length rules.outputs }) counts = same_ok (sym answer ∙ is) in
      let gate-list : rules.gates ≡ take counts.gates gates = sym (take_at rules.gates _ (length rules.gates) refl) ∙ (λ i. take (same i).gates (sym gates_are i)) in
      let output-list : rules.outputs ≡ take counts.outputs outputs = sym (take_at rules.outputs _ (length rules.outputs) refl) ∙ (λ i. take (same i).outputs (sym outputs_are i)) in
      let M : List Gate → Type 0 = λ gs. Means notation facts text gs (take counts.outputs outputs) in
      let N : List Output → Type 0 = λ os. Means notation facts text rules.gates os in
      subst M gate-list (subst N output-list (sheet_means notation facts room text (Ok rules) judged))
  by_verdict (Err f) judged answer gates_are outputs_are counts is = absurd (ok_or_err (sym is ∙ answer))

  pub read_meaning : ReadsRules notation facts room text r gates outputs → ReadMeaning notation facts text r gates outputs
  read_meaning read = by_verdict read.verdict read.judged read.answer read.gates_are read.outputs_are

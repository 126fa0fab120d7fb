-- What reading a line makes of a draft is what the notation says of the line.
use Rattle.std.proofs.Common.{◌≡◌, ℕ, ◌+◌, ◌-◌, ◌<◌, ◌≤◌, true, false, not, ◌||◌, List, [], ◌∷◌, ◌++◌, length, take, drop, set, replicate, is_err, Ok, Err, codes, Result, sym, refl, ap, ◌∙◌, subst, arith, MatchResult}
use Rattle.std.proofs.lemmas.List.{append_assoc, append-nil, length-set, length-take-le, take-append-drop, take_more_set}
use Rattle.std.proofs.lemmas.Slice.Eq.{bytes_eq-Decides}
use Rattle.std.proofs.lemmas.Bool.{and_from, and_left, false≢true, not-true, not-false, true≢false}
use Rattle.std.specs.Str.{bytes_eq}
use Rattle.model.specs.Gates.{empty_gate}
use Rattle.model.specs.Outputs.{empty_output, output_of}
use Rattle.model.specs.Refusals.{fault}
use Rattle.model.specs.Spelling.{spelling}
use Rattle.model.specs.declared.fact.Fact.{Fact}
use Rattle.model.specs.declared.fault.Fault.{Fault}
use Rattle.model.specs.declared.fault.Refusal.{Refusal}
use Rattle.model.specs.declared.gate.Gate.{Gate}
use Rattle.model.specs.declared.name.Name.{Name}
use Rattle.model.specs.declared.output.Output.{Output}
use Rattle.table.specs.Tables.{keys_of}
use Rattle.sheets.specs.Drafts.{gates_of, outputs_of, room_in, rules_of, Defines, drawn, HasRoom, LineRefused, Lists, ReadDefinition, ReadLines, ReadOutput, ReadSide, SameButNames, Stepped, Tidy, written_from}
use Rattle.sheets.specs.Lines.{later, Line, lines_from, speaking}
use Rattle.sheets.specs.Notations.{emit, mark_of, Side}
use Rattle.sheets.specs.RuleSheets.{all_known, before_lines, definition, Fits, Form, line_names, lists, made, output, padded, ReadsLists, ReadsRules, Room, RuleLine, Rules, RuleSheet, RuleStep, tried_as_output, with_line}
use Rattle.sheets.specs.Sheets.{Opens, Reads}
use Rattle.sheets.specs.Sides.{Word, written}
use Rattle.sheets.specs.Symbols.{known, signal_or_zero, symbol}
use Rattle.sheets.specs.Tokens.{brackets, Next, tokens}
use Rattle.sheets.specs.declared.counts.Counts.{Counts}
use Rattle.sheets.specs.declared.draft.Draft.{Draft}
use Rattle.sheets.specs.declared.notation.Notation.{Notation}
use Rattle.sheets.specs.declared.token.Token.TheVariants.{Identifier}
use Rattle.sheets.proofs.GateSides.{named}
use Rattle.sheets.proofs.NextToken.{same_rest}

-- ---- writing into a list from a place on

pub written_length : {X : Type 0} (p : ℕ) (ys xs : List X) → length (written_from p ys xs) ≡ length xs
written_length p [] xs = refl
written_length p (y ∷ ys) xs = written_length (p + 1) ys (set xs p y) ∙ length-set xs p y

pub written_take : {X : Type 0} (p : ℕ) (ys xs : List X) → p + length ys ≤ length xs → take (p + length ys) (written_from p ys xs) ≡ take p xs ++ ys
written_take p [] xs fits = let e : p + 0 ≡ p = omega arith in ap (λ n. take n xs) e ∙ sym (append-nil (take p xs))
written_take p (y ∷ ys) xs fits =
    let e : p + length (y ∷ ys) ≡ (p + 1) + length ys = omega arith in
    ap (λ n. take n (written_from (p + 1) ys (set xs p y))) e
    ∙ written_take (p + 1) ys (set xs p y) (omega (arith, length-set xs p y))
    ∙ ap (λ l. l ++ ys) (take_more_set xs p y (omega arith)) ∙ append_assoc (take p xs) (y ∷ []) ys

-- ---- definitions

-- what a line's outcome says of the draft
abbrev Outcome : Notation → Draft → List (List ℕ) → Draft → Result (Unit {0}) Refusal → Type 0
Outcome notation d ts d' (Ok x) = Stepped notation d ts d'
Outcome notation d ts d' (Err refusal) = RuleStep notation d.facts (room_in d) (rules_of d) ts (Err refusal)

pub outputs_long : (d : Draft) → length (outputs_of d) ≡ d.output_count
outputs_long d = length-take-le d.output_count d.outputs.now d.outputs_fit

module _ (d : Draft) (tidy : Tidy d) where
  pub gates_long : length (gates_of d) ≡ d.gate_count
  gates_long = length-take-le d.gate_count d.gates.now tidy.gates_fit

  same_made : (notation : Notation) (side : Side notation) → made notation d.facts (rules_of d) side ≡ drawn notation (keys_of d.names.now) d side
  same_made notation side = ap (λ n. emit notation (signal_or_zero (keys_of d.names.now)) (d.facts + n) side) gates_long

module _ (notation : Notation) (d : Draft) (tidy : Tidy d) (w : Word) (signal : ℕ) (m : Draft) (rest : List (List ℕ)) (read : ReadSide notation (keys_of d.names.now) d rest signal m)
    (ts : List (List ℕ)) (few : brackets ts ≤ 32) (tried : tried_as_output ts ≡ false) (is : ts ≡ written w ∷ ((61 ∷ []) ∷ rest)) where
  abbrev line : RuleLine notation
  line = definition w read.side

  abbrev new : List Gate
  new = (drawn notation (keys_of d.names.now) d read.side).gates

  form : Form ts line
  form = record { kind = tried; tokens = is ∙ ap (λ us. written w ∷ ((61 ∷ []) ∷ us)) read.tokens }

  unknown_is : m.unknown ≡ not (all_known (keys_of d.names.now) (line_names line))
  unknown_is = read.unknown ∙ ap (λ u. u || not (all_known (keys_of d.names.now) (line_names line))) tidy.known

  all_there : m.unknown ≡ false → all_known (rules_of d).symbols (line_names line) ≡ true
  all_there u = not-false _ (sym unknown_is ∙ u)

  made_long : length (made notation d.facts (rules_of d) read.side).gates ≡ length new
  made_long = ap (λ e. length e.gates) (same_made d tidy notation read.side)

  long_now : length m.gates.now ≡ length d.gates.now
  long_now = ap length read.gates ∙ written_length d.gate_count new d.gates.now

  room_from : Fits notation d.facts (room_in d) (rules_of d) line → HasRoom d.names.now m
  room_from (in_List, in-limit, names) = record {
    gates = omega (arith, read.count, gates_long d tidy, made_long, long_now);
    limit = omega (arith, read.count, gates_long d tidy, made_long);
    names = names;
  }

  fits_from : HasRoom d.names.now m → Fits notation d.facts (room_in d) (rules_of d) line
  fits_from room = (
    omega (arith, read.count, gates_long d tidy, made_long, long_now, room.gates),
    omega (arith, read.count, gates_long d tidy, made_long, room.limit),
    room.names,
  )

  module _ (d' : Draft) (room : HasRoom d.names.now m) (known-all : m.unknown ≡ false) (keys : keys_of d'.names.now ≡ keys_of d.names.now ++ (symbol w.name signal ∷ [])) (same : SameButNames m d') where
    enough : d.gate_count + length new ≤ length d.gates.now
    enough = omega (arith, read.count, long_now, room.gates)

    rules_now : with_line notation d.facts (rules_of d) line ≡ rules_of d'
    rules_now =
        let same-emit = same_made d tidy notation read.side in
        let symbols : keys_of d.names.now ++ (symbol w.name (made notation d.facts (rules_of d) read.side).signal ∷ []) ≡ keys_of d'.names.now = sym (keys ∙ ap (λ n. keys_of d.names.now ++ (symbol w.name n ∷ [])) (read.signal_is ∙ ap (λ e. e.signal) (sym same-emit))) in
        let gates : gates_of d ++ (made notation d.facts (rules_of d) read.side).gates ≡ gates_of d' = ap (λ e. gates_of d ++ e.gates) same-emit ∙ sym ((λ i. take (read.count i) (read.gates i)) ∙ written_take d.gate_count new d.gates.now enough) ∙ (λ i. take (sym same.gate_count i) (sym same.gates i)) in
        let outputs : outputs_of d ≡ outputs_of d' = (λ i. take (sym read.others.output_count i) (sym read.others.outputs i)) ∙ (λ i. take (sym same.output_count i) (sym same.outputs i)) in
        λ i. record { symbols = symbols i; gates = gates i; outputs = outputs i }

    stepped : RuleStep notation d.facts (room_in d) (rules_of d) ts (Ok (with_line notation d.facts (rules_of d) line)) → Stepped notation d ts d'
    stepped step = record {
      tidy = record {
        known = same.unknown ∙ known-all;
        gates_fit = omega (arith, same.gate_count, ap length same.gates, room.gates);
        few_gates = omega (arith, same.gate_count, room.limit);
      };
      gates_room = ap length same.gates ∙ long_now;
      outputs_room = ap length same.outputs ∙ ap length read.others.outputs;
      facts = same.facts ∙ read.others.facts;
      step = subst (λ s. RuleStep notation d.facts (room_in d) (rules_of d) ts (Ok s)) rules_now step;
    }

  pub definition_step : (d' : Draft) (r : Result (Unit {0}) Refusal) → Defines d.names.now m w.name signal d' r → Outcome notation d ts d' r
  definition_step d' _ (Defines.unknown u) = RuleStep.unknown few line form (not-true _ (sym unknown_is ∙ u))
  definition_step d' _ (Defines.repeated u k) = RuleStep.repeated few line form (all_there u) k
  definition_step d' _ (Defines.too_large u k none) = RuleStep.too_large few line form (all_there u) k (λ fits. none (room_from fits))
  definition_step d' _ (Defines.defined u k room keys same) = stepped d' room u keys same (RuleStep.taken few line form (all_there u) k (fits_from room))

-- ---- outputs

module _ (notation : Notation) (d : Draft) (tidy : Tidy d) (w : Word) (d' : Draft)
    (ts : List (List ℕ)) (few : brackets ts ≤ 32) (tried : tried_as_output ts ≡ true) (is : ts ≡ codes "out" ∷ (written w ∷ [])) where
  abbrev named_line : RuleLine notation
  named_line = output w

  output_form : Form ts named_line
  output_form = record { kind = tried; tokens = is }

  -- what the notation says, by what the draft has
  known_one : known (keys_of d.names.now) (written w) ≡ true → all_known (rules_of d).symbols (line_names named_line) ≡ true
  known_one k = and_from _ _ k refl

  listed_step : known (keys_of d.names.now) (written w) ≡ true → lists (outputs_of d) (written w) ≡ false → d.output_count < length d.outputs.now
      → RuleStep notation d.facts (room_in d) (rules_of d) ts (Ok (with_line notation d.facts (rules_of d) named_line))
  listed_step k l room = RuleStep.taken few named_line output_form (known_one k) l (omega (arith, outputs_long d))

  pub output_step : (r : Result (Unit {0}) Refusal) → Lists (keys_of d.names.now) d w.name d' r → Outcome notation d ts d' r
  output_step _ (Lists.unknown k) = RuleStep.unknown few named_line output_form (and_left _ _ k)
  output_step _ (Lists.repeated k l) = RuleStep.repeated few named_line output_form (known_one k) l
  output_step _ (Lists.too_large k l none) = RuleStep.too_large few named_line output_form (known_one k) l (λ fits. omega (arith, outputs_long d, fits))
  output_step _ (Lists.listed k l room names gates gate-count facts unknown outputs output_count) =
      let p = d.output_count in
      let o = output_of w.name (signal_or_zero (keys_of d.names.now) (written w)) in
      let long : length d'.outputs.now ≡ length d.outputs.now = ap length outputs ∙ length-set d.outputs.now p o in
      let listed : outputs_of d ++ (o ∷ []) ≡ outputs_of d' = sym ((λ i. take (output_count i) (outputs i)) ∙ take_more_set d.outputs.now p o room) in
      let rules : with_line notation d.facts (rules_of d) named_line ≡ rules_of d' = λ i. record { symbols = keys_of (sym names i); gates = take (sym gate-count i) (sym gates i); outputs = listed i } in
      record {
        tidy = record {
          known = unknown ∙ tidy.known;
          gates_fit = omega (arith, gate-count, ap length gates, tidy.gates_fit);
          few_gates = omega (arith, gate-count, tidy.few_gates);
        };
        gates_room = ap length gates;
        outputs_room = long;
        facts = facts;
        step = subst (λ s. RuleStep notation d.facts (room_in d) (rules_of d) ts (Ok s)) rules (listed_step k l room);
      }

-- ---- whole lines

-- every line begins with a name
pub no_name : (notation : Notation) (ts : List (List ℕ)) → ((n : Name) (rest : List (List ℕ)) → Next ts (Identifier n) rest → ⊥) → (l : RuleLine notation) → Form ts l → ⊥
no_name notation ts none (output w) form =
    let out = named (codes "out") refl in
    none out.0 (written w ∷ []) (form.tokens ∙ ap (λ v. v ∷ (written w ∷ [])) (sym out.1), subst (λ v. 0 < length v) (sym out.1) (omega arith))
no_name notation ts none (definition w side) form = none w.name _ (form.tokens, w.some)

module _ (notation : Notation) (d : Draft) (tidy : Tidy d) (d' : Draft) (ts rest : List (List ℕ)) (few : brackets ts ≤ 32) (n : Name) (first : ts ≡ spelling n ∷ rest) where
  tried_is : tried_as_output ts ≡ bytes_eq (spelling n) (codes "out")
  tried_is = ap tried_as_output first

  pub output_line : bytes_eq (spelling n) (codes "out") ≡ true → (r : Result (Unit {0}) Refusal) → ReadOutput (keys_of d.names.now) d rest d' r → Outcome notation d ts d' r
  output_line out _ (ReadOutput.formless none) = RuleStep.formless few (elim [
    | output w ↦ λ form. none w (same_rest ts rest _ first form.tokens)
    | definition w side ↦ λ form. true≢false (sym (tried_is ∙ out) ∙ form.kind)
  ])
  output_line out r (ReadOutput.judged w is read) =
      let word = (bytes_eq-Decides (spelling n) (codes "out")).0 out in
      output_step notation d tidy w d' ts few (tried_is ∙ out) (first ∙ (λ i. word i ∷ is i)) r read

  pub definition_line : (some : 0 < length (spelling n)) → bytes_eq (spelling n) (codes "out") ≡ false → (r : Result (Unit {0}) Refusal) → ReadDefinition notation d n rest d' r → Outcome notation d ts d' r
  definition_line some other _ (ReadDefinition.formless none) = RuleStep.formless few (elim [
    | output w ↦ λ form. true≢false (sym form.kind ∙ tried_is ∙ other)
    | definition w side ↦ λ form. none side (same_rest ts rest _ first form.tokens)
  ])
  definition_line some other r (ReadDefinition.judged signal after made is read judged) =
      definition_step notation d tidy (record { name = n; some = some }) signal made after read ts few (tried_is ∙ other) (first ∙ ap (λ us. spelling n ∷ us) is) d' r
      (subst (λ t. Defines t made n signal d' r) read.others.names judged)

-- a line's outcome, with the fault that an answer has
abbrev pub Answer : Notation → Draft → Line → Draft → Result (Unit {0}) Fault → Type 0
Answer notation d l d' r = MatchResult r (λ _. Stepped notation d (tokens l.bytes) d') (λ f. LineRefused notation d l f)

module _ (notation : Notation) (d d' : Draft) (l : Line) (place : ℕ) (at : place ≡ l.first) (Read : Result (Unit {0}) Refusal → Type 0)
    (outcome : (r : Result (Unit {0}) Refusal) → Read r → Outcome notation d (tokens l.bytes) d' r) where
  pub answered : (r : Result (Unit {0}) Fault) → MatchResult r (λ _. Read (Ok tt)) (λ f. (refusal : Refusal) × (f ≡ fault refusal place) × Read (Err refusal)) → Answer notation d l d' r
  answered (Ok x) read = outcome (Ok tt) read
  answered (Err f) (refusal, is, read) = (refusal, is ∙ ap (fault refusal) at, outcome (Err refusal) read)

-- ---- sheets

-- a list whose rest is empty
pub padded_is : {X : Type 0} (e : X) (xs : List X) (p n : ℕ) → p ≤ length xs → length xs ≡ n → drop p xs ≡ replicate (length xs - p) e → xs ≡ padded e n (take p xs)
padded_is e xs p n fits long rest =
    let less : length xs - p ≡ n - length (take p xs) = omega (arith, length-take-le p xs fits) in
    sym (take-append-drop p xs) ∙ ap (λ r. take p xs ++ r) (rest ∙ ap (λ m. replicate m e) less)

pub same_step : (notation : Notation) (f g : ℕ) (p q : Room) (rules : Rules) (ts : List (List ℕ)) (r : Result Rules Refusal) → f ≡ g → p ≡ q → RuleStep notation f p rules ts r → RuleStep notation g q rules ts r
same_step notation f g p q rules ts r e h step = rw (← e, ← h) step

reads_from : (notation : Notation) (facts : List Fact) (room : Room) (lines : List Line) (d : Draft) (r : Result Rules Fault)
    → room_in d ≡ room → d.facts ≡ length facts → rules_of d ≡ before_lines facts
    → Reads (RuleStep notation d.facts (room_in d)) (rules_of d) lines r → Reads (RuleStep notation (length facts) room) (before_lines facts) lines r
reads_from notation facts room lines d r same-room same-facts same-rules reads =
    let P : ℕ → Type 0 = λ n. Reads (RuleStep notation n room) (before_lines facts) lines r in
    let Q : Room → Type 0 = λ q. Reads (RuleStep notation d.facts q) (before_lines facts) lines r in
    let S : Rules → Type 0 = λ s. Reads (RuleStep notation d.facts (room_in d)) s lines r in
    subst P same-facts (subst Q same-room (subst S same-rules reads))

-- the lines were read over names and draft with the facts alone
pub sheet_read : (notation : Notation) (facts : List Fact) (room : Room) (text : List ℕ) (d d' : Draft) (gates : List Gate) (outputs : List Output) (r : Result Counts Fault)
    → Opens (mark_of notation) text (Ok tt) → length facts ≤ room.names → room_in d ≡ room → d.facts ≡ length facts → rules_of d ≡ before_lines facts
    → gates ≡ d'.gates.now → outputs ≡ d'.outputs.now → ReadLines notation d (speaking (later (lines_from 0 text))) d' r → ReadsLists notation facts room text gates outputs r
sheet_read notation facts room text d d' gates outputs _ begun fits same-room same-facts same-rules same-gates same-outputs (ReadLines.refused f reads) =
    ReadsLists.refused f (RuleSheet.opened begun fits (reads_from notation facts room _ d (Err f) same-room same-facts same-rules reads))
sheet_read notation facts room text d d' gates outputs _ begun fits same-room same-facts same-rules same-gates same-outputs (ReadLines.read rules reads gates_are outputs_are) =
    ReadsLists.read _ rules (RuleSheet.opened begun fits (reads_from notation facts room _ d (Ok rules) same-room same-facts same-rules reads)) refl
    (same-gates ∙ gates_are ∙ ap (λ q. padded empty_gate q.gates rules.gates) same-room)
    (same-outputs ∙ outputs_are ∙ ap (λ q. padded empty_output q.outputs rules.outputs) same-room)

-- what a refusal leaves, and what an answer does
module _ (notation : Notation) (facts : List Fact) (room : Room) (text : List ℕ) (gates : List Gate) (outputs : List Output) where
  pub left_empty : (r : Result Counts Fault) → is_err r ≡ true → (gates' : List Gate) (outputs' : List Output) → gates' ≡ replicate room.gates empty_gate → outputs' ≡ replicate room.outputs empty_output
      → ReadsLists notation facts room text gates outputs r → ReadsRules notation facts room text r gates' outputs'
  left_empty _ err gates' outputs' g o (ReadsLists.refused f sheet) = record { verdict = Err f; judged = sheet; answer = refl; gates_are = g; outputs_are = o }
  left_empty _ err gates' outputs' g o (ReadsLists.read counts rules sheet c p q) = absurd (false≢true err)

  pub left_filled : (r : Result Counts Fault) → is_err r ≡ false → ReadsLists notation facts room text gates outputs r → ReadsRules notation facts room text r gates outputs
  left_filled _ ok (ReadsLists.refused f sheet) = absurd (true≢false ok)
  left_filled _ ok (ReadsLists.read counts rules sheet c p q) = record { verdict = Ok rules; judged = sheet; answer = ap Ok c; gates_are = p; outputs_are = q }

-- The lines of a gate sheet that is written out are taken one by one.
use Rattle.std.proofs.Common.{◌≡◌, ℕ, ◌+◌, ◌^◌, ◌<◌, ◌≤◌, true, false, List, [], ◌∷◌, ◌++◌, map, length, get_or, is_some, Some, Ok, codes, decimal, All, Result, unwrap_or, sym, refl, ap, ◌∙◌, subst, ⊎_elim, arith}
use Rattle.std.proofs.lemmas.Fmt.{decimal_nonempty}
use Rattle.std.proofs.lemmas.List.Elements.{All-cons, All-from_get_or, All-from_recursion, All-get_or, All-head, All-nil, All-tail}
use Rattle.std.proofs.lemmas.List.{append_assoc, append-nil, get_or_append_left, get_or_at, length-append, length-map, length_push, map_push}
use Rattle.std.proofs.lemmas.Bool.{and_from, cases_order, or_from}
use Rattle.std.proofs.lemmas.Bool.Decides.{nat_tests}
use Rattle.model.proofs.Names.{name_bytes}
use Rattle.model.proofs.Spelling.{spelling_is_name}
use Rattle.model.specs.Gates.{one_argument, two_arguments, word_of}
use Rattle.model.specs.Names.{is_digit, is_word_byte}
use Rattle.model.specs.Outputs.{output_of}
use Rattle.model.specs.Spelling.{spelling}
use Rattle.model.specs.declared.fault.Refusal.{Refusal}
use Rattle.model.specs.declared.gate.Gate.{Gate}
use Rattle.model.specs.declared.gate.GateKind.{GateKind}
use Rattle.model.specs.declared.gate.GateKind.TheVariants.{Const}
use Rattle.model.specs.declared.name.Name.{Name}
use Rattle.model.specs.declared.output.Output.{Output}
use Rattle.sheets.specs.RuleLaws.{Earlier, gate_line, gate_of, name_at, NamedGate, output_line}
use Rattle.sheets.specs.RuleSheets.{all_known, definition, Form, lists, output, Room, Rules, RuleStep, with_line}
use Rattle.sheets.specs.Sides.{binary, constant, form_arguments, form_tokens, GateForm, gate_made, gate_names, GateSide, gate_tokens, unary, Word, written}
use Rattle.sheets.specs.Symbols.{signal_of, signal_or_zero, symbol}
use Rattle.sheets.specs.Tokens.{brackets}
use Rattle.sheets.specs.declared.notation.Notation.TheVariants.{Gates}
use Rattle.sheets.specs.declared.symbol.Symbol.{Symbol}
use Rattle.sheets.proofs.GateSides.{kind_name, kind_some}
use Rattle.sheets.proofs.Numerals.{number_digits}
use Rattle.sheets.proofs.SignalNames.{Differ, first_long, first_signal, next_absent, numbered, numbered_long, numbered_push, other_bytes}
use Rattle.sheets.proofs.Spaced.{Parted, Run, single, run, Speaks, speaks, Taken, none, more}
use Rattle.sheets.proofs.WrittenBack.{brackets_few, weaker}

-- ---- tokens

name_run : (n : Name) → 0 < length (spelling n) → Run (spelling n)
name_run n some = record { some = some; all = name_bytes (spelling n) (spelling_is_name n some) }

kind_run : (k : GateKind) → Run (word_of k)
kind_run k = record { some = kind_some k; all = name_bytes (word_of k) (kind_name k) }

digit_word : (b : ℕ) → is_digit b ≡ true → is_word_byte b ≡ true
digit_word b h = grind (arith, nat_tests)

number_run : (v : ℕ) → v < 2 ^ 32 → Run (decimal v)
number_run v small = record { some = decimal_nonempty v (omega arith); all = weaker is_digit is_word_byte digit_word (decimal v) (number_digits v small) }

-- ---- what is known between two lines

abbrev pub rules_with : List Name → List Gate → List Output → Rules
rules_with names gates outputs = record { symbols = numbered 0 names; gates = gates; outputs = outputs }

abbrev pub output_at : List Name → ℕ → Output
output_at names s = output_of (name_at names s) s

-- each argument of a gate is below the limit that all are below
first_argument : (limit a : ℕ) (later : List ℕ) → All (λ s. s < limit) (a ∷ later) → a < limit
first_argument limit a later all = All-head (λ s. s < limit) a later all

second_argument : (limit a b : ℕ) → All (λ s. s < limit) (a ∷ b ∷ []) → b < limit
second_argument limit a b all = first_argument limit b [] (All-tail (λ s. s < limit) a (b ∷ []) all)

-- all signals have names
module _ (ns : List Name) (named : (s : ℕ) → s < length ns → 0 < length (spelling (name_at ns s))) where
  abbrev word_at : (s : ℕ) → s < length ns → Word
  word_at s lt = record { name = name_at ns s; some = named s lt }

  word_run : (s : ℕ) → s < length ns → Run (spelling (name_at ns s))
  word_run s lt = name_run (name_at ns s) (named s lt)

  -- ---- a gate

  form_few : (f : GateForm ℕ) → length (form_tokens (λ s. spelling (name_at ns s)) f) ≤ 3
  form_few (constant n) = omega arith
  form_few (unary k one a) = omega arith
  form_few (binary k two a b) = omega arith

  form_parted : (limit : ℕ) → limit ≤ length ns → (f : GateForm ℕ) → All (λ s. s < limit) (form_arguments f) → All Parted (form_tokens (λ s. spelling (name_at ns s)) f)
  form_parted limit inside (constant n) all =
      All-from_recursion Parted (form_tokens (λ s. spelling (name_at ns s)) (constant n)) (run (kind_run Const), (run (number_run n.value n.small), tt))
  form_parted limit inside (unary k one a) all =
      let p = first_argument limit a [] all in
      All-from_recursion Parted (form_tokens (λ s. spelling (name_at ns s)) (unary k one a)) (run (kind_run k), (run (word_run a (omega arith)), tt))
  form_parted limit inside (binary k two a b) all =
      let p = first_argument limit a (b ∷ []) all in
      let q = second_argument limit a b all in
      All-from_recursion Parted (form_tokens (λ s. spelling (name_at ns s)) (binary k two a b))
      (run (kind_run k), (run (word_run a (omega arith)), (run (word_run b (omega arith)), tt)))

  pub gates_speak : (limit : ℕ) (gs : List NamedGate) → limit + length gs ≤ length ns → Earlier limit gs → All Speaks (map (gate_line ns) gs)
  gates_speak limit [] inside earlier = All-nil Speaks
  gates_speak limit (g ∷ gs) inside (here, later) =
      All-cons Speaks (gate_line ns g) (map (gate_line ns) gs)
      (speaks (name_run g.name.name g.name.some) (All-cons Parted (61 ∷ []) (form_tokens (λ s. spelling (name_at ns s)) g.form) (single 61 refl refl) (form_parted limit (omega arith) g.form here)))
      (gates_speak (limit + 1) gs (omega arith) later)

  pub outputs_speak : (ss : List ℕ) → All (λ s. s < length ns) ss → All Speaks (map (output_line ns) ss)
  outputs_speak [] all = All-nil Speaks
  outputs_speak (s ∷ ss) all =
      let here = first_argument (length ns) s ss all in
      All-cons Speaks (output_line ns s) (map (output_line ns) ss)
      (speaks (record { some = omega arith; all = refl }) (All-from_recursion Parted (spelling (name_at ns s) ∷ []) (run (word_run s here), tt)))
      (outputs_speak ss (All-tail (λ s. s < length ns) s ss all))

  -- ss: the symbols so far, which know the signals below the limit
  module _ (ss : List Symbol) (limit : ℕ) (inside : limit ≤ length ns) (knows : (s : ℕ) → s < limit → signal_of ss (spelling (name_at ns s)) ≡ Some s) where
    abbrev known_word : (s : ℕ) → s < limit → Word
    known_word s lt = word_at s (omega arith)

    -- the right-hand side by which a gate is written
    worded : (f : GateForm ℕ) → All (λ s. s < limit) (form_arguments f) → GateSide
    worded (constant n) all = constant n
    worded (unary k one a) all = unary k one (known_word a (first_argument limit a [] all))
    worded (binary k two a b) all = binary k two (known_word a (first_argument limit a (b ∷ []) all)) (known_word b (second_argument limit a b all))

    worded_tokens : (f : GateForm ℕ) (all : All (λ s. s < limit) (form_arguments f)) → form_tokens (λ s. spelling (name_at ns s)) f ≡ gate_tokens (worded f all)
    unfolding worded
    worded_tokens (constant n) all = refl
    worded_tokens (unary k one a) all = refl
    worded_tokens (binary k two a b) all = refl

    worded_known : (f : GateForm ℕ) (all : All (λ s. s < limit) (form_arguments f)) → all_known ss (gate_names (worded f all)) ≡ true
    unfolding worded
    worded_known (constant n) all = refl
    worded_known (unary k one a) all = and_from _ _ (ap is_some (knows a (first_argument limit a [] all))) refl
    worded_known (binary k two a b) all =
        and_from _ _ (ap is_some (knows a (first_argument limit a (b ∷ []) all))) (and_from _ _ (ap is_some (knows b (second_argument limit a b all))) refl)

    worded_signal : (s : ℕ) → s < limit → signal_or_zero ss (spelling (name_at ns s)) ≡ s
    worded_signal s lt = ap (λ o. unwrap_or o 0) (knows s lt)

    worded_made : (f : GateForm ℕ) (all : All (λ s. s < limit) (form_arguments f)) → gate_made (λ w. signal_or_zero ss (written w)) (worded f all) ≡ gate_made (λ s. s) f
    unfolding worded
    worded_made (constant n) all = refl
    worded_made (unary k one a) all = ap (one_argument k) (worded_signal a (first_argument limit a [] all))
    worded_made (binary k two a b) all =
        λ i. two_arguments k (worded_signal a (first_argument limit a (b ∷ []) all) i) (worded_signal b (second_argument limit a b all) i)

  -- ---- line by line, over so many facts

  module _ (differ : Differ ns) (facts : ℕ) (room : Room) where
    abbrev Step : Rules → List (List ℕ) → Result Rules Refusal → Type 0
    Step rules ts r = RuleStep Gates facts room rules ts r

    -- the next gate, behind those that were made
    module _ (before after : List Name) (made : List Gate) (g : NamedGate) (is : before ++ (g.name.name ∷ after) ≡ ns) (next : facts + length made ≡ length before)
        (earlier : All (λ s. s < length before) (form_arguments g.form)) (other : written g.name ≡ codes "out" → ⊥)
        (in_List : length made + 1 ≤ room.gates) (in-limit : length made + 1 ≤ 65536) (in-names : length before + 1 ≤ room.names) where
      limit : length before ≤ length ns
      limit = omega (arith, first_long ns before (g.name.name ∷ after) is)

      knows : (s : ℕ) → s < length before → signal_of (numbered 0 before) (spelling (name_at ns s)) ≡ Some s
      knows = first_signal ns before (g.name.name ∷ after) is differ

      abbrev side : GateSide
      side = worded (numbered 0 before) (length before) limit knows g.form earlier

      gate_form : Form {notation = Gates} (gate_line ns g) (definition g.name side)
      gate_form = record {
        kind = other_bytes (written g.name) (codes "out") other;
        tokens = ap (λ us. written g.name ∷ ((61 ∷ []) ∷ us)) (worded_tokens (numbered 0 before) (length before) limit knows g.form earlier);
      }

      gate_few : brackets (gate_line ns g) ≤ 32
      gate_few = omega (arith, brackets_few (gate_line ns g), form_few g.form)

      gate_rules : with_line Gates facts (rules_with before made []) (definition g.name side) ≡ rules_with (before ++ (g.name.name ∷ [])) (made ++ (gate_of g ∷ [])) []
      gate_rules =
          let place : facts + length made ≡ 0 + length before = omega arith in
          let symbols : numbered 0 before ++ (symbol g.name.name (facts + length made) ∷ []) ≡ numbered 0 (before ++ (g.name.name ∷ [])) = ap (λ k. numbered 0 before ++ (symbol g.name.name k ∷ [])) place ∙ numbered_push 0 before g.name.name in
          let gate = worded_made (numbered 0 before) (length before) limit knows g.form earlier in
          λ i. record { symbols = symbols i; gates = made ++ (gate i ∷ []); outputs = [] }

      gate_taken : Step (rules_with before made []) (gate_line ns g) (Ok (rules_with (before ++ (g.name.name ∷ [])) (made ++ (gate_of g ∷ [])) []))
      gate_taken =
          let R : Rules → Type 0 = λ rules. Step (rules_with before made []) (gate_line ns g) (Ok rules) in
          subst R gate_rules (RuleStep.taken gate_few (definition g.name side) gate_form
          (worded_known (numbered 0 before) (length before) limit knows g.form earlier)
          (ap is_some (next_absent ns before after g.name.name is differ))
          (omega arith, omega arith, omega (arith, numbered_long 0 before)))

    pub gates_taken : (before : List Name) (made : List Gate) (gs : List NamedGate) → before ++ map (λ g. g.name.name) gs ≡ ns → facts + length made ≡ length before
        → Earlier (length before) gs → All (λ g. written g.name ≡ codes "out" → ⊥) gs → length made + length gs ≤ room.gates → length made + length gs ≤ 65536 → length before + length gs ≤ room.names
        → Taken Step (rules_with before made []) (map (gate_line ns) gs) (rules_with ns (made ++ map gate_of gs) [])
    gates_taken before made [] is next earlier others in_List in-limit in-names =
        let same : rules_with before made [] ≡ rules_with ns (made ++ []) [] = λ i. record { symbols = numbered 0 ((sym (append-nil before) ∙ is) i); gates = sym (append-nil made) i; outputs = [] } in
        let T : Rules → Type 0 = λ rules. Taken Step (rules_with before made []) [] rules in
        subst T same none
    gates_taken before made (g ∷ gs) is next (here, later) none_is_out in_List in-limit in-names =
        let NotOut : NamedGate → Type 0 = λ g. written g.name ≡ codes "out" → ⊥ in
        let other = All-head NotOut g gs none_is_out in
        let others = All-tail NotOut g gs none_is_out in
        let n = g.name.name in
        let names = map (λ h. h.name.name) gs in
        let more-names : length before + 1 ≡ length (before ++ (n ∷ [])) = sym (length_push before n) in
        let more-gates : length (made ++ (gate_of g ∷ [])) ≡ length made + 1 = length_push made (gate_of g) in
        let G : List Gate → Type 0 = λ gates. Taken Step (rules_with (before ++ (n ∷ [])) (made ++ (gate_of g ∷ [])) []) (map (gate_line ns) gs) (rules_with ns gates []) in
        more (rules_with (before ++ (n ∷ [])) (made ++ (gate_of g ∷ [])) []) (gate_taken before names made g is next here other (omega arith) (omega arith) (omega arith))
        (subst G (append_assoc made (gate_of g ∷ []) (map gate_of gs))
        (gates_taken (before ++ (n ∷ [])) (made ++ (gate_of g ∷ [])) gs (append_assoc before (n ∷ []) names ∙ is) (omega arith)
        (subst (λ k. Earlier k gs) more-names later) others (omega arith) (omega arith) (omega arith)))

    -- ---- outputs

    names_apart : (s t : ℕ) → s < length ns → t < length ns → (s ≡ t → ⊥) → spelling (name_at ns s) ≡ spelling (name_at ns t) → ⊥
    names_apart s t p q apart same =
        ⊎_elim apart (⊎_elim (λ lt. differ s t lt q same) (λ lt. differ t s lt p (sym same))) (cases_order s t)

    not_listed : (s : ℕ) → s < length ns → (done : List ℕ) → All (λ t. (t < length ns) × (t ≡ s → ⊥)) done → lists (map (output_at ns) done) (spelling (name_at ns s)) ≡ false
    not_listed s lt [] all = refl
    not_listed s lt (t ∷ done) all =
        let P : ℕ → Type 0 = λ t. (t < length ns) × (t ≡ s → ⊥) in
        let here = All-head P t done all in
        or_from _ _ (other_bytes (spelling (name_at ns t)) (spelling (name_at ns s)) (names_apart t s here.0 lt here.1)) (not_listed s lt done (All-tail P t done all))

    module _ (made : List Gate) (ss : List ℕ) (signals : All (λ s. s < length ns) ss) (once : (i j : ℕ) → i < j → j < length ss → get_or ss i 0 ≡ get_or ss j 0 → ⊥) (fits : length ss ≤ room.outputs) where
      abbrev listing : List ℕ → Rules
      listing done = rules_with ns made (map (output_at ns) done)

      module _ (done rest : List ℕ) (s : ℕ) (is : done ++ (s ∷ rest) ≡ ss) where
        long : length done + (1 + length rest) ≡ length ss
        long = omega (arith, length-append done (s ∷ rest), ap length is)

        done_at : (i : ℕ) → i < length done → get_or done i 0 ≡ get_or ss i 0
        done_at i lt = sym (get_or_append_left done (s ∷ rest) 0 i lt) ∙ ap (λ l. get_or l i 0) is

        here_at : get_or ss (length done) 0 ≡ s
        here_at = ap (λ l. get_or l (length done) 0) (sym is) ∙ get_or_at done s rest 0 (length done) refl

        signal_here : s < length ns
        signal_here = subst (λ t. t < length ns) here_at (All-get_or (λ t. t < length ns) ss (length done) 0 (omega (arith, long)) signals)

        others : All (λ t. (t < length ns) × (t ≡ s → ⊥)) done
        others = All-from_get_or (λ t. (t < length ns) × (t ≡ s → ⊥)) done 0 (λ i lt. (
          subst (λ t. t < length ns) (sym (done_at i lt)) (All-get_or (λ t. t < length ns) ss i 0 (omega (arith, long)) signals),
          λ same. once i (length done) lt (omega (arith, long)) (sym (done_at i lt) ∙ same ∙ sym here_at),
        ))

        found : signal_of (numbered 0 ns) (spelling (name_at ns s)) ≡ Some s
        found = first_signal ns ns [] (append-nil ns) differ s signal_here

        output_rules : with_line Gates facts (listing done) (output (word_at s signal_here)) ≡ listing (done ++ (s ∷ []))
        output_rules =
            let outputs : map (output_at ns) done ++ (output_of (name_at ns s) (signal_or_zero (numbered 0 ns) (spelling (name_at ns s))) ∷ []) ≡ map (output_at ns) (done ++ (s ∷ [])) = ap (λ o. map (output_at ns) done ++ (output_of (name_at ns s) (unwrap_or o 0) ∷ [])) found ∙ sym (map_push (output_at ns) done s) in
            λ i. record { symbols = numbered 0 ns; gates = made; outputs = outputs i }

        output_taken : Step (listing done) (output_line ns s) (Ok (listing (done ++ (s ∷ []))))
        output_taken =
            let R : Rules → Type 0 = λ rules. Step (listing done) (output_line ns s) (Ok rules) in
            subst R output_rules (RuleStep.taken (omega (arith, brackets_few (output_line ns s))) (output (word_at s signal_here)) (record { kind = refl; tokens = refl })
            (and_from _ _ (ap is_some found) refl)
            (not_listed s signal_here done others)
            (omega (arith, length-map done (output_at ns), long)))

      pub outputs_taken : (done rest : List ℕ) → done ++ rest ≡ ss → Taken Step (listing done) (map (output_line ns) rest) (listing ss)
      outputs_taken done [] is =
          let T : List ℕ → Type 0 = λ l. Taken Step (listing done) [] (listing l) in
          subst T (sym (append-nil done) ∙ is) none
      outputs_taken done (s ∷ rest) is =
          more (listing (done ++ (s ∷ []))) (output_taken done rest s is) (outputs_taken (done ++ (s ∷ [])) rest (append_assoc done (s ∷ []) rest ∙ is))

-- A gate sheet that is written out is read back.
use Rattle.std.proofs.Common.{◌≡◌, ℕ, ◌+◌, ◌<◌, ◌≤◌, List, [], ◌∷◌, ◌++◌, map, length, Ok, codes, decimal, All, Result, sym, refl, ap, ◌∙◌, subst, arith}
use Rattle.std.proofs.lemmas.Fmt.{decimal_digit}
use Rattle.std.proofs.lemmas.List.Elements.{All-append, All-cons, All-get_or, All-nil}
use Rattle.std.proofs.lemmas.List.{length-append, length-map}
use Rattle.model.specs.Facts.{AllNamed}
use Rattle.model.specs.Spelling.{spelling}
use Rattle.model.specs.declared.fact.Fact.{Fact}
use Rattle.model.specs.declared.fault.Fault.{Fault}
use Rattle.model.specs.declared.gate.Gate.{Gate}
use Rattle.model.specs.declared.name.Name.{Name}
use Rattle.model.specs.declared.output.Output.{Output}
use Rattle.sheets.specs.Lines.{heading, later, Line, line_at, lines_from, speaking}
use Rattle.sheets.specs.RuleLaws.{AsWritten, Earlier, gate_line, gate_of, gate_sheet, HeldBy, name_at, NamedGate, output_line, ReadsBack, signal_names, Writable}
use Rattle.sheets.specs.RuleSheets.{before_lines, counted, gates_left, outputs_left, ReadsRules, Room, Rules, RuleSheet, RuleStep}
use Rattle.sheets.specs.Sheets.{opens, Reads}
use Rattle.sheets.specs.declared.counts.Counts.{Counts}
use Rattle.sheets.specs.declared.notation.Notation.{Notation}
use Rattle.sheets.specs.declared.notation.Notation.TheVariants.{Gates}
use Rattle.sheets.proofs.RuleVerdicts.{rule_laws}
use Rattle.sheets.proofs.SignalNames.{Differ, facts_numbered}
use Rattle.sheets.proofs.Spaced.{reads_text, Speaks, Taken, taken_then, text_allowed, text_long, text_of}
use Rattle.sheets.proofs.LinesFrom.{line_cons}
use Rattle.sheets.proofs.WrittenBack.{all_tail}
use Rattle.sheets.proofs.WrittenLines.{gates_speak, gates_taken, output_at, outputs_speak, outputs_taken, rules_with}

facts_named : (fs : List Fact) → AllNamed fs → All (λ n. 0 < length (spelling n)) (map (λ f. f.name) fs)
facts_named [] all = All-nil (λ n. 0 < length (spelling n))
facts_named (f ∷ fs) all =
    All-cons (λ n. 0 < length (spelling n)) f.name (map (λ f. f.name) fs) (all 0 (omega arith)) (facts_named fs (all_tail f fs all))

gates_named : (gs : List NamedGate) → All (λ n. 0 < length (spelling n)) (map (λ g. g.name.name) gs)
gates_named [] = All-nil (λ n. 0 < length (spelling n))
gates_named (g ∷ gs) = All-cons (λ n. 0 < length (spelling n)) g.name.name (map (λ g. g.name.name) gs) g.name.some (gates_named gs)

module _ (facts : List Fact) (all : AllNamed facts) (room : Room) (gs : List NamedGate) (ss : List ℕ) (writable : Writable facts gs ss) (held : HeldBy room facts gs ss) where
  abbrev ns : List Name
  ns = signal_names facts gs

  abbrev sheet_lines : List (List (List ℕ))
  sheet_lines = map (gate_line ns) gs ++ map (output_line ns) ss

  abbrev final : Rules
  final = rules_with ns (map gate_of gs) (map (output_at ns) ss)

  ns_long : length ns ≡ length facts + length gs
  ns_long = length-append (map (λ f. f.name) facts) (map (λ g. g.name.name) gs) ∙ (λ i. length-map facts (λ f. f.name) i + length-map gs (λ g. g.name.name) i)

  named : (s : ℕ) → s < length ns → 0 < length (spelling (name_at ns s))
  named s lt =
      All-get_or (λ n. 0 < length (spelling n)) ns s _ lt
      (All-append (λ n. 0 < length (spelling n)) (map (λ f. f.name) facts) (map (λ g. g.name.name) gs) (facts_named facts all) (gates_named gs))

  differ : Differ ns
  differ i j less inside = writable.names_differ i j less (omega (arith, ns_long))

  signals : All (λ s. s < length ns) ss
  signals = subst (λ n. All (λ s. s < n) ss) (sym ns_long) writable.signals

  sheet_speaks : All Speaks sheet_lines
  sheet_speaks =
      All-append Speaks (map (gate_line ns) gs) (map (output_line ns) ss)
      (gates_speak ns named (length facts) gs (omega (arith, ns_long)) writable.earlier)
      (outputs_speak ns named ss signals)

  sheet_taken : length gs ≤ 65536 → Taken (RuleStep Gates (length facts) room) (before_lines facts) sheet_lines final
  sheet_taken few =
      let step = RuleStep Gates (length facts) room in
      let names = map (λ f. f.name) facts in
      let start : rules_with names [] [] ≡ before_lines facts = λ i. record { symbols = sym (facts_numbered 0 facts) i; gates = []; outputs = [] } in
      let S : Rules → Type 0 = λ rules. Taken step rules sheet_lines final in
      let long = length-map facts (λ f. f.name) in
      subst S start (taken_then step (rules_with names [] []) (rules_with ns (map gate_of gs) []) final (map (gate_line ns) gs) (map (output_line ns) ss)
      (gates_taken ns named differ (length facts) room names [] gs refl (omega arith) (subst (λ n. Earlier n gs) (sym long) writable.earlier) writable.none_is_out
      (omega (arith, held.gates)) (omega arith) (omega (arith, held.names)))
      (outputs_taken ns named differ (length facts) room (map gate_of gs) ss signals writable.outputs_differ held.outputs [] ss refl))

  pub sheet_verdict : length (gate_sheet facts gs ss) ≤ 65535 → RuleSheet Gates facts room (gate_sheet facts gs ss) (Ok final)
  sheet_verdict short =
      let rest = text_of sheet_lines in
      let first : lines_from 0 (gate_sheet facts gs ss) ≡ line_at 0 (codes "GAT 1") ∷ lines_from 6 rest = line_cons 0 (codes "GAT 1") rest refl in
      let one : codes "GAT 1" ≡ codes "GAT" ++ (32 ∷ decimal 1) = ap (λ ds. codes "GAT" ++ (32 ∷ ds)) (sym (decimal_digit 1 (omega arith))) in
      let few : length gs ≤ 65536 = omega (arith, text_long sheet_lines, length-append (map (gate_line ns) gs) (map (output_line ns) ss), length-map gs (gate_line ns), length-append (codes "GAT 1") (10 ∷ rest)) in
      let R : List Line → Type 0 = λ ls. Reads (RuleStep Gates (length facts) room) (before_lines facts) (speaking ls) (Ok final) in
      RuleSheet.opened (opens (record { short = short; printable = text_allowed sheet_lines sheet_speaks }) (omega arith, ap heading first ∙ one)) (omega (arith, held.names))
      (subst R (sym (ap later first)) (reads_text (RuleStep Gates (length facts) room) (before_lines facts) final sheet_lines 6 (sheet_taken few) sheet_speaks))

  -- whoever reads it answers and leaves that
  back_from : (text : List ℕ) (r : Result Counts Fault) (gates : List Gate) (outputs : List Output) → text ≡ gate_sheet facts gs ss → length text ≤ 65535 → ReadsRules Gates facts room text r gates outputs → AsWritten room facts gs ss r gates outputs
  back_from text r gates outputs is short read =
      let V : List ℕ → Type 0 = λ t. RuleSheet Gates facts room t (Ok final) in
      let written : V text = subst V (sym is) (sheet_verdict (omega (arith, ap length is))) in
      let same : read.verdict ≡ Ok final = rule_laws.one_verdict Gates facts room text read.verdict (Ok final) read.judged written in
      let counts : counted (Ok final) ≡ Ok (record { gates = length gs; outputs = length ss }) = λ i. Ok (record { gates = length-map gs gate_of i; outputs = length-map ss (output_at ns) i }) in
      record {
        answer = read.answer ∙ ap counted same ∙ counts;
        gates_are = read.gates_are ∙ ap (gates_left room.gates) same;
        outputs_are = read.outputs_are ∙ ap (outputs_left room.outputs) same;
      }

pub rules_back : (notation : Notation) (facts : List Fact) (room : Room) (text : List ℕ) (r : Result Counts Fault) (gates : List Gate) (outputs : List Output) → AllNamed facts
    → ReadsRules notation facts room text r gates outputs → ReadsBack notation facts room text r gates outputs
rules_back notation facts room text r gates outputs all read gs ss writable held gate-notation is short =
    let N : Notation → Type 0 = λ n. ReadsRules n facts room text r gates outputs in
    back_from facts all room gs ss writable held text r gates outputs is short (subst N gate-notation read)

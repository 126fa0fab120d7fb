use Rattle.std.proofs.Common.{◌≡◌, List, length, Ok, Err, Result, sym, ap, ◌∙◌, subst, refl, rules}
use Rattle.std.proofs.lemmas.Result.{err_from_is_err_and}
use Rattle.model.specs.Gates.{empty_gate}
use Rattle.model.specs.Outputs.{empty_output}
use Rattle.model.specs.Refusals.{fault}
use Rattle.model.specs.declared.fault.Fault.{Fault}
use Rattle.sheets.specs.Cursors.{to_come}
use Rattle.sheets.specs.Drafts.{ReadLines, room_in, rules_of}
use Rattle.sheets.specs.Lines.{Line}
use Rattle.sheets.specs.RuleSheets.{room_of, Rules, RuleStep}
use Rattle.sheets.specs.Sheets.{Reads, done, goes_on, stops}
use Rattle.sheets.specs.declared.counts.Counts.{Counts}
use Rattle.sheets.proofs.Drafts.{lists_then, same_lists}
use Rattle.sheets.proofs.RuleLines.{gates_long, outputs_long, padded_is, same_step}
use Rattle.sheets.proofs.rule_sheet.read_lines.Goals as goal

pub loop-line-init : goal.loop-line-init
loop-line-init c =
    let notation = c.args.notation in
    let d = c.args.draft.now in
    let I : List Line → Result Rules Fault → Type 0 = λ ls r. Reads (RuleStep notation d.facts (room_in d)) (rules_of d) ls r in
    record {
      can_next = search rules;
      ends = search rules;
      tidy = c.requires.tidy;
      room = refl;
      facts = refl;
      lists = same_lists _;
      verdict = λ r reads. subst (λ ls. I ls r) (ap to_come c.into_iter-line-iterator.ensures.into_iter_gives) reads;
    }

pub loop-line-preserved : goal.loop-line-preserved
loop-line-preserved c =
    let held = c.loop-line.invariant in
    let said = c.in_ok-read_line.ensures in
    let step = said.step in
    let notation = c.args.notation in
    let facts = c.args.draft.now.facts in
    let room = room_in c.args.draft.now in
    let before = rules_of c.loop-line.draft in
    let after = rules_of c.read_line.new.draft in
    let L : Result Rules Fault → List Line → Type 0 = λ r ls. Reads (RuleStep notation facts room) before ls r in
    record {
      can_next = search rules;
      ends = search rules;
      tidy = step.tidy;
      room = (λ i. room_of (said.lent.capacity i) (step.gates_room i) (step.outputs_room i)) ∙ held.room;
      facts = step.facts ∙ held.facts;
      lists = lists_then _ _ _ held.lists said.lent;
      verdict = λ r rest.
          held.verdict r
          (subst (L r) (sym c.in-Some.ensures.steps)
          (goes_on after (same_step notation _ facts _ room before _ (Ok after) held.facts held.room step.step) rest));
    }

pub returns-in_err-read_line : goal.returns-in_err-read_line
returns-in_err-read_line c =
    let p = err_from_is_err_and c.from_residual.result c.from_residual.ensures.1 in
    let held = c.loop-line.invariant in
    let said = c.in_err-read_line.ensures in
    let step = said.step in
    let notation = c.args.notation in
    let facts = c.args.draft.now.facts in
    let room = room_in c.args.draft.now in
    let before = rules_of c.loop-line.draft in
    let f = fault step.0 c.in-Some.line.line in
    let L : List Line → Type 0 = λ ls. Reads (RuleStep notation facts room) before ls (Err f) in
    let lists = lists_then _ _ _ held.lists said.lent in
    record {
      lent = lists;
      read = rw (p.1, p.2, step.1) (ReadLines.refused f
          (held.verdict (Err f) (subst L (sym c.in-Some.ensures.steps) (stops step.0 (same_step notation _ facts _ room before _ (Err step.0) held.facts held.room step.2)))));
    }

pub returns : goal.returns
returns c =
    let held = c.loop-line.invariant in
    let notation = c.args.notation in
    let facts = c.args.draft.now.facts in
    let room = room_in c.args.draft.now in
    let d = c.loop-line.draft in
    let tidy = held.tidy in
    let rules = rules_of d in
    let L : List Line → Type 0 = λ ls. Reads (RuleStep notation facts room) rules ls (Ok rules) in
    let reads = held.verdict (Ok rules) (subst L (sym c.in-None.ensures.steps.0) done) in
    let R : Counts → Type 0 = λ n. ReadLines notation c.args.draft.now (to_come c.args.lines) d (Ok n) in
    let counts : ◌≡◌ {A = Counts} (record { gates = length rules.gates; outputs = length rules.outputs }) c.counts.result = (λ i. record { gates = gates_long d tidy i; outputs = outputs_long d i }) ∙ sym c.counts.ensures in
    record {
      lent = held.lists;
      read = subst R counts (ReadLines.read rules reads
          (padded_is empty_gate d.gates.now d.gate_count _ tidy.gates_fit (ap (λ q. q.gates) held.room) d.gates_rest)
          (padded_is empty_output d.outputs.now d.output_count _ d.outputs_fit (ap (λ q. q.outputs) held.room) d.outputs_rest));
    }

pub read_line-requires : goal.read_line-requires
read_line-requires c = record { tidy = c.loop-line.invariant.tidy }

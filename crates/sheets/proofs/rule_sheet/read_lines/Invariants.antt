use Rattle.std.proofs.Common.{◌≡◌, Result}
use Rattle.model.specs.declared.fault.Fault.{Fault}
use Rattle.sheets.specs.Cursors.{to_come}
use Rattle.sheets.specs.Drafts.{room_in, rules_of, SameLists, Tidy}
use Rattle.sheets.specs.RuleSheets.{Rules, RuleStep}
use Rattle.sheets.specs.Sheets.{Reads}
use Rattle.sheets.proofs.rule_sheet.read_lines.Given as goal

-- the draft is tidy, and the verdict on the lines that are left is that on all of them
abbrev pub invariant-loop-line : goal.invariant-loop-line
invariant-loop-line l = record {
  can_next : (goal.iterator-loop-line).can_next l.line-iterator;
  ends : (goal.iterator-loop-line).is_finite l.line-iterator;
  tidy : Tidy l.draft;
  room : room_in l.draft ≡ room_in l.fn.draft;
  facts : l.draft.facts ≡ l.fn.draft.facts;
  lists : SameLists l.fn.draft l.draft;
  verdict : (r : Result Rules Fault) → Reads (RuleStep l.notation l.fn.draft.facts (room_in l.fn.draft)) (rules_of l.draft) (to_come l.line-iterator) r
      → Reads (RuleStep l.notation l.fn.draft.facts (room_in l.fn.draft)) (rules_of l.fn.draft) (to_come l.fn.lines) r;
}

use Rattle.std.proofs.Common.{ℕ, List, Ok, Err, ap, ◌∙◌, subst, arith, rules}
use Rattle.std.proofs.lemmas.Result.{err_from_is_err_and}
use Rattle.model.specs.Orders.{facts_of}
use Rattle.table.specs.Tables.{capacity_of, keys_of}
use Rattle.sheets.specs.Drafts.{ReadLines}
use Rattle.sheets.specs.Lines.{speaking}
use Rattle.sheets.specs.RuleSheets.{ReadsLists, room_of, RuleSheet}
use Rattle.sheets.specs.Sheets.{Opens}
use Rattle.sheets.proofs.RuleLines.{sheet_read}
use Rattle.sheets.proofs.rule_sheet.read_lists.Goals as goal

pub returns-in_err-lines : goal.returns-in_err-lines
returns-in_err-lines c =
    let p = err_from_is_err_and c.from_residual.result c.from_residual.ensures.1 in
    let O : List ℕ → Type 0 = λ mark. Opens mark c.args.text.now (Err c.in_err-lines.field-0.0) in
    rw (p.1, p.2) (ReadsLists.refused _ (RuleSheet.unopened _ (subst O c.mark.ensures c.in_err-lines.ensures)))

pub returns-in_err-enter_facts : goal.returns-in_err-enter_facts
returns-in_err-enter_facts c =
    let p = err_from_is_err_and c.from_residual-in_err-enter_facts.result c.from_residual-in_err-enter_facts.ensures.1 in
    let said = c.in_err-enter_facts.ensures.room in
    let O : List ℕ → Type 0 = λ mark. Opens mark c.args.text.now (Ok tt) in
    rw (p.1, p.2, said.0) (ReadsLists.refused _ (RuleSheet.cramped (subst O c.mark.ensures c.in_ok-lines.ensures.0) (omega (arith, said.1, c.open-names.ensures.capacity))))

pub returns : goal.returns
returns c =
    let O : List ℕ → Type 0 = λ mark. Opens mark c.args.text.now (Ok tt) in
    let entered = c.in_ok-enter_facts.ensures in
    let made = c.new-draft.ensures in
    let capacity = ap capacity_of made.names ∙ entered.capacity ∙ c.open-names.ensures.capacity in
    sheet_read c.args.notation (facts_of c.args.order.now) _ c.args.text.now c.new-draft.result c.read_lines.new.draft _ _ c.read_lines.result
    (subst O c.mark.ensures c.in_ok-lines.ensures.0) (omega (arith, entered.room, c.open-names.ensures.capacity))
    (λ i. room_of (capacity i) (made.room.0 i) (made.room.1 i)) (made.facts ∙ c.len.ensures)
    (λ i. record { symbols = (ap keys_of made.names ∙ entered.keys) i; gates = made.gates i; outputs = made.outputs i })
    (search rules) (search rules)
    (subst (λ ls. ReadLines c.args.notation c.new-draft.result (speaking ls) c.read_lines.new.draft c.read_lines.result) c.in_ok-lines.ensures.1 c.read_lines.ensures.read)

pub read_lines-requires : goal.read_lines-requires
read_lines-requires c = record {
  tidy = c.new-draft.ensures.tidy;
}

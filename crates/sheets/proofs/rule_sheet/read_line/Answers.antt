use Rattle.std.proofs.Common.{sym}
use Rattle.std.proofs.lemmas.Result.{err_from_is_err_and}
use Rattle.model.specs.declared.fault.Refusal.TheVariants.{TooManyBrackets, NoForm}
use Rattle.table.specs.Tables.{keys_of}
use Rattle.sheets.specs.Cursors.{ahead, current}
use Rattle.sheets.specs.Drafts.{ReadDefinition, ReadOutput}
use Rattle.sheets.specs.RuleSheets.{RuleStep}
use Rattle.sheets.specs.Tokens.{tokens}
use Rattle.sheets.proofs.RuleLines.{answered, definition_line, no_name, output_line}
use Rattle.sheets.proofs.rule_sheet.read_line.Goals as goal

pub returns-in_err-check_brackets-clause-step : goal.returns-in_err-check_brackets-clause-step
returns-in_err-check_brackets-clause-step c =
    let p = err_from_is_err_and c.from_residual.result c.from_residual.ensures.1 in
    let said = c.in_err-check_brackets.ensures in
    rw (p.1, p.2) (TooManyBrackets, said.0, RuleStep.crowded said.1)

pub returns-in_err-name-clause-step : goal.returns-in_err-name-clause-step
returns-in_err-name-clause-step c =
    let said = c.in_err-name.ensures in
    let p = err_from_is_err_and c.from_residual-in_err-name.result c.from_residual-in_err-name.ensures.1 in
    rw (p.1, p.2) (NoForm, said.next.0, RuleStep.formless c.in_ok-check_brackets.ensures (no_name c.args.notation _ said.next.1))

pub returns-then-begins_output-clause-step : goal.returns-then-begins_output-clause-step
returns-then-begins_output-clause-step c =
    let notation = c.args.notation in
    let d = c.args.draft.now in
    let d' = c.read_output.new.draft in
    let l = current c.args.line in
    let mid = c.take.new.self in
    let first = c.in_ok-name.ensures in
    answered notation d d' l mid.line first.stays (ReadOutput (keys_of d.names.now) d (ahead mid) d')
    (output_line notation d c.requires.tidy d' (tokens l.bytes) (ahead mid) c.in_ok-check_brackets.ensures c.in_ok-name.name first.next.0 (sym c.if-begins_output.ensures))
    c.read_output.result c.read_output.ensures.output

pub returns-else-begins_output-clause-step : goal.returns-else-begins_output-clause-step
returns-else-begins_output-clause-step c =
    let notation = c.args.notation in
    let d = c.args.draft.now in
    let d' = c.read_definition.new.draft in
    let l = current c.args.line in
    let mid = c.take.new.self in
    let name = c.in_ok-name.name in
    let first = c.in_ok-name.ensures in
    answered notation d d' l mid.line first.stays (ReadDefinition notation d name (ahead mid) d')
    (definition_line notation d c.requires.tidy d' (tokens l.bytes) (ahead mid) c.in_ok-check_brackets.ensures name first.next.0 first.next.1 (sym c.if-begins_output.ensures))
    c.read_definition.result c.read_definition.ensures.definition

use Rattle.std.proofs.Common.{ap, ◌∙◌}
use Rattle.std.proofs.lemmas.Result.{err_from_is_err_and}
use Rattle.model.specs.Refusals.{fault}
use Rattle.model.specs.declared.fault.Refusal.TheVariants.{NoForm}
use Rattle.sheets.specs.Cursors.{ahead}
use Rattle.sheets.specs.Drafts.{ReadDefinition}
use Rattle.sheets.proofs.Placed.{read_placed}
use Rattle.sheets.proofs.NextToken.{same_rest}
use Rattle.sheets.proofs.Drafts.{same_lists}
use Rattle.sheets.proofs.rule_sheet.read_definition.Goals as goal

pub returns-in_err-take : goal.returns-in_err-take
returns-in_err-take c =
    let said = c.in_err-take.ensures in
    let p = err_from_is_err_and c.from_residual.result c.from_residual.ensures.1 in
    record { stays = said.stays; lent = same_lists _; definition = rw (p.1, p.2) (NoForm, said.next.0, ReadDefinition.formless (λ s e. said.next.1 (record {}) _ e)) }

pub returns-in_err-signal : goal.returns-in_err-signal
returns-in_err-signal c =
    let first = c.in_ok-take.ensures in
    let said = c.in_err-signal.ensures in
    let p = err_from_is_err_and c.from_residual-in_err-signal.result c.from_residual-in_err-signal.ensures.1 in
    record {
      stays = said.stays ∙ first.stays;
      lent = said.lent;
      definition = rw (p.1, p.2) (NoForm, said.side.0 ∙ ap (fault NoForm) first.stays, ReadDefinition.formless (λ s e. said.side.1 s (same_rest _ _ _ first.next e)));
    }

pub returns-clause-definition : goal.returns-clause-definition
returns-clause-definition c =
    let first = c.in_ok-take.ensures in
    let said = c.in_ok-signal.ensures in
    read_placed (ReadDefinition c.args.notation c.args.draft.now c.args.name (ahead c.args.cursor.now) c.define.new.self) c.define.result c.placed.result _ _ (said.stays ∙ first.stays)
    (ReadDefinition.judged _ _ _ first.next said.side c.define.ensures.judged) c.placed.ensures

use Rattle.std.proofs.Common.{◌≡◌, ap, ◌∙◌}
use Rattle.model.specs.Refusals.{fault}
use Rattle.model.specs.declared.fault.Refusal.TheVariants.{NoForm}
use Rattle.sheets.proofs.NextToken.{taken_for}
use Rattle.sheets.proofs.cursor.Cursor.take.Goals as goal

pub returns-clause-next : goal.returns-clause-next
returns-clause-next g c =
    let said = c.in_ok-token.ensures in
    let refused : c.refuse.result ≡ fault NoForm c.args.self.now.line = c.refuse.ensures ∙ ap (fault NoForm) said.stays in
    rw (← refused) (taken_for g.T.Held.token_of _ _ c.in_ok-token.token c.held.result c.ok_or.result c.refuse.result said.next c.held.ensures c.ok_or.ensures.value)

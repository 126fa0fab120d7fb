use Rattle.std.proofs.Common.{ap, ⊎_elim}
use Rattle.sheets.specs.Sides.{arity_of}
use Rattle.sheets.proofs.GateSides.{from_constant, from_unary, from_binary}
use Rattle.sheets.proofs.Drafts.{same_lists}
use Rattle.sheets.proofs.cursor.Cursor.gate.Goals as goal

pub returns-in-Const : goal.returns-in-Const
returns-in-Const c =
    let said = c.constant.ensures in
    record { stays = said.stays; lent = same_lists _; gate = from_constant _ _ _ _ _ _ c.in-Const.is said.gate }

pub returns-in-Minus : goal.returns-in-Minus
returns-in-Minus c =
    let said = c.unary.ensures in
    record { stays = said.stays; lent = said.lent; gate = from_unary _ _ _ _ _ _ _ (⊎_elim (ap arity_of) (ap arity_of) c.in-Minus.is) said.gate }

pub returns-in-Sum : goal.returns-in-Sum
returns-in-Sum c =
    let said = c.binary.ensures in
    record { stays = said.stays; lent = said.lent; gate = from_binary _ _ _ _ _ _ _ (⊎_elim (ap arity_of) (⊎_elim (ap arity_of) (ap arity_of)) c.in-Sum.is) said.gate }

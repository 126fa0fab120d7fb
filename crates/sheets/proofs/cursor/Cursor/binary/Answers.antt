use Rattle.std.proofs.Common.{not, ◌||◌, ◌∷◌, ap, ◌∙◌}
use Rattle.std.proofs.lemmas.Result.{err_from_is_err_and}
use Rattle.model.specs.Gates.{two_arguments}
use Rattle.model.specs.Refusals.{fault}
use Rattle.model.specs.Spelling.{spelling}
use Rattle.model.specs.declared.fault.Refusal.TheVariants.{NoForm}
use Rattle.table.specs.Tables.{keys_of}
use Rattle.sheets.specs.Sides.{Word}
use Rattle.sheets.specs.Symbols.{known, signal_or_zero}
use Rattle.sheets.proofs.Drafts.{same_lists, others_then, lists_then}
use Rattle.sheets.proofs.GateSides.{noted_two}
use Rattle.sheets.proofs.NextToken.{same_rest}
use Rattle.sheets.proofs.cursor.Cursor.binary.Goals as goal

pub returns-in_err-first : goal.returns-in_err-first
returns-in_err-first c =
    let said = c.in_err-first.ensures in
    let p = err_from_is_err_and c.from_residual.result c.from_residual.ensures.1 in
    record { stays = said.stays; lent = same_lists _; gate = rw (p.1, p.2) (said.next.0, λ a b e. said.next.1 a.name _ (e, a.some)) }

pub returns-in_err-second : goal.returns-in_err-second
returns-in_err-second c =
    let first = c.in_ok-first.ensures in
    let said = c.in_err-second.ensures in
    let p = err_from_is_err_and c.from_residual-in_err-second.result c.from_residual-in_err-second.ensures.1 in
    record {
      stays = said.stays ∙ first.stays;
      lent = same_lists _;
      gate = rw (p.1, p.2) (said.next.0 ∙ ap (fault NoForm) first.stays, λ a b e. said.next.1 b.name (same_rest _ _ _ first.next.0 e, b.some));
    }

pub returns : goal.returns
returns c =
    let one = c.in_ok-first.ensures in
    let two = c.in_ok-second.ensures in
    let n = c.in_ok-first.first in
    let m = c.in_ok-second.second in
    let a : Word = record { name = n; some = one.next.1 } in
    let b : Word = record { name = m; some = two.next.1 } in
    let left = c.signal_of-left.ensures in
    let right = c.signal_of-right.ensures in
    let d = c.args.draft.now in
    let keys = keys_of c.args.draft.now.names.now in
    record {
      stays = two.stays ∙ one.stays;
      lent = lists_then _ _ _ left.lent right.lent;
      gate = record {
        left = a;
        right = b;
        tokens = one.next.0 ∙ ap (λ ts. spelling n ∷ ts) two.next.0;
        made = c.binary.ensures ∙ (λ i. two_arguments c.args.kind (left.signal i) ((right.signal ∙ ap (λ t. signal_or_zero (keys_of t) (spelling m)) left.others.names) i));
        noted = record {
          unknown =
              right.unknown ∙ (λ i. left.unknown i || not (known (keys_of (left.others.names i)) (spelling m)))
              ∙ noted_two d.unknown (known keys (spelling n)) (known keys (spelling m));
          gates = right.gates ∙ left.gates;
          count = right.count ∙ left.count;
          others = others_then _ _ _ left.others right.others;
        };
      };
    }

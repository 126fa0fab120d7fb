use Rattle.std.proofs.Common.{◌+◌, set, ap, ◌∙◌}
use Rattle.std.proofs.lemmas.Result.{err_from_is_err_and}
use Rattle.sheets.proofs.Drafts.{same_lists, others_then, lists_then}
use Rattle.sheets.proofs.GateSides.{no_word}
use Rattle.sheets.proofs.cursor.Cursor.gate_side.Goals as goal

pub returns-in_err-kind : goal.returns-in_err-kind
returns-in_err-kind c =
    let said = c.in_err-kind.ensures in
    let p = err_from_is_err_and c.from_residual.result c.from_residual.ensures.1 in
    record { stays = said.stays; lent = same_lists _; side = rw (p.1, p.2) (said.word.0, no_word _ said.word.1) }

pub returns : goal.returns
returns c =
    let first = c.in_ok-kind.ensures in
    let said = c.in_ok-gate.ensures in
    let read = said.gate in
    let noted = read.noted in
    let put = c.emit.ensures in
    record {
      stays = said.stays ∙ first.stays;
      lent = lists_then _ _ _ said.lent put.lent;
      side = record {
        side = read.side;
        tokens = first.word ∙ read.tokens;
        signal_is = put.signal ∙ (λ i. noted.others.facts i + noted.count i);
        gates = put.gates ∙ (λ i. set (noted.gates i) (noted.count i) (read.made i));
        count = put.count ∙ ap (λ n. n + 1) noted.count;
        unknown = put.unknown ∙ noted.unknown;
        others = others_then _ _ _ noted.others put.others;
      };
    }

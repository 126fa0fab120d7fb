use Rattle.std.proofs.Common.{arith, ◌++◌, ap, ◌∙◌, subst}
use Rattle.std.proofs.lemmas.List.{append-nil}
use Rattle.std.proofs.lemmas.Result.{err_from_is_err_and}
use Rattle.model.specs.Refusals.{fault}
use Rattle.model.specs.declared.fault.Refusal.TheVariants.{NoForm}
use Rattle.sheets.specs.Cursors.{ahead}
use Rattle.sheets.specs.Formulas.{spell}
use Rattle.sheets.specs.Tokens.{Next}
use Rattle.sheets.proofs.FormulaSpelling.{no_line_end, no_whole}
use Rattle.sheets.proofs.TokenCounts.{tokens_short}
use Rattle.sheets.proofs.cursor.Cursor.formula_side.Goals as goal

pub returns-in_err-signal : goal.returns-in_err-signal
returns-in_err-signal c =
    let said = c.in_err-signal.ensures in
    let p = err_from_is_err_and c.from_residual.result c.from_residual.ensures.1 in
    record { stays = said.stays; lent = said.lent; side = rw (p.1, p.2) (said.read.0, no_whole (ahead c.args.self.now) said.read.1) }

pub returns-in-LineEnd : goal.returns-in-LineEnd
returns-in-LineEnd c =
    let said = c.in_ok-signal.ensures in
    let read = said.read.0 in
    let drawn = read.drawn in
    let done = subst (λ t. Next read.after t (ahead c.formula.new.self)) c.in-LineEnd.is read.next in
    record {
      stays = said.stays;
      lent = said.lent;
      side = record {
        side = read.formula;
        tokens = read.tokens ∙ ap (λ us. spell read.formula ++ us) done.0 ∙ append-nil (spell read.formula);
        signal_is = drawn.signal_is;
        gates = drawn.gates;
        count = drawn.count;
        unknown = drawn.unknown;
        others = drawn.others;
      };
    }

pub returns-in_default : goal.returns-in_default
returns-in_default c =
    let said = c.in_ok-signal.ensures in
    let read = said.read.0 in
    record {
      stays = said.stays;
      lent = said.lent;
      side = (
        c.refuse.ensures ∙ ap (fault NoForm) said.stays,
        no_line_end (ahead c.args.self.now) read.formula read.after (ahead c.formula.new.self) c.in_ok-signal.token read.next said.read.1 c.in_default.not-LineEnd read.tokens,
      );
    }

pub formula-requires : goal.formula-requires
formula-requires c =
    let few = tokens_short c.args.self.now.rest.now in
    record { few = c.requires.few; signals = omega (arith, few, c.args.self.now.short, c.requires.tidy.few_gates, c.args.draft.now.few_facts) }

use Rattle.std.proofs.Common.{◌≡◌, ◌<◌, [], ◌∷◌, ◌++◌, length, sym, ap, ◌∙◌, subst, arith}
use Rattle.std.proofs.lemmas.Result.{err_from_is_err_and}
use Rattle.model.specs.Refusals.{fault}
use Rattle.model.specs.declared.fault.Refusal.TheVariants.{NoForm}
use Rattle.table.specs.Tables.{keys_of}
use Rattle.sheets.specs.Cursors.{ahead}
use Rattle.sheets.specs.FormulaEnds.{NoFactor, NoFormula, NoPart, NoTerm}
use Rattle.sheets.specs.FormulaReads.{ReadFactor, ReadFormula, ReadPart, ReadTerm}
use Rattle.sheets.specs.Formulas.{one_factor, times, word, numeral, spell, spell_part, spell_term, spell_factor}
use Rattle.sheets.specs.Sides.{Numeral, Word}
use Rattle.sheets.specs.Tokens.{Next}
use Rattle.sheets.proofs.Drafts.{same_lists, lists_then}
use Rattle.sheets.proofs.FormulaDrafts.{drawn_constant, drawn_name, put_as}
use Rattle.sheets.proofs.FormulaSpelling.{no_bracketed, no_close, no_factor_stuck, no_first_factor, no_first_part, no_first_term, no_inside, no_later_factor, no_later_minus, no_later_part, no_later_plus, no_negated, no_start, no_term_stuck}
use Rattle.sheets.proofs.FormulaSteps.{enough_minus, enough_or, enough_plus, enough_times, factor_brackets, factor_not, formula_first, formula_or, grown_factor, grown_part, grown_term, joined, next_fewer, part_first, part_minus, part_plus, term_first, term_more}
use Rattle.sheets.proofs.cursor.Cursor.+factor_formula_part_term.Goals as goal

pub factor-returns-in_err-next_token : goal.factor-returns-in_err-next_token
factor-returns-in_err-next_token t c =
    let said = c.in_err-next_token.ensures in
    let p = err_from_is_err_and c.from_residual.result c.from_residual.ensures.1 in
    record { stays = said.stays; lent = same_lists _; read = rw (p.1, p.2) (said.next.0, no_factor_stuck (ahead c.args.self.now) said.next.1) }

pub factor-returns-in_err-operand-in-Not : goal.factor-returns-in_err-operand-in-Not
factor-returns-in_err-operand-in-Not t c =
    let first = c.in_ok-next_token.ensures in
    let said = c.in_err-operand-in-Not.ensures in
    let p = err_from_is_err_and c.from_residual-in_err-operand-in-Not.result c.from_residual-in_err-operand-in-Not.ensures.1 in
    let is : ahead c.args.self.now ≡ (33 ∷ []) ∷ ahead c.next_token.new.self = subst (λ u. Next (ahead c.args.self.now) u (ahead c.next_token.new.self)) c.in-Not.is first.next in
    record {
      stays = said.stays ∙ first.stays;
      lent = said.lent;
      read = rw (p.1, p.2) (said.read.0 ∙ ap (fault NoForm) first.stays, subst NoFactor (sym is) (no_negated (ahead c.next_token.new.self) said.read.1));
    }

pub factor-emit-requires : goal.factor-emit-requires
factor-emit-requires t c =
    let first = c.in_ok-next_token.ensures in
    let said = c.in_ok-operand-in-Not.ensures in
    let fewer = next_fewer _ _ _ first.next in
    let more = grown_factor _ _ _ _ _ _ said.read in
    omega (arith, c.requires.signals, fewer.short, more.gates)

pub factor-returns-in_err-signal-in-Open : goal.factor-returns-in_err-signal-in-Open
factor-returns-in_err-signal-in-Open t c =
    let first = c.in_ok-next_token.ensures in
    let said = c.in_err-signal-in-Open.ensures in
    let p = err_from_is_err_and c.from_residual-in_err-signal-in-Open.result c.from_residual-in_err-signal-in-Open.ensures.1 in
    let inner = ahead c.next_token.new.self in
    let is : ahead c.args.self.now ≡ (40 ∷ []) ∷ inner = subst (λ u. Next (ahead c.args.self.now) u inner) c.in-Open.is first.next in
    record {
      stays = said.stays ∙ first.stays;
      lent = said.lent;
      read = rw (p.1, p.2) (said.read.0 ∙ ap (fault NoForm) first.stays, subst NoFactor (sym is) (no_bracketed inner (no_inside inner said.read.1)));
    }

pub factor-returns-in_ok-operand-in-Not : goal.factor-returns-in_ok-operand-in-Not
factor-returns-in_ok-operand-in-Not t c =
    let first = c.in_ok-next_token.ensures in
    let said = c.in_ok-operand-in-Not.ensures in
    let put = c.emit.ensures in
    let is = subst (λ u. Next (ahead c.args.self.now) u (ahead c.next_token.new.self)) c.in-Not.is first.next in
    record {
      stays = said.stays ∙ first.stays;
      lent = lists_then _ _ _ said.lent put.lent;
      read = factor_not (keys_of c.args.draft.now.names.now) c.args.draft.now (ahead c.args.self.now) c.in_ok-operand-in-Not.operand c.emit.result (ahead c.next_token.new.self) (ahead c.factor.new.self) c.factor.new.draft c.emit.new.self
          is said.read (put_as _ _ _ _ _ c.unary.ensures put.signal put.gates put.count put.unknown put.others);
    }

pub factor-returns-in-Close : goal.factor-returns-in-Close
factor-returns-in-Close t c =
    let first = c.in_ok-next_token.ensures in
    let said = c.in_ok-signal-in-Open.ensures in
    let ss = keys_of c.args.draft.now.names.now in
    let d = c.args.draft.now in
    let inner = ahead c.next_token.new.self in
    let rest = ahead c.formula.new.self in
    let is = subst (λ u. Next (ahead c.args.self.now) u inner) c.in-Open.is first.next in
    let closed = subst (λ u. ReadFormula ss d inner c.in_ok-signal-in-Open.signal u rest c.formula.new.draft) c.in-Close.is said.read.0 in
    record {
      stays = said.stays ∙ first.stays;
      lent = said.lent;
      read = factor_brackets ss d (ahead c.args.self.now) c.in_ok-signal-in-Open.signal inner rest c.formula.new.draft is closed;
    }

pub factor-returns-in_default-token : goal.factor-returns-in_default-token
factor-returns-in_default-token t c =
    let first = c.in_ok-next_token.ensures in
    let said = c.in_ok-signal-in-Open.ensures in
    let read = said.read.0 in
    let inner = ahead c.next_token.new.self in
    let is : ahead c.args.self.now ≡ (40 ∷ []) ∷ inner = subst (λ u. Next (ahead c.args.self.now) u inner) c.in-Open.is first.next in
    let both = said.stays ∙ first.stays in
    record {
      stays = both;
      lent = said.lent;
      read = (
        c.refuse.ensures ∙ ap (fault NoForm) both,
        subst NoFactor (sym is) (no_bracketed inner (no_close inner read.formula read.after (ahead c.formula.new.self) c.in_ok-signal-in-Open.token read.next said.read.1 c.in_default-token.not-Close read.tokens)),
      );
    }

pub factor-returns-in-Identifier : goal.factor-returns-in-Identifier
factor-returns-in-Identifier t c =
    let first = c.in_ok-next_token.ensures in
    let n = c.in-Identifier.name in
    let next = subst (λ u. Next (ahead c.args.self.now) u (ahead c.next_token.new.self)) c.in-Identifier.is first.next in
    let w : Word = record { name = n; some = next.1 } in
    let looked = c.signal_of.ensures in
    record {
      stays = first.stays;
      lent = looked.lent;
      read = record { factor = word w; tokens = next.0; drawn = drawn_name (keys_of c.args.draft.now.names.now) c.args.draft.now w c.signal_of.result c.signal_of.new.self looked.signal looked.unknown looked.gates looked.count looked.others };
    }

pub factor-returns-in-Number : goal.factor-returns-in-Number
factor-returns-in-Number t c =
    let first = c.in_ok-next_token.ensures in
    let v = c.in-Number.value in
    let next = subst (λ u. Next (ahead c.args.self.now) u (ahead c.next_token.new.self)) c.in-Number.is first.next in
    let n : Numeral = record { value = v; small = next.1 } in
    let put = c.emit-in-Number.ensures in
    record {
      stays = first.stays;
      lent = put.lent;
      read = record {
        factor = numeral n;
        tokens = next.0;
        drawn = drawn_constant (keys_of c.args.draft.now.names.now) c.args.draft.now v c.emit-in-Number.result c.emit-in-Number.new.self (put_as _ _ _ _ _ c.constant.ensures put.signal put.gates put.count put.unknown put.others);
      };
    }

pub factor-returns-in_default : goal.factor-returns-in_default
factor-returns-in_default t c =
    let first = c.in_ok-next_token.ensures in
    let other = c.in_default in
    record {
      stays = first.stays;
      lent = same_lists _;
      read = (
        c.refuse-in_default.ensures ∙ ap (fault NoForm) first.stays,
        no_start (ahead c.args.self.now) (ahead c.next_token.new.self) c.in_ok-next_token.field-0 first.next other.not-Not other.not-Open other.not-Identifier other.not-Number,
      );
    }

pub formula-returns-in_err-signal : goal.formula-returns-in_err-signal
formula-returns-in_err-signal t c =
    let said = c.in_err-signal.ensures in
    let p = err_from_is_err_and c.from_residual.result c.from_residual.ensures.1 in
    record { stays = said.stays; lent = said.lent; read = rw (p.1, p.2) (said.read.0, no_first_part (ahead c.args.self.now) said.read.1) }

pub formula-part-requires-in-Or : goal.formula-part-requires-in-Or
formula-part-requires-in-Or t c =
    let first = c.in_ok-signal.ensures in
    let ss = keys_of c.args.draft.now.names.now in
    let d = c.args.draft.now in
    let ts = ahead c.args.self.now in
    let here = c.loop-token in
    let rest = ahead here.self in
    let so_far = subst (λ u. ReadFormula ss d ts here.signal u rest here.draft) c.in-Or.is (here.invariant.2 d ts (formula_first ss d ts _ _ _ _ first.read.0)) in
    let enough = enough_or ss d ts c.requires.signals here.signal rest here.draft so_far in
    (omega (arith, enough.few), (omega (arith, enough.few, c.requires.few), omega (arith, enough.signals)))

pub formula-returns-in_err-right : goal.formula-returns-in_err-right
formula-returns-in_err-right t c =
    let said = c.in_err-right.ensures in
    let first = c.in_ok-signal.ensures in
    let ss = keys_of c.args.draft.now.names.now in
    let d = c.args.draft.now in
    let ts = ahead c.args.self.now in
    let here = c.loop-token in
    let rest = ahead here.self in
    let so_far = subst (λ u. ReadFormula ss d ts here.signal u rest here.draft) c.in-Or.is (here.invariant.2 d ts (formula_first ss d ts _ _ _ _ first.read.0)) in
    let is = so_far.tokens ∙ ap (λ us. spell so_far.formula ++ us) so_far.next in
    let stays = here.invariant.0 ∙ first.stays in
    let p = err_from_is_err_and c.from_residual-in_err-right.result c.from_residual-in_err-right.ensures.1 in
    record {
      stays = said.stays ∙ stays;
      lent = lists_then _ _ _ (lists_then _ _ _ first.lent here.invariant.1) said.lent;
      read = rw (p.1, p.2) (said.read.0 ∙ ap (fault NoForm) stays, subst NoFormula (sym is) (no_later_part rest so_far.formula said.read.1));
    }

pub formula-emit-signal-requires : goal.formula-emit-signal-requires
formula-emit-signal-requires t c =
    let said = c.in_ok-right.ensures in
    let first = c.in_ok-signal.ensures in
    let ss = keys_of c.args.draft.now.names.now in
    let d = c.args.draft.now in
    let ts = ahead c.args.self.now in
    let here = c.loop-token in
    let rest = ahead here.self in
    let so_far = subst (λ u. ReadFormula ss d ts here.signal u rest here.draft) c.in-Or.is (here.invariant.2 d ts (formula_first ss d ts _ _ _ _ first.read.0)) in
    let enough = enough_or ss d ts c.requires.signals here.signal rest here.draft so_far in
    let more = grown_part _ _ _ _ _ _ _ said.read.0 in
    omega (arith, enough.signals, more.gates)

pub formula-loop-token-smaller : goal.formula-loop-token-smaller
formula-loop-token-smaller t c =
    let right = c.in_ok-right.ensures in
    let more = grown_part _ _ _ _ _ _ _ right.read.0 in
    let lt : length (ahead c.part-in-Or.new.self) < length (ahead c.loop-token.self) = more.shorter in
    lt

pub formula-loop-token-preserved : goal.formula-loop-token-preserved
formula-loop-token-preserved t c =
    let right = c.in_ok-right.ensures in
    let put = c.emit-signal.ensures in
    let here = c.loop-token in (
      right.stays ∙ here.invariant.0,
      lists_then _ _ _ (lists_then _ _ _ here.invariant.1 right.lent) put.lent,
      λ d ts begun.
          let ss = keys_of d.names.now in
          let so_far = subst (λ u. ReadFormula ss d ts here.signal u (ahead here.self) here.draft) c.in-Or.is (here.invariant.2 d ts begun) in
          let more = subst (λ t. ReadPart (keys_of t) here.draft (ahead here.self) c.in_ok-right.right c.in_ok-right.next (ahead c.part-in-Or.new.self) c.part-in-Or.new.draft) so_far.drawn.others.names right.read.0 in
          formula_or ss d ts here.signal c.in_ok-right.right c.emit-signal.result (ahead here.self) (ahead c.part-in-Or.new.self) c.in_ok-right.next here.draft c.part-in-Or.new.draft c.emit-signal.new.self
          so_far more (put_as _ _ _ _ _ c.binary.ensures put.signal put.gates put.count put.unknown put.others),
      right.read.1,
    )

pub formula-returns : goal.formula-returns
formula-returns t c =
    let first = c.in_ok-signal.ensures in
    let ss = keys_of c.args.draft.now.names.now in
    let d = c.args.draft.now in
    let ts = ahead c.args.self.now in
    let here = c.loop-token in
    record {
      stays = here.invariant.0 ∙ first.stays;
      lent = lists_then _ _ _ first.lent here.invariant.1;
      read = (here.invariant.2 d ts (formula_first ss d ts _ _ _ _ first.read.0), (here.invariant.3, c.in_default.not-Or));
    }

pub part-returns-in_err-signal : goal.part-returns-in_err-signal
part-returns-in_err-signal t c =
    let said = c.in_err-signal.ensures in
    let p = err_from_is_err_and c.from_residual.result c.from_residual.ensures.1 in
    record { stays = said.stays; lent = said.lent; read = rw (p.1, p.2) (said.read.0, no_first_term (ahead c.args.self.now) said.read.1) }

pub part-term-requires-in-Plus : goal.part-term-requires-in-Plus
part-term-requires-in-Plus t c =
    let first = c.in_ok-signal.ensures in
    let ss = keys_of c.args.draft.now.names.now in
    let d = c.args.draft.now in
    let ts = ahead c.args.self.now in
    let here = c.loop-token in
    let rest = ahead here.self in
    let so_far = subst (λ u. ReadPart ss d ts here.signal u rest here.draft) c.in-Plus.is (here.invariant.2 d ts (part_first ss d ts _ _ _ _ first.read.0)) in
    let enough = enough_plus ss d ts c.requires.signals here.signal rest here.draft so_far in
    (omega (arith, enough.few), (omega (arith, enough.few, c.requires.few), omega (arith, enough.signals)))

pub part-returns-in_err-right-in-Plus : goal.part-returns-in_err-right-in-Plus
part-returns-in_err-right-in-Plus t c =
    let said = c.in_err-right-in-Plus.ensures in
    let first = c.in_ok-signal.ensures in
    let ss = keys_of c.args.draft.now.names.now in
    let d = c.args.draft.now in
    let ts = ahead c.args.self.now in
    let here = c.loop-token in
    let rest = ahead here.self in
    let so_far = subst (λ u. ReadPart ss d ts here.signal u rest here.draft) c.in-Plus.is (here.invariant.2 d ts (part_first ss d ts _ _ _ _ first.read.0)) in
    let is = so_far.tokens ∙ ap (λ us. spell_part so_far.part ++ us) so_far.next in
    let stays = here.invariant.0 ∙ first.stays in
    let p = err_from_is_err_and c.from_residual-in_err-right-in-Plus.result c.from_residual-in_err-right-in-Plus.ensures.1 in
    record {
      stays = said.stays ∙ stays;
      lent = lists_then _ _ _ (lists_then _ _ _ first.lent here.invariant.1) said.lent;
      read = rw (p.1, p.2) (said.read.0 ∙ ap (fault NoForm) stays, subst NoPart (sym is) (no_later_plus rest so_far.part said.read.1));
    }

pub part-emit-signal-requires : goal.part-emit-signal-requires
part-emit-signal-requires t c =
    let said = c.in_ok-right-in-Plus.ensures in
    let first = c.in_ok-signal.ensures in
    let ss = keys_of c.args.draft.now.names.now in
    let d = c.args.draft.now in
    let ts = ahead c.args.self.now in
    let here = c.loop-token in
    let rest = ahead here.self in
    let so_far = subst (λ u. ReadPart ss d ts here.signal u rest here.draft) c.in-Plus.is (here.invariant.2 d ts (part_first ss d ts _ _ _ _ first.read.0)) in
    let enough = enough_plus ss d ts c.requires.signals here.signal rest here.draft so_far in
    let more = grown_term _ _ _ _ _ _ _ said.read.0 in
    omega (arith, enough.signals, more.gates)

pub part-loop-token-smaller-in-Plus : goal.part-loop-token-smaller-in-Plus
part-loop-token-smaller-in-Plus t c =
    let right = c.in_ok-right-in-Plus.ensures in
    let more = grown_term _ _ _ _ _ _ _ right.read.0 in
    let lt : length (ahead c.term-in-Plus.new.self) < length (ahead c.loop-token.self) = more.shorter in
    lt

pub part-loop-token-preserved-in-Plus : goal.part-loop-token-preserved-in-Plus
part-loop-token-preserved-in-Plus t c =
    let right = c.in_ok-right-in-Plus.ensures in
    let put = c.emit-signal.ensures in
    let here = c.loop-token in (
      right.stays ∙ here.invariant.0,
      lists_then _ _ _ (lists_then _ _ _ here.invariant.1 right.lent) put.lent,
      λ d ts begun.
          let ss = keys_of d.names.now in
          let so_far = subst (λ u. ReadPart ss d ts here.signal u (ahead here.self) here.draft) c.in-Plus.is (here.invariant.2 d ts begun) in
          let more = subst (λ t. ReadTerm (keys_of t) here.draft (ahead here.self) c.in_ok-right-in-Plus.right c.in_ok-right-in-Plus.next (ahead c.term-in-Plus.new.self) c.term-in-Plus.new.draft) so_far.drawn.others.names right.read.0 in
          part_plus ss d ts here.signal c.in_ok-right-in-Plus.right c.emit-signal.result (ahead here.self) (ahead c.term-in-Plus.new.self) c.in_ok-right-in-Plus.next here.draft c.term-in-Plus.new.draft c.emit-signal.new.self
          so_far more (put_as _ _ _ _ _ c.binary.ensures put.signal put.gates put.count put.unknown put.others),
      right.read.1,
    )

pub part-term-requires-in-Minus : goal.part-term-requires-in-Minus
part-term-requires-in-Minus t c =
    let first = c.in_ok-signal.ensures in
    let ss = keys_of c.args.draft.now.names.now in
    let d = c.args.draft.now in
    let ts = ahead c.args.self.now in
    let here = c.loop-token in
    let rest = ahead here.self in
    let so_far = subst (λ u. ReadPart ss d ts here.signal u rest here.draft) c.in-Minus.is (here.invariant.2 d ts (part_first ss d ts _ _ _ _ first.read.0)) in
    let enough = enough_minus ss d ts c.requires.signals here.signal rest here.draft so_far in
    (omega (arith, enough.few), (omega (arith, enough.few, c.requires.few), omega (arith, enough.signals)))

pub part-returns-in_err-right-in-Minus : goal.part-returns-in_err-right-in-Minus
part-returns-in_err-right-in-Minus t c =
    let said = c.in_err-right-in-Minus.ensures in
    let first = c.in_ok-signal.ensures in
    let ss = keys_of c.args.draft.now.names.now in
    let d = c.args.draft.now in
    let ts = ahead c.args.self.now in
    let here = c.loop-token in
    let rest = ahead here.self in
    let so_far = subst (λ u. ReadPart ss d ts here.signal u rest here.draft) c.in-Minus.is (here.invariant.2 d ts (part_first ss d ts _ _ _ _ first.read.0)) in
    let is = so_far.tokens ∙ ap (λ us. spell_part so_far.part ++ us) so_far.next in
    let stays = here.invariant.0 ∙ first.stays in
    let p = err_from_is_err_and c.from_residual-in_err-right-in-Minus.result c.from_residual-in_err-right-in-Minus.ensures.1 in
    record {
      stays = said.stays ∙ stays;
      lent = lists_then _ _ _ (lists_then _ _ _ first.lent here.invariant.1) said.lent;
      read = rw (p.1, p.2) (said.read.0 ∙ ap (fault NoForm) stays, subst NoPart (sym is) (no_later_minus rest so_far.part said.read.1));
    }

pub part-emit-minus-requires : goal.part-emit-minus-requires
part-emit-minus-requires t c =
    let said = c.in_ok-right-in-Minus.ensures in
    let first = c.in_ok-signal.ensures in
    let ss = keys_of c.args.draft.now.names.now in
    let d = c.args.draft.now in
    let ts = ahead c.args.self.now in
    let here = c.loop-token in
    let rest = ahead here.self in
    let so_far = subst (λ u. ReadPart ss d ts here.signal u rest here.draft) c.in-Minus.is (here.invariant.2 d ts (part_first ss d ts _ _ _ _ first.read.0)) in
    let enough = enough_minus ss d ts c.requires.signals here.signal rest here.draft so_far in
    let more = grown_term _ _ _ _ _ _ _ said.read.0 in
    omega (arith, enough.signals, more.gates)

pub part-emit-signal-requires-in-Minus : goal.part-emit-signal-requires-in-Minus
part-emit-signal-requires-in-Minus t c =
    let said = c.in_ok-right-in-Minus.ensures in
    let first = c.in_ok-signal.ensures in
    let ss = keys_of c.args.draft.now.names.now in
    let d = c.args.draft.now in
    let ts = ahead c.args.self.now in
    let here = c.loop-token in
    let rest = ahead here.self in
    let so_far = subst (λ u. ReadPart ss d ts here.signal u rest here.draft) c.in-Minus.is (here.invariant.2 d ts (part_first ss d ts _ _ _ _ first.read.0)) in
    let enough = enough_minus ss d ts c.requires.signals here.signal rest here.draft so_far in
    let more = grown_term _ _ _ _ _ _ _ said.read.0 in
    omega (arith, enough.signals, more.gates, c.emit-minus.ensures.count, c.emit-minus.ensures.others.facts)

pub part-loop-token-smaller : goal.part-loop-token-smaller
part-loop-token-smaller t c =
    let right = c.in_ok-right-in-Minus.ensures in
    let more = grown_term _ _ _ _ _ _ _ right.read.0 in
    let lt : length (ahead c.term-in-Minus.new.self) < length (ahead c.loop-token.self) = more.shorter in
    lt

pub part-loop-token-preserved : goal.part-loop-token-preserved
part-loop-token-preserved t c =
    let right = c.in_ok-right-in-Minus.ensures in
    let turned = c.emit-minus.ensures in
    let put = c.emit-signal-in-Minus.ensures in
    let here = c.loop-token in (
      right.stays ∙ here.invariant.0,
      lists_then _ _ _ (lists_then _ _ _ (lists_then _ _ _ here.invariant.1 right.lent) turned.lent) put.lent,
      λ d ts begun.
          let ss = keys_of d.names.now in
          let so_far = subst (λ u. ReadPart ss d ts here.signal u (ahead here.self) here.draft) c.in-Minus.is (here.invariant.2 d ts begun) in
          let more = subst (λ t. ReadTerm (keys_of t) here.draft (ahead here.self) c.in_ok-right-in-Minus.right c.in_ok-right-in-Minus.next (ahead c.term-in-Minus.new.self) c.term-in-Minus.new.draft) so_far.drawn.others.names right.read.0 in
          part_minus ss d ts here.signal c.in_ok-right-in-Minus.right c.emit-signal-in-Minus.result (ahead here.self) (ahead c.term-in-Minus.new.self) c.in_ok-right-in-Minus.next here.draft c.term-in-Minus.new.draft c.emit-minus.new.self c.emit-minus.result c.emit-signal-in-Minus.new.self
          so_far more (put_as _ _ _ _ _ c.unary.ensures turned.signal turned.gates turned.count turned.unknown turned.others) (put_as _ _ _ _ _ c.binary-in-Minus.ensures put.signal put.gates put.count put.unknown put.others),
      right.read.1,
    )

pub part-returns-in_default : goal.part-returns-in_default
part-returns-in_default t c =
    let first = c.in_ok-signal.ensures in
    let ss = keys_of c.args.draft.now.names.now in
    let d = c.args.draft.now in
    let ts = ahead c.args.self.now in
    let here = c.loop-token in
    record {
      stays = here.invariant.0 ∙ first.stays;
      lent = lists_then _ _ _ first.lent here.invariant.1;
      read = (here.invariant.2 d ts (part_first ss d ts _ _ _ _ first.read.0), (here.invariant.3, c.in_default.not-Plus, c.in_default.not-Minus));
    }

pub term-returns-in_err-signal : goal.term-returns-in_err-signal
term-returns-in_err-signal t c =
    let said = c.in_err-signal.ensures in
    let p = err_from_is_err_and c.from_residual.result c.from_residual.ensures.1 in
    record { stays = said.stays; lent = said.lent; read = rw (p.1, p.2) (said.read.0, no_first_factor (ahead c.args.self.now) said.read.1) }

pub term-returns-in_err-token : goal.term-returns-in_err-token
term-returns-in_err-token t c =
    let first = c.in_ok-signal.ensures in
    let read = first.read in
    let said = c.in_err-token.ensures in
    let p = err_from_is_err_and c.from_residual-in_err-token.result c.from_residual-in_err-token.ensures.1 in
    record {
      stays = said.stays ∙ first.stays;
      lent = first.lent;
      read = rw (p.1, p.2) (said.next.0 ∙ ap (fault NoForm) first.stays, subst NoTerm (sym read.tokens) (no_term_stuck (ahead c.factor.new.self) (one_factor read.factor) said.next.1));
    }

pub term-factor-requires-in-Times : goal.term-factor-requires-in-Times
term-factor-requires-in-Times t c =
    let first = c.in_ok-signal.ensures in
    let next = c.in_ok-token.ensures in
    let ss = keys_of c.args.draft.now.names.now in
    let d = c.args.draft.now in
    let ts = ahead c.args.self.now in
    let here = c.loop-token in
    let so_far = here.invariant.2 d ts (term_first ss d ts _ _ _ _ _ first.read next.next) in
    let enough = enough_times ss d ts c.requires.signals here.signal (ahead here.self) here.draft (subst (λ u. ReadTerm ss d ts here.signal u (ahead here.self) here.draft) c.in-Times.is so_far) in
    (omega (arith, enough.few), (omega (arith, enough.few, c.requires.few), omega (arith, enough.signals)))

pub term-returns-in_err-right : goal.term-returns-in_err-right
term-returns-in_err-right t c =
    let first = c.in_ok-signal.ensures in
    let next = c.in_ok-token.ensures in
    let said = c.in_err-right.ensures in
    let ss = keys_of c.args.draft.now.names.now in
    let d = c.args.draft.now in
    let ts = ahead c.args.self.now in
    let here = c.loop-token in
    let rest = ahead here.self in
    let so_far = here.invariant.2 d ts (term_first ss d ts _ _ _ _ _ first.read next.next) in
    let is = so_far.tokens ∙ ap (λ us. spell_term so_far.term ++ us) (subst (λ u. Next so_far.after u rest) c.in-Times.is so_far.next) in
    let stays = here.invariant.0 ∙ next.stays ∙ first.stays in
    let p = err_from_is_err_and c.from_residual-in_err-right.result c.from_residual-in_err-right.ensures.1 in
    record {
      stays = said.stays ∙ stays;
      lent = lists_then _ _ _ (lists_then _ _ _ first.lent here.invariant.1) said.lent;
      read = rw (p.1, p.2) (said.read.0 ∙ ap (fault NoForm) stays, subst NoTerm (sym is) (no_later_factor rest so_far.term said.read.1));
    }

pub term-emit-signal-requires : goal.term-emit-signal-requires
term-emit-signal-requires t c =
    let first = c.in_ok-signal.ensures in
    let next = c.in_ok-token.ensures in
    let said = c.in_ok-right.ensures in
    let ss = keys_of c.args.draft.now.names.now in
    let d = c.args.draft.now in
    let ts = ahead c.args.self.now in
    let here = c.loop-token in
    let so_far = here.invariant.2 d ts (term_first ss d ts _ _ _ _ _ first.read next.next) in
    let enough = enough_times ss d ts c.requires.signals here.signal (ahead here.self) here.draft (subst (λ u. ReadTerm ss d ts here.signal u (ahead here.self) here.draft) c.in-Times.is so_far) in
    let more = grown_factor _ _ _ _ _ _ said.read in
    omega (arith, enough.signals, more.gates)

pub term-returns-in_err-token-2 : goal.term-returns-in_err-token-2
term-returns-in_err-token-2 t c =
    let first = c.in_ok-signal.ensures in
    let next = c.in_ok-token.ensures in
    let right = c.in_ok-right.ensures in
    let more = right.read in
    let said = c.in_err-token-2.ensures in
    let ss = keys_of c.args.draft.now.names.now in
    let d = c.args.draft.now in
    let ts = ahead c.args.self.now in
    let here = c.loop-token in
    let so_far = here.invariant.2 d ts (term_first ss d ts _ _ _ _ _ first.read next.next) in
    let sign = subst (λ u. Next so_far.after u (ahead here.self)) c.in-Times.is so_far.next in
    let after = ahead c.factor-in-Times.new.self in
    let is = joined ts (spell_term so_far.term) (spell_factor more.factor) so_far.after (ahead here.self) 42 so_far.tokens sign after more.tokens in
    let stays = right.stays ∙ here.invariant.0 ∙ next.stays ∙ first.stays in
    let p = err_from_is_err_and c.from_residual-in_err-token-2.result c.from_residual-in_err-token-2.ensures.1 in
    record {
      stays = said.stays ∙ stays;
      lent = lists_then _ _ _ (lists_then _ _ _ (lists_then _ _ _ first.lent here.invariant.1) right.lent) c.emit-signal.ensures.lent;
      read = rw (p.1, p.2) (said.next.0 ∙ ap (fault NoForm) stays, subst NoTerm (sym is) (no_term_stuck after (times so_far.term more.factor) said.next.1));
    }

pub term-loop-token-smaller : goal.term-loop-token-smaller
term-loop-token-smaller t c =
    let right = c.in_ok-right.ensures in
    let next = c.in_ok-token-2.ensures in
    let more = grown_factor _ _ _ _ _ _ right.read in
    let fewer = next_fewer _ _ _ next.next in
    let lt : length (ahead c.next_token-in-Times.new.self) < length (ahead c.loop-token.self) = omega (arith, more.shorter, fewer.short) in
    lt

pub term-loop-token-preserved : goal.term-loop-token-preserved
term-loop-token-preserved t c =
    let right = c.in_ok-right.ensures in
    let next = c.in_ok-token-2.ensures in
    let put = c.emit-signal.ensures in
    let here = c.loop-token in (
      next.stays ∙ right.stays ∙ here.invariant.0,
      lists_then _ _ _ (lists_then _ _ _ here.invariant.1 right.lent) put.lent,
      λ d ts begun.
          let ss = keys_of d.names.now in
          let so_far = subst (λ u. ReadTerm ss d ts here.signal u (ahead here.self) here.draft) c.in-Times.is (here.invariant.2 d ts begun) in
          let more = subst (λ t. ReadFactor (keys_of t) here.draft (ahead here.self) c.in_ok-right.right (ahead c.factor-in-Times.new.self) c.factor-in-Times.new.draft) so_far.drawn.others.names right.read in
          term_more ss d ts here.signal c.in_ok-right.right c.emit-signal.result (ahead here.self) (ahead c.factor-in-Times.new.self) c.in_ok-token-2.token here.draft c.factor-in-Times.new.draft c.emit-signal.new.self (ahead c.next_token-in-Times.new.self)
          so_far more (put_as _ _ _ _ _ c.binary.ensures put.signal put.gates put.count put.unknown put.others) next.next,
    )

pub term-returns : goal.term-returns
term-returns t c =
    let first = c.in_ok-signal.ensures in
    let next = c.in_ok-token.ensures in
    let ss = keys_of c.args.draft.now.names.now in
    let d = c.args.draft.now in
    let ts = ahead c.args.self.now in
    let here = c.loop-token in
    record {
      stays = here.invariant.0 ∙ next.stays ∙ first.stays;
      lent = lists_then _ _ _ first.lent here.invariant.1;
      read = (here.invariant.2 d ts (term_first ss d ts _ _ _ _ _ first.read next.next), c.in_default.not-Times);
    }

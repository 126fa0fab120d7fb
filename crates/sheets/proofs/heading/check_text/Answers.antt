use Rattle.std.proofs.Common.{not, Err, Some, None, sym, subst}
use Rattle.std.proofs.Math.Bool.{not-not}
use Rattle.model.specs.declared.fault.Fault.{Fault}
use Rattle.sheets.specs.Sheets.{allowed, Opens, too_long, bad_byte}
use Rattle.sheets.proofs.Firsts.{first_fails}
use Rattle.sheets.proofs.heading.check_text.Goals as goal

pub returns-then-text-gt-MAX_TEXT : goal.returns-then-text-gt-MAX_TEXT
returns-then-text-gt-MAX_TEXT c mark =
    let O : Fault → Type 0 = λ f. Opens mark c.args.text.now (Err f) in
    subst O (sym c.at.ensures) (too_long c.if-text-gt-MAX_TEXT.true)

pub returns-in-Some : goal.returns-in-Some
returns-in-Some c mark =
    let O : Fault → Type 0 = λ f. Opens mark c.args.text.now (Err f) in
    let at = first_fails (λ b. not (allowed b)) allowed (λ b. sym (not-not (allowed b))) c.args.text.now (Some c.in-Some.place) c.in-Some.ensures in
    subst O (sym c.at-in-Some.ensures) (bad_byte c.if-text-gt-MAX_TEXT.false c.in-Some.place at.0 at.1 at.2)

pub returns-in-None : goal.returns-in-None
returns-in-None c = record {
  short = c.if-text-gt-MAX_TEXT.false;
  printable = first_fails (λ b. not (allowed b)) allowed (λ b. sym (not-not (allowed b))) c.args.text.now None c.in-None.ensures;
}

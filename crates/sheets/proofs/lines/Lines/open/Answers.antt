use Rattle.std.proofs.Common.{ℕ, List, Err, sym, subst}
use Rattle.model.specs.declared.fault.Fault.{Fault}
use Rattle.sheets.specs.Lines.{heading, lines_from}
use Rattle.sheets.specs.Sheets.{Heading, Opens, bad_heading, wrong_version, opens}
use Rattle.sheets.proofs.LinesFrom.{parts_heading, parts_later}
use Rattle.sheets.proofs.lines.Lines.open.Goals as goal

pub returns-in-None : goal.returns-in-None
returns-in-None c =
    let O : Fault → Type 0 = λ f. Opens c.args.mark.now c.args.text.now (Err f) in
    let H : List ℕ → Type 0 = λ line. (v : ℕ) → Heading c.args.mark.now line v → ⊥ in
    subst O (sym c.at-in-None.ensures) (bad_heading c.in_ok-check_text.ensures (subst H (sym (parts_heading _ _ _ c.split_line.ensures)) c.in-None.ensures))

pub returns-in-Some : goal.returns-in-Some
returns-in-Some c =
    let O : Fault → Type 0 = λ f. Opens c.args.mark.now c.args.text.now (Err f) in
    let H : List ℕ → Type 0 = λ line. Heading c.args.mark.now line c.in-Some.field-0 in
    subst O (sym c.at.ensures) (wrong_version c.in_ok-check_text.ensures c.in-Some.field-0 (subst H (sym (parts_heading _ _ _ c.split_line.ensures)) c.in-Some.ensures) c.in-Some.field-0-test.1)

pub returns-in-Some-eq1 : goal.returns-in-Some-eq1
returns-in-Some-eq1 c =
    let H : List ℕ → Type 0 = λ line. Heading c.args.mark.now line c.in-Some-eq1.field-0 in
    let V : ℕ → Type 0 = λ v. Heading c.args.mark.now (heading (lines_from 0 c.args.text.now)) v in (
      opens c.in_ok-check_text.ensures (subst V c.in-Some-eq1.field-0-test (subst H (sym (parts_heading _ _ _ c.split_line.ensures)) c.in-Some-eq1.ensures)),
      sym (parts_later _ _ _ c.split_line.ensures),
    )

use Rattle.std.proofs.Common.{◌≡◌, true, false, cond, Ok, codes, sym, ap, ◌∙◌, rules}
use Rattle.std.proofs.Math.Dec.{eqb}
use Rattle.std.specs.List.{starts_with}
use Rattle.sheets.specs.declared.notation.Notation.TheVariants.{Gates, Formulas}
use Rattle.sheets.proofs.Marks.{marked_test, opened_mark}
use Rattle.sheets.proofs.notation.Notation.of_text.Goals as goal

pub returns-then-starts_with : goal.returns-then-starts_with
returns-then-starts_with c =
    let told : true ≡ starts_with eqb c.args.text.now (codes "FRM") = search rules in
    let mark = sym (ap (λ b. cond b Formulas Gates) (marked_test c.args.text.now (codes "FRM") true told)) in
    record { mark = mark; opens = λ n h. mark ∙ opened_mark n c.args.text.now (Ok tt) h }

pub returns-else-starts_with : goal.returns-else-starts_with
returns-else-starts_with c =
    let told : false ≡ starts_with eqb c.args.text.now (codes "FRM") = search rules in
    let mark = sym (ap (λ b. cond b Formulas Gates) (marked_test c.args.text.now (codes "FRM") false told)) in
    record { mark = mark; opens = λ n h. mark ∙ opened_mark n c.args.text.now (Ok tt) h }

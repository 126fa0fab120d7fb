-- The laws of rule sheets: one verdict.
use Rattle.std.proofs.Common.{◌≡◌, ℕ, ◌<◌, ◌≤◌, true, false, List, length, Ok, Err, Result, refl, ap, subst, arith}
use Rattle.std.proofs.lemmas.Bool.{both_ways}
use Rattle.model.specs.declared.fact.Fact.{Fact}
use Rattle.model.specs.declared.fault.Fault.{Fault}
use Rattle.model.specs.declared.fault.Refusal.{Refusal}
use Rattle.model.specs.declared.fault.Refusal.TheVariants.{TooManyBrackets, NoForm, UnknownName, NamedTwice, SheetTooLarge}
use Rattle.sheets.specs.Notations.{mark_of}
use Rattle.sheets.specs.RuleLaws.{RuleLaws}
use Rattle.sheets.specs.RuleSheets.{all_known, before_lines, Fits, Form, line_names, repeats, Room, RuleLine, Rules, RuleSheet, RuleStep, with_line}
use Rattle.sheets.specs.Tokens.{brackets}
use Rattle.sheets.specs.declared.notation.Notation.{Notation}
use Rattle.sheets.proofs.LineForms.{one_form}
use Rattle.sheets.proofs.Verdicts.{ok_or_err, one_reading, one_refusal, same_err}

module _ (notation : Notation) (facts : ℕ) (room : Room) (rules : Rules) where
  -- the checks of a line that has a form
  data FormedStep (line : RuleLine notation) : Result Rules Refusal → Type 0 where
    unknown : all_known rules.symbols (line_names line) ≡ false → FormedStep line (Err UnknownName)
    repeated : all_known rules.symbols (line_names line) ≡ true → repeats rules line ≡ true → FormedStep line (Err NamedTwice)
    too_large : all_known rules.symbols (line_names line) ≡ true → repeats rules line ≡ false → (Fits notation facts room rules line → ⊥) → FormedStep line (Err SheetTooLarge)
    taken : all_known rules.symbols (line_names line) ≡ true → repeats rules line ≡ false → Fits notation facts room rules line → FormedStep line (Ok (with_line notation facts rules line))

  one_formed : (line : RuleLine notation) (r s : Result Rules Refusal) → FormedStep line r → FormedStep line s → r ≡ s
  one_formed line _ _ (unknown h) (unknown k) = refl
  one_formed line _ _ (unknown h) (repeated k l) = absurd (both_ways _ h k)
  one_formed line _ _ (unknown h) (too_large k l none) = absurd (both_ways _ h k)
  one_formed line _ _ (unknown h) (taken k l fits) = absurd (both_ways _ h k)
  one_formed line _ _ (repeated h l) (unknown k) = absurd (both_ways _ k h)
  one_formed line _ _ (repeated h l) (repeated k m) = refl
  one_formed line _ _ (repeated h l) (too_large k m none) = absurd (both_ways _ m l)
  one_formed line _ _ (repeated h l) (taken k m fits) = absurd (both_ways _ m l)
  one_formed line _ _ (too_large h l none) (unknown k) = absurd (both_ways _ k h)
  one_formed line _ _ (too_large h l none) (repeated k m) = absurd (both_ways _ l m)
  one_formed line _ _ (too_large h l none) (too_large k m none') = refl
  one_formed line _ _ (too_large h l none) (taken k m fits) = absurd (none fits)
  one_formed line _ _ (taken h l fits) (unknown k) = absurd (both_ways _ k h)
  one_formed line _ _ (taken h l fits) (repeated k m) = absurd (both_ways _ l m)
  one_formed line _ _ (taken h l fits) (too_large k m none) = absurd (none fits)
  one_formed line _ _ (taken h l fits) (taken k m fits') = refl

  -- the three ways in which a line is judged
  data Judged (ts : List (List ℕ)) : Result Rules Refusal → Type 0 where
    crowded : 32 < brackets ts → Judged ts (Err TooManyBrackets)
    formless : brackets ts ≤ 32 → ((line : RuleLine notation) → Form ts line → ⊥) → Judged ts (Err NoForm)
    formed : {r : Result Rules Refusal} → brackets ts ≤ 32 → (line : RuleLine notation) → Form ts line → FormedStep line r → Judged ts r

  judged : (ts : List (List ℕ)) (r : Result Rules Refusal) → RuleStep notation facts room rules ts r → Judged ts r
  judged ts _ (RuleStep.crowded many) = crowded many
  judged ts _ (RuleStep.formless few none) = formless few none
  judged ts _ (RuleStep.unknown few line form h) = formed few line form (unknown h)
  judged ts _ (RuleStep.repeated few line form h l) = formed few line form (repeated h l)
  judged ts _ (RuleStep.too_large few line form h l none) = formed few line form (too_large h l none)
  judged ts _ (RuleStep.taken few line form h l fits) = formed few line form (taken h l fits)

  one_judgement : (ts : List (List ℕ)) (r s : Result Rules Refusal) → Judged ts r → Judged ts s → r ≡ s
  one_judgement ts _ _ (crowded h) (crowded k) = refl
  one_judgement ts _ _ (crowded h) (formless few none) = absurd (omega arith)
  one_judgement ts _ s (crowded h) (formed few line form step) = absurd (omega arith)
  one_judgement ts _ _ (formless few none) (crowded k) = absurd (omega arith)
  one_judgement ts _ _ (formless few none) (formless few' none') = refl
  one_judgement ts _ s (formless few none) (formed few' line form step) = absurd (none line form)
  one_judgement ts r _ (formed few line form step) (crowded k) = absurd (omega arith)
  one_judgement ts r _ (formed few line form step) (formless few' none) = absurd (none line form)
  one_judgement ts r s (formed few line form step) (formed few' line' form' step') =
      let S : RuleLine notation → Type 0 = λ l. FormedStep l s in
      one_formed line r s step (subst S (one_form notation ts line' line form' form) step')

  pub one_step : (ts : List (List ℕ)) (r s : Result Rules Refusal) → RuleStep notation facts room rules ts r → RuleStep notation facts room rules ts s → r ≡ s
  one_step ts r s h k = one_judgement ts r s (judged ts r h) (judged ts s k)

-- a sheet has one verdict
module _ (notation : Notation) (facts : List Fact) (room : Room) (text : List ℕ) where
  one_sheet : (r s : Result Rules Fault) → RuleSheet notation facts room text r → RuleSheet notation facts room text s → r ≡ s
  one_sheet _ _ (RuleSheet.unopened f h) (RuleSheet.unopened g k) = ap Err (same_err (one_refusal (mark_of notation) text _ _ h k))
  one_sheet _ _ (RuleSheet.unopened f h) (RuleSheet.cramped k few) = absurd (ok_or_err (one_refusal (mark_of notation) text _ _ k h))
  one_sheet _ s (RuleSheet.unopened f h) (RuleSheet.opened k fits reads) = absurd (ok_or_err (one_refusal (mark_of notation) text _ _ k h))
  one_sheet _ _ (RuleSheet.cramped h few) (RuleSheet.unopened g k) = absurd (ok_or_err (one_refusal (mark_of notation) text _ _ h k))
  one_sheet _ _ (RuleSheet.cramped h few) (RuleSheet.cramped k few') = refl
  one_sheet _ s (RuleSheet.cramped h few) (RuleSheet.opened k fits reads) = absurd (omega arith)
  one_sheet r _ (RuleSheet.opened h fits reads) (RuleSheet.unopened g k) = absurd (ok_or_err (one_refusal (mark_of notation) text _ _ h k))
  one_sheet r _ (RuleSheet.opened h fits reads) (RuleSheet.cramped k few) = absurd (omega arith)
  one_sheet r s (RuleSheet.opened h fits reads) (RuleSheet.opened k fits' reads') =
      one_reading (RuleStep notation (length facts) room) (one_step notation (length facts) room) (before_lines facts) _ r s reads reads'

pub rule_laws : RuleLaws
rule_laws = record { one_verdict = one_sheet }
